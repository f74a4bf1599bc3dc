-- A walk over a list of parts, one element at a time.
use Rattle.std.proofs.Common.{◌≡◌, ℕ, ◌+◌, ◌<◌, ◌≤◌, Bool, false, List, [], ◌++◌, map, length, drop, get_or, Result, Ok, Err, sym, ap, ◌∙◌, subst}
use Rattle.std.proofs.lemmas.List.{drop_more, drop_all}
use Rattle.sql_dialect.specs.declared.backend.Dialect.{Dialect}
use Rattle.sql_pass.specs.Commas.{next_of, commas}
use Rattle.sql_pass.specs.Pieces.{Piece}
use Rattle.sql_pass.specs.Held.{Held}
use Rattle.sql_pass.specs.Walks.{Walks}
use Rattle.sql_pass.specs.declared.pass.PassError.{PassError}
use Rattle.sql_pass.proofs.Walking.{walks-none, walks-then, walks-fail}

-- the elements from i on are the one there, and those after it
commas-drop : {X : Type 0} (f : X → List Piece) (first : Bool) (xs : List X) (i : ℕ) (x : X) → i < length xs
    → x ≡ get_or xs i x
    → commas first (map f (drop i xs)) ≡ next_of first (f x) ++ commas false (map f (drop (i + 1) xs))
commas-drop f first xs i x h e =
    ap (λ l. commas first (map f l)) (drop_more xs i x h)
    ∙ ap (λ y. next_of first (f y) ++ commas false (map f (drop (i + 1) xs))) (sym e)

commas-end : {X : Type 0} (f : X → List Piece) (first : Bool) (xs : List X) (i : ℕ) → length xs ≤ i
    → commas first (map f (drop i xs)) ≡ []
commas-end f first xs i h = ap (λ l. commas first (map f l)) (drop_all i xs h)

-- a loop over a list, at its element x at i
module _ {X : Type 0} (f : X → List Piece) {D : Type 0} {d : Dialect} {h : Held D} (first : Bool) (xs : List X) (i : ℕ) where
  pub list-next : (x : X) → i < length xs → x ≡ get_or xs i x → {k g : Held D} {r : Result (Unit {0}) PassError}
      → Walks d h (next_of first (f x)) (Ok tt) k → Walks d k (commas false (map f (drop (i + 1) xs))) r g
      → Walks d h (commas first (map f (drop i xs))) r g
  list-next x b e {k} {g} {r} v w = subst (λ p. Walks d h p r g) (sym (commas-drop f first xs i x b e)) (walks-then v w)

  pub list-fail : (x : X) → i < length xs → x ≡ get_or xs i x
      → {g : Held D} {r : Result (Unit {0}) PassError} {e : PassError} → Walks d h (next_of first (f x)) (Err e) g
      → r ≡ Err e → Walks d h (commas first (map f (drop i xs))) r g
  list-fail x b e {g} {r} v a = subst (λ p. Walks d h p r g) (sym (commas-drop f first xs i x b e)) (walks-fail _ v a)

  pub list-end : length xs ≤ i → Walks d h (commas first (map f (drop i xs))) (Ok tt) h
  list-end b = subst (λ p. Walks d h p (Ok tt) h) (sym (commas-end f first xs i b)) walks-none
