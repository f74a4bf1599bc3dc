-- Lists of values that are pushed, or shown, one by one.
use Rattle.std.proofs.Common.{◌≡◌, ℕ, ◌+◌, ◌<◌, ◌≤◌, List, [], ◌∷◌, ◌++◌, map, length, drop, get_or, Option, Some, Result, Ok, Err, refl, sym, ap, ◌∙◌, subst}
use Rattle.std.proofs.lemmas.List.{drop_more, drop_all}
use Rattle.std.specs.Fmt.{◌++?◌, comma_space, debug_items, debug_list}
use Rattle.sql_dialect.specs.declared.backend.Dialect.{Dialect}
use Rattle.sql_pass.specs.Held.{Held}
use Rattle.sql_pass.specs.Pieces.{one, ValueOnly}
use Rattle.sql_pass.specs.Walks.{Walks}
use Rattle.sql_pass.specs.declared.pass.PassError.{PassError}
use Rattle.sql_pass.specs.declared.value.Bound.{Bound}
use Rattle.sql_pass.proofs.Walking.{walks-none, walks-then, walks-fail}
use Rattle.sql_raw.specs.Boxed.{values_only}

-- ---- pushed

-- the values from i on are the one there, and those after it
values-drop : (vs : List Bound) (i : ℕ) (v : Bound) → i < length vs → v ≡ get_or vs i v
    → values_only (drop i vs) ≡ one (ValueOnly v) ++ values_only (drop (i + 1) vs)
values-drop vs i v h e =
    ap values_only (drop_more vs i v h) ∙ ap (λ y. one (ValueOnly y) ++ values_only (drop (i + 1) vs)) (sym e)

module _ {D : Type 0} {d : Dialect} {h : Held D} (vs : List Bound) (i : ℕ) where
  pub values-next : (v : Bound) → i < length vs → v ≡ get_or vs i v → {k g : Held D} {r : Result (Unit {0}) PassError}
      → Walks d h (one (ValueOnly v)) (Ok tt) k → Walks d k (values_only (drop (i + 1) vs)) r g
      → Walks d h (values_only (drop i vs)) r g
  values-next v b e {k} {g} {r} w x = subst (λ p. Walks d h p r g) (sym (values-drop vs i v b e)) (walks-then w x)

  pub values-fail : (v : Bound) → i < length vs → v ≡ get_or vs i v
      → {g : Held D} {r : Result (Unit {0}) PassError} {e : PassError} → Walks d h (one (ValueOnly v)) (Err e) g
      → r ≡ Err e → Walks d h (values_only (drop i vs)) r g
  values-fail v b e {g} {r} w a = subst (λ p. Walks d h p r g) (sym (values-drop vs i v b e)) (walks-fail _ w a)

  pub values-end : length vs ≤ i → Walks d h (values_only (drop i vs)) (Ok tt) h
  values-end b = subst (λ p. Walks d h p (Ok tt) h) (sym (ap values_only (drop_all i vs b))) walks-none

-- ---- shown

shown-items : {X Y : Type 0} (f : Y → Option (List ℕ)) (h : X → Y) (lead : List ℕ) (xs : List X)
    → debug_items (λ x. f (h x)) lead xs ≡ debug_items f lead (map h xs)
shown-items f h lead [] = refl
shown-items f h lead (x ∷ xs) = ap (λ more. Some lead ++? f (h x) ++? more) (shown-items f h comma_space xs)

-- elements are shown as what stands for each is
pub shown-list : {X Y : Type 0} (f : Y → Option (List ℕ)) (h : X → Y) (xs : List X)
    → debug_list (λ x. f (h x)) xs ≡ debug_list f (map h xs)
shown-list f h xs = ap (λ o. Some (91 ∷ []) ++? o ++? Some (93 ∷ [])) (shown-items f h [] xs)

-- two lists whose elements are shown as the same are shown as the same
pub shown-alike : {X Y : Type 0} (f : X → Option (List ℕ)) (g : Y → Option (List ℕ)) (xs : List X) (ys : List Y)
    → map f xs ≡ map g ys → debug_list f xs ≡ debug_list g ys
shown-alike f g xs ys e = shown-list (λ o. o) f xs ∙ ap (debug_list (λ o. o)) e ∙ sym (shown-list (λ o. o) g ys)
