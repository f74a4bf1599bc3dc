-- The stack of open nodes, when its top is looked at or closed, and what is said of each.
use Rattle.std.proofs.Common.{◌≡◌, ℕ, ◌+◌, ◌-◌, ◌<◌, ◌≤◌, Bool, true, false, cond, List, [], ◌∷◌, ◌++◌, Some, drop, get_or, length, ltb, map, slice_get, take, refl, sym, ap, ◌∙◌, arith}
use Rattle.std.specs.Option.{unwrap_or}
use Rattle.std.proofs.lemmas.Bool.{lt-ltb, le-ltb}
use Rattle.std.proofs.lemmas.List.{reverse-append, drop_more, drop_all, take-append-drop}
use Rattle.std.proofs.lemmas.Option.{slice_get_within, slice_get-get_or}
use Rattle.sql_flat_law.specs.declared.opened.Opened.{Opened}
use Rattle.sql_flat_law.specs.Opened.{opens, pair_of, still_open}
use Rattle.sql_flat_law.specs.Seen.{seen}

-- the last of a list, after the others
last-is : {X : Type 0} (xs : List X) (x : X) → slice_get xs (length xs - 1) ≡ Some x
    → xs ≡ take (length xs - 1) xs ++ x ∷ []
last-is xs x h =
    let i = length xs - 1 in
    let l : i < length xs = slice_get_within xs i x h in
    let g : get_or xs i x ≡ x = ap (λ o. unwrap_or o x) (sym (slice_get-get_or xs i x l) ∙ h) in
    sym (take-append-drop i xs)
    ∙ ap (λ ys. take i xs ++ ys)
    (drop_more xs i x l ∙ (λ j. g j ∷ drop (i + 1) xs)
    ∙ ap (λ ys. x ∷ ys) (drop_all (i + 1) xs (omega arith)))

module _ {V : Type 0} where
  pub opens-push : (os : List (Opened V)) (o : Opened V) → opens (os ++ o ∷ []) ≡ pair_of o ∷ opens os
  opens-push os o = ap (map pair_of) (reverse-append os (o ∷ []))

  pub open-stays : (i : ℕ) (all os : List (Opened V)) (o : Opened V) → all ≡ os ++ o ∷ [] → i < o.end
      → still_open i (opens all) ≡ opens all
  open-stays i all os o is h = rw (ap opens is ∙ opens-push os o, lt-ltb i o.end h) refl

  pub open-ends : (i : ℕ) (all os : List (Opened V)) (o : Opened V) → all ≡ os ++ o ∷ [] → o.end ≤ i
      → still_open i (opens all) ≡ still_open i (opens os)
  open-ends i all os o is h = rw (ap opens is ∙ opens-push os o, le-ltb i o.end h) refl

  -- the top of the stack
  pub last-opens : (os : List (Opened V)) (o : Opened V) → slice_get os (length os - 1) ≡ Some o
      → opens os ≡ pair_of o ∷ opens (take (length os - 1) os)
  last-opens os o h = ap opens (last-is os o h) ∙ opens-push (take (length os - 1) os) o

pub ruleset opening = (opens-push, open-stays, open-ends)

pub seen-open : {V W : Type 0} (f : V → W) (i : ℕ) (σ : List (ℕ × V))
    → seen f (still_open i σ) ≡ still_open i (seen f σ)
seen-open f i [] = refl
seen-open f i (p ∷ σ) = by_test (ltb i p.0) (seen-open f i σ)
  where
    by_test : (b : Bool) → seen f (still_open i σ) ≡ still_open i (seen f σ)
        → seen f (cond b (p ∷ σ) (still_open i σ)) ≡ cond b (seen f (p ∷ σ)) (still_open i (seen f σ))
    by_test true h = refl
    by_test false h = h
