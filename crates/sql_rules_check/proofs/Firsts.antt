-- The first element of which something holds, looked for one by one.
use Rattle.std.proofs.Common.{ℕ, ◌+◌, ◌<◌, List, ◌++◌, length, take, drop, get_or, Some, sym, ap, ◌∙◌}
use Rattle.std.proofs.lemmas.List.{drop_more, take-append-drop}
use Rattle.sql_rules.specs.Lists.{Each}
use Rattle.sql_rules_check.specs.First.{IsFirst}

pub first_here : {X : Type 0} (P : X → Type 0) (xs : List X) (i : ℕ) (d : X) → i < length xs
    → Each (λ y. ¬ P y) (take i xs) → P (get_or xs i d)
    → IsFirst P xs (Some (get_or xs i d))
first_here P xs i d l none p = (
  p,
  (
    take i xs,
    drop (i + 1) xs,
    sym (ap (λ ys. take i xs ++ ys) (sym (drop_more xs i d l)) ∙ take-append-drop i xs),
    none,
  ),
)
