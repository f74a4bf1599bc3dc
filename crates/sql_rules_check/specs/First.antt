-- The first of a list of rules that is broken.
use Rattle.std.specs.Prelude.{◌≡◌, List, ◌∷◌, ◌++◌, Option, None, Some, take}
use Rattle.sql_rules.specs.Lists.{Each}
use Rattle.sql_rules.specs.Rules.{all_rules}
use Rattle.sql_rules.specs.declared.rule.Rule.{Rule}

-- P holds of this one, and of none before it; or of none at all
abbrev pub IsFirst : {X : Type 0} → (X → Type 0) → List X → Option X → Type 0
IsFirst P xs None = Each (λ y. ¬ P y) xs
IsFirst {X} P xs (Some x) = P x × ((front rest : List X) × (xs ≡ front ++ x ∷ rest) × Each (λ y. ¬ P y) front)

-- those of statements inside a statement: all but the last, TooManyBinds, which is of the whole
abbrev pub inner_rules : List Rule
inner_rules = take 13 all_rules
