-- The first of the rules that are broken, and that none is where no rule but the last could be and that one is not.
use Rattle.std.proofs.Common.{None, Some, [], ◌∷◌, ◌++◌, ap, refl, ◌∙◌, append_assoc}
use Rattle.sql_schema.specs.Declarations.{Declarations}
use Rattle.sql_dialect.specs.declared.backend.Dialect.{Dialect}
use Rattle.sql_node.specs.Tree.{Statement}
use Rattle.sql_rules.specs.Rules.{Accepted, Broken, HasTooManyBinds}
use Rattle.sql_rules.specs.declared.rule.Rule.{Rule}
use Rattle.sql_rules.specs.declared.rule.Rule.TheVariants as R
use Rattle.sql_rules_check.specs.First.{IsFirst, inner_rules}
use Rattle.sql_check.specs.Compiled.{IsLeast}

module _ (schema : Declarations) (d : Dialect) (s : Statement) where
  pub first_least : (r : Rule) → IsFirst (λ q. Broken q schema d s) inner_rules (Some r) → IsLeast r schema d s
  first_least r (broken, (front, rest, is, none)) = record {
    broken = broken;
    before = (
      front,
      rest ++ R.TooManyBinds ∷ [],
      ap (λ rules. rules ++ R.TooManyBinds ∷ []) is ∙ append_assoc front (r ∷ rest) (R.TooManyBinds ∷ []),
      none,
    );
  }

  pub last_least : IsFirst (λ q. Broken q schema d s) inner_rules None → HasTooManyBinds d s
      → IsLeast R.TooManyBinds schema d s
  last_least none many = record { broken = many; before = (inner_rules, [], refl, none) }

  pub is_accepted : IsFirst (λ q. Broken q schema d s) inner_rules None → ¬ HasTooManyBinds d s → Accepted schema d s
  is_accepted none few R.UnknownName = none.0
  is_accepted none few R.Incompatible = none.1.0
  is_accepted none few R.EmptyList = none.1.1.0
  is_accepted none few R.NoRelation = none.1.1.1.0
  is_accepted none few R.Ambiguous = none.1.1.1.1.0
  is_accepted none few R.NotTogether = none.1.1.1.1.1.0
  is_accepted none few R.NameClash = none.1.1.1.1.1.1.0
  is_accepted none few R.NotInScope = none.1.1.1.1.1.1.1.0
  is_accepted none few R.TypeMismatch = none.1.1.1.1.1.1.1.1.0
  is_accepted none few R.NeedsNullable = none.1.1.1.1.1.1.1.1.1.0
  is_accepted none few R.Grouping = none.1.1.1.1.1.1.1.1.1.1.0
  is_accepted none few R.InvalidDistinctOrder = none.1.1.1.1.1.1.1.1.1.1.1.0
  is_accepted none few R.Unsupported = none.1.1.1.1.1.1.1.1.1.1.1.1.0
  is_accepted none few R.TooManyBinds = few
