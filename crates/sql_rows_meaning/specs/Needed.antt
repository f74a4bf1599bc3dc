-- The example keeps the rules, so the laws are of something; and the rule NeedsNullable is needed.
use Rattle.std.specs.Prelude.{◌≡◌, ◌↔◌, false, List, [], ◌∷◌, None, Some, map}
use Rattle.sql_schema.specs.Refusals.{least_refusal}
use Rattle.sql_schema.specs.declared.types.Base.TheVariants as base
use Rattle.sql_schema.specs.declared.types.SqlType.{SqlType}
use Rattle.sql_dialect.specs.declared.backend.Dialect.{Dialect}
use Rattle.sql_rules.specs.Lists.{AnyOf, Each}
use Rattle.sql_rules.specs.Rules.{Accepted, Broken}
use Rattle.sql_rules.specs.Scope.{parts}
use Rattle.sql_rules.specs.Types.{columns}
use Rattle.sql_rules.specs.declared.rule.Rule.{Rule}
use Rattle.sql_rules.specs.declared.rule.Rule.TheVariants.{NeedsNullable}
use Rattle.sql_rows_meaning.specs.Answers.{Answers}
use Rattle.sql_rows_meaning.specs.Example.{blog, database, statement, bare_statement}
use Rattle.sql_rows_meaning.specs.Fitting.{RowFits, Conforms, CountsBeside}
use Rattle.sql_rows_meaning.specs.Rows.{Row, NullPlaces}

-- The example's declarations make a schema, its database conforms to that, and its statement breaks no rule in any dialect and
-- counts nothing.
pub record ExampleIsAccepted : Type 0 where
  pub declared : least_refusal blog ≡ None
  pub conforms : Conforms blog database
  pub accepted : (d : Dialect) → Accepted blog d statement
  pub uncounted : ¬ AnyOf CountsBeside (parts [] statement)

-- Integer and Text, neither of them nullable
abbrev pub bare_types : List SqlType
bare_types = record { base = base.Integer; nullable = false } ∷ (record { base = base.Text; nullable = false } ∷ [])

-- The same statement with its title under no nullable breaks that rule alone, whatever the dialect. Its columns would be of
-- these types, but it has an answer over the example's database that does not fit them.
pub record RuleIsNeeded : Type 0 where
  pub alone : (d : Dialect) (r : Rule) → Broken r blog d bare_statement ↔ (r ≡ NeedsNullable)
  pub uncounted : ¬ AnyOf CountsBeside (parts [] bare_statement)
  pub types : map Some bare_types ≡ columns bare_statement
  pub unfit : (places : NullPlaces)
      → (answer : List Row) × Answers places bare_statement database [] answer × ¬ Each (RowFits bare_types) answer
