-- Declarations that make a schema, and a statement that breaks none of the rules.
use Rattle.std.proofs.Common.{◌≡◌, ◌<◌, None, length, refl, subst, arith}
use Rattle.sql_schema.specs.Refusals.{least_refusal}
use Rattle.sql_dialect.specs.declared.backend.Dialect.{Dialect}
use Rattle.sql_dialect.specs.declared.backend.Dialect.TheVariants.{Pg, Mysql, Sqlite, Bracket}
use Rattle.sql_pass.specs.Pieces.{one, values_of}
use Rattle.sql_node.specs.Pieces.{pieces}
use Rattle.sql_rules.specs.Rules.{Accepted}
use Rattle.sql_rules.specs.declared.rule.Rule.TheVariants as R
use Rattle.sql_rules_law.specs.Examples.{one_table, first_users}

pub declared : least_refusal one_table ≡ None
unfolding least_refusal
declared = refl

one-value : (d : Dialect) → length (values_of (pieces d first_users)) ≡ 1
unfolding one
one-value Pg = refl
one-value Mysql = refl
one-value Sqlite = refl
one-value Bracket = refl

few-values : (d : Dialect) → 4294967295 < length (values_of (pieces d first_users)) → ⊥
few-values d l = let k : 4294967295 < 1 = subst (λ n. 4294967295 < n) (one-value d) l in omega arith

pub accepted : (d : Dialect) → Accepted one_table d first_users
accepted d R.UnknownName = λ h. grind arith
accepted d R.Incompatible = λ h. grind arith
accepted d R.EmptyList = λ h. grind arith
accepted d R.NoRelation = λ h. grind arith
accepted d R.Ambiguous = λ h. grind arith
accepted d R.NotTogether = λ h. grind arith
accepted d R.NameClash = λ h. grind arith
accepted d R.NotInScope = λ h. grind arith
accepted d R.TypeMismatch = λ h. grind arith
accepted d R.NeedsNullable = λ h. grind arith
accepted d R.Grouping = λ h. grind arith
accepted d R.InvalidDistinctOrder = λ h. grind arith
accepted d R.Unsupported = λ h. grind arith
accepted d R.TooManyBinds = λ h. few-values d h.1
