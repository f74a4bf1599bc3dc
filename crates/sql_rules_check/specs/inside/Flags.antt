-- Which flag is which rule's.
use Rattle.std.specs.Prelude.{◌≡◌, Bool, false, true}
use Rattle.std.specs.Bool.{Decides}
use Rattle.sql_schema.specs.Declarations.{Declarations}
use Rattle.sql_dialect.specs.declared.backend.Dialect.{Dialect}
use Rattle.sql_node.specs.Tree.{Statement}
use Rattle.sql_rules.specs.Lists.{Each}
use Rattle.sql_rules.specs.Rules.{Broken}
use Rattle.sql_rules.specs.declared.rule.Rule.{Rule}
use Rattle.sql_rules.specs.declared.rule.Rule.TheVariants as R
use Rattle.sql_rules_check.specs.First.{inner_rules}
use Rattle.sql_rules_check.specs.declared.flags.Flags.{Flags}

abbrev pub flag : Flags → Rule → Bool
flag f R.UnknownName = f.scoped.unknown_name
flag f R.Incompatible = f.incompatible
flag f R.EmptyList = f.empty
flag f R.NoRelation = f.scoped.no_relation
flag f R.Ambiguous = f.scoped.ambiguous
flag f R.NotTogether = f.scoped.not_together
flag f R.NameClash = f.scoped.name_clash
flag f R.NotInScope = f.scoped.not_in_scope
flag f R.TypeMismatch = f.mismatched
flag f R.NeedsNullable = f.lacks_nullable
flag f R.Grouping = f.misgrouped
flag f R.InvalidDistinctOrder = f.order_invalid
flag f R.Unsupported = f.unsupported
flag f R.TooManyBinds = false

abbrev pub IsUp : Flags → Rule → Type 0
IsUp f r = flag f r ≡ true

-- the flags of the rules, but for the last, say which of them the statement breaks
abbrev pub AreOf : Declarations → Dialect → Statement → Flags → Type 0
AreOf schema d s f = Each (λ r. Decides (flag f r) (Broken r schema d s)) inner_rules
