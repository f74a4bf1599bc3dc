-- The rule that an error names.
use Rattle.std.specs.Prelude.{Option, None, Some}
use Rattle.sql_rules.specs.declared.rule.Rule.{Rule}
use Rattle.sql_rules.specs.declared.rule.Rule.TheVariants as rule
use Rattle.sql_check.specs.declared.error.CompileError.{CompileError}
use Rattle.sql_check.specs.declared.error.CompileError.TheVariants as error

abbrev pub rule_of : CompileError → Option Rule
rule_of error.UnknownName = Some rule.UnknownName
rule_of error.Incompatible = Some rule.Incompatible
rule_of error.EmptyList = Some rule.EmptyList
rule_of error.NoRelation = Some rule.NoRelation
rule_of error.Ambiguous = Some rule.Ambiguous
rule_of error.NotTogether = Some rule.NotTogether
rule_of error.NameClash = Some rule.NameClash
rule_of error.NotInScope = Some rule.NotInScope
rule_of error.TypeMismatch = Some rule.TypeMismatch
rule_of error.NeedsNullable = Some rule.NeedsNullable
rule_of error.Grouping = Some rule.Grouping
rule_of error.InvalidDistinctOrder = Some rule.InvalidDistinctOrder
rule_of error.Unsupported = Some rule.Unsupported
rule_of error.TooManyBinds = Some rule.TooManyBinds
rule_of error.NoMemory = None
