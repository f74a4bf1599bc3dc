-- The names of the rules, as answers have them.
use Rattle.std.specs.Prelude.{ℕ, List, codes}
use Rattle.sql_rules.specs.declared.rule.Rule.{Rule}
use Rattle.sql_rules.specs.declared.rule.Rule.TheVariants as R

abbrev pub rule_text : Rule → List ℕ
rule_text R.UnknownName = codes "UnknownName"
rule_text R.Incompatible = codes "Incompatible"
rule_text R.EmptyList = codes "EmptyList"
rule_text R.NoRelation = codes "NoRelation"
rule_text R.Ambiguous = codes "Ambiguous"
rule_text R.NotTogether = codes "NotTogether"
rule_text R.NameClash = codes "NameClash"
rule_text R.NotInScope = codes "NotInScope"
rule_text R.TypeMismatch = codes "TypeMismatch"
rule_text R.NeedsNullable = codes "NeedsNullable"
rule_text R.Grouping = codes "Grouping"
rule_text R.InvalidDistinctOrder = codes "InvalidDistinctOrder"
rule_text R.Unsupported = codes "Unsupported"
rule_text R.TooManyBinds = codes "TooManyBinds"
