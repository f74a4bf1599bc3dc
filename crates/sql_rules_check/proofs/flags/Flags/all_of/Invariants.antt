use Rattle.std.proofs.Common.{take}
use Rattle.sql_rules.specs.Lists.{Selects}
use Rattle.sql_rules_check.specs.inside.Flags.{IsUp}
use Rattle.sql_rules_check.proofs.flags.Flags.all_of.Given as goal

abbrev pub invariant-loop-rule : goal.invariant-loop-rule
invariant-loop-rule l = Selects (IsUp l.self) (take l.rule-index l.rules) l.all.items
