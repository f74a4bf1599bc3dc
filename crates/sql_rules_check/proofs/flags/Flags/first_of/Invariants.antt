use Rattle.std.proofs.Common.{take}
use Rattle.sql_rules.specs.Lists.{Each}
use Rattle.sql_rules_check.specs.inside.Flags.{IsUp}
use Rattle.sql_rules_check.proofs.flags.Flags.first_of.Given as goal

abbrev pub invariant-loop-rule : goal.invariant-loop-rule
invariant-loop-rule l = Each (λ r. ¬ IsUp l.self r) (take l.rule-index l.rules)
