use Rattle.std.proofs.Common.{sym, ◌∙◌}
use Rattle.sql_rules.specs.declared.rule.Rule.TheVariants.{UnknownName}
use Rattle.sql_rules_check.specs.inside.Flags.{IsUp}
use Rattle.sql_rules_check.proofs.Firsts.{first_here}
use Rattle.sql_rules_check.proofs.flags.Flags.first_of.Goals as goal

pub returns-then-is_up : goal.returns-then-is_up
returns-then-is_up c =
    first_here (IsUp c.args.self) c.args.rules.now c.loop-rule.rule-index UnknownName c.loop-rule-test.true
    c.loop-rule.invariant (sym c.is_up.ensures ∙ c.if-is_up.true)
