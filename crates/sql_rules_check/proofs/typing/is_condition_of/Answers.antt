use Rattle.std.proofs.Common.{ap, ◌∙◌}
use Rattle.sql_rules_check.specs.inside.Typing.{is_condition}
use Rattle.sql_rules_check.proofs.Rooted.{condition-root}
use Rattle.sql_rules_check.proofs.typing.is_condition_of.Goals as goal

pub returns : goal.returns
returns c =
    λ e is. condition-root e c.args.nodes.now c.in_ok-done.field-0.done.items c.is_condition.result is
    c.in_ok-done.ensures.done (c.is_condition.ensures ∙ ap is_condition c.next_type.ensures.given)
