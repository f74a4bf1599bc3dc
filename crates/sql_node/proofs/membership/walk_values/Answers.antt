use Rattle.std.proofs.Common.{rules}
use Rattle.sql_pass.proofs.Lists.{list-next, list-fail, list-end}
use Rattle.sql_node.proofs.membership.walk_values.Invariants.{written}
use Rattle.sql_node.proofs.membership.walk_values.Goals as goal

pub returns-in_err-walk_next_value : goal.returns-in_err-walk_next_value
returns-in_err-walk_next_value g c =
    c.loop-value.invariant _ _
    (list-fail (written c.args.ty) _ c.args.values.now _ c.value-item.result c.loop-value-test.true c.value-item.is
    c.in_err-walk_next_value.ensures (search rules))

pub loop-value-preserved : goal.loop-value-preserved
loop-value-preserved g c =
    λ r k w. c.loop-value.invariant r k
    (list-next (written c.args.ty) _ c.args.values.now _ c.value-item.result c.loop-value-test.true c.value-item.is
    c.in_ok-walk_next_value.ensures w)

pub returns : goal.returns
returns g c = c.loop-value.invariant _ _ (list-end (written c.args.ty) _ c.args.values.now _ (search rules))
