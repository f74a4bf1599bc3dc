use Rattle.std.proofs.Common.{rules}
use Rattle.sql_pass.proofs.Lists.{list-next, list-fail, list-end}
use Rattle.sql_node.proofs.combination.walk_positions.Invariants.{written}
use Rattle.sql_node.proofs.combination.walk_positions.Goals as goal

pub returns-in_err-walk_next_position : goal.returns-in_err-walk_next_position
returns-in_err-walk_next_position g c =
    c.loop-item.invariant _ _
    (list-fail written _ c.args.items.now _ _ c.loop-item-test.true (search rules)
    c.in_err-walk_next_position.ensures (search rules))

pub loop-item-preserved : goal.loop-item-preserved
loop-item-preserved g c =
    λ r k w. c.loop-item.invariant r k
    (list-next written _ c.args.items.now _ _ c.loop-item-test.true (search rules)
    c.in_ok-walk_next_position.ensures w)

pub returns : goal.returns
returns g c = c.loop-item.invariant _ _ (list-end written _ c.args.items.now _ (search rules))
