use Rattle.std.proofs.Common.{rules}
use Rattle.sql_flat_law.proofs.Adding.{adds-next, adds-end}
use Rattle.sql_flat.proofs.Lists.{of_position}
use Rattle.sql_flat.proofs.statement.push_positions.Goals as goal

pub loop-item-preserved : goal.loop-item-preserved
loop-item-preserved c =
    λ new a. c.loop-item.invariant new
    (adds-next of_position c.args.items.now _ _ c.loop-item-test.true (search rules) c.in_ok-push_leaf.ensures a)

pub returns : goal.returns
returns c = c.loop-item.invariant c.loop-item.nodes.items (adds-end of_position c.args.items.now _ (search rules))
