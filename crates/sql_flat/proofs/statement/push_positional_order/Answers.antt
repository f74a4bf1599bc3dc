use Rattle.sql_flat_law.proofs.Adding.{adds-node}
use Rattle.sql_flat.proofs.statement.push_positional_order.Goals as goal

pub returns-in_ok-push_positions-in-Some : goal.returns-in_ok-push_positions-in-Some
returns-in_ok-push_positions-in-Some c =
    rw (c.in-Some.is, ← c.as_slice.ensures)
    (adds-node c.in_ok-at-in-Some.ensures c.in_ok-push_positions-in-Some.ensures c.close.ensures)
