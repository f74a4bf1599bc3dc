use Rattle.sql_flat_law.proofs.Adding.{adds-node}
use Rattle.sql_flat.proofs.expr.push_values.Goals as goal

pub returns : goal.returns
returns c = adds-node c.in_ok-at.ensures c.in_ok-push_elements.ensures c.close.ensures
