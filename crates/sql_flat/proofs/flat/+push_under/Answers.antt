use Rattle.std.proofs.Common.{rules}
use Rattle.sql_node.specs.View.{expr_tree}
use Rattle.sql_flat_law.proofs.Adding.{adds-node}
use Rattle.sql_flat.proofs.Under.{under-front}
use Rattle.sql_flat.proofs.flat.+push_under.Goals as goal

pub returns : goal.returns
returns t c =
    rw (under-front c.args.nullables (expr_tree c.args.expr.now) (search rules))
    (adds-node c.in_ok-at.ensures c.in_ok-push_under.ensures c.close.ensures)
