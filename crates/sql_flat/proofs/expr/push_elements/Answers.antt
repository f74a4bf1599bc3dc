use Rattle.std.proofs.Common.{rules}
use Rattle.sql_flat_law.proofs.Adding.{adds-next, adds-end}
use Rattle.sql_flat.proofs.Lists.{of_element}
use Rattle.sql_flat.proofs.expr.push_elements.Goals as goal

pub loop-value-preserved : goal.loop-value-preserved
loop-value-preserved c =
    λ new a. c.loop-value.invariant new
    (adds-next (of_element c.args.ty) c.args.values.now _ _ c.loop-value-test.true (search rules)
    c.in_ok-push_element.ensures a)

pub returns : goal.returns
returns c =
    c.loop-value.invariant c.loop-value.nodes.items
    (adds-end (of_element c.args.ty) c.args.values.now _ (search rules))
