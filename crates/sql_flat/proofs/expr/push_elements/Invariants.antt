use Rattle.std.proofs.Common.{List, drop}
use Rattle.sql_flat_law.specs.Building.{Adds}
use Rattle.sql_flat_law.specs.Rose.{roses_of}
use Rattle.sql_flat.specs.Flat.{flat_node}
use Rattle.sql_flat.specs.declared.kind.FlatNode.{FlatNode}
use Rattle.sql_flat.proofs.Lists.{of_element}
use Rattle.sql_flat.proofs.expr.push_elements.Given as goal

abbrev pub invariant-loop-value : goal.invariant-loop-value
invariant-loop-value l =
    (new : List FlatNode) → Adds flat_node l.nodes.items (roses_of (of_element l.ty) (drop l.value-index l.values)) new
    → Adds flat_node l.initial.nodes.items (roses_of (of_element l.ty) l.values) new
