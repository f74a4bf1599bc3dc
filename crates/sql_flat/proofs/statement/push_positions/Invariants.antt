use Rattle.std.proofs.Common.{List, drop}
use Rattle.sql_flat_law.specs.Building.{Adds}
use Rattle.sql_flat_law.specs.Rose.{roses_of}
use Rattle.sql_flat.specs.Flat.{flat_node}
use Rattle.sql_flat.specs.declared.kind.FlatNode.{FlatNode}
use Rattle.sql_flat.proofs.Lists.{of_position}
use Rattle.sql_flat.proofs.statement.push_positions.Given as goal

abbrev pub invariant-loop-item : goal.invariant-loop-item
invariant-loop-item l =
    (new : List FlatNode) → Adds flat_node l.nodes.items (roses_of of_position (drop l.item-index l.items)) new
    → Adds flat_node l.initial.nodes.items (roses_of of_position l.items) new
