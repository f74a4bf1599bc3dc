use Rattle.std.proofs.Common.{List, drop}
use Rattle.sql_flat_law.specs.Building.{Adds}
use Rattle.sql_flat_law.specs.Rose.{roses_of}
use Rattle.sql_flat.specs.Flat.{flat_node}
use Rattle.sql_flat.specs.declared.kind.FlatNode.{FlatNode}
use Rattle.sql_flat.proofs.Lists.{of_expr, of_item}
use Rattle.sql_flat.proofs.+walk.Given as goal

abbrev pub invariant-expr::push_exprs-loop-expr : goal.invariant-expr::push_exprs-loop-expr
invariant-expr::push_exprs-loop-expr l =
    (new : List FlatNode) → Adds flat_node l.nodes.items (roses_of of_expr (drop l.expr-index l.exprs)) new
    → Adds flat_node l.initial.nodes.items (roses_of of_expr l.exprs) new

abbrev pub invariant-clause::push_items-loop-item : goal.invariant-clause::push_items-loop-item
invariant-clause::push_items-loop-item l =
    (new : List FlatNode) → Adds flat_node l.nodes.items (roses_of of_item (drop l.item-index l.items)) new
    → Adds flat_node l.initial.nodes.items (roses_of of_item l.items) new
