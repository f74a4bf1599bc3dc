use Rattle.std.proofs.Common.{◌≡◌, map, take}
use Rattle.sql_node.specs.View.{expr_tree, order_item_tree}
use Rattle.sql_guard_law.specs.Guarded.{guarded_expr}
use Rattle.sql_guard.specs.inside.Guarding.{guarded_item}
use Rattle.sql_guard.proofs.leaves.Guard.+guarded.Given as goal

abbrev pub invariant-exprs-loop-expr : goal.invariant-exprs-loop-expr
invariant-exprs-loop-expr l =
    map expr_tree l.all.items
    ≡ map (guarded_expr l.self.table.now (expr_tree l.self.predicate.now)) (map expr_tree (take l.expr-index l.exprs))

abbrev pub invariant-items-loop-item : goal.invariant-items-loop-item
invariant-items-loop-item l =
    map order_item_tree l.all.items
    ≡ map (guarded_item l.self.table.now (expr_tree l.self.predicate.now)) (map order_item_tree (take l.item-index l.items))
