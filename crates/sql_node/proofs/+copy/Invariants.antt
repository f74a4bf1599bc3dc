use Rattle.std.proofs.Common.{◌≡◌, map, take}
use Rattle.sql_node.specs.View.{expr_tree, order_item_tree}
use Rattle.sql_node.proofs.+copy.Given as goal

abbrev pub invariant-expr::clone_exprs-loop-expr : goal.invariant-expr::clone_exprs-loop-expr
invariant-expr::clone_exprs-loop-expr l = map expr_tree l.all.items ≡ map expr_tree (take l.expr-index l.exprs)

abbrev pub invariant-order::clone_items-loop-item : goal.invariant-order::clone_items-loop-item
invariant-order::clone_items-loop-item l =
    map order_item_tree l.all.items ≡ map order_item_tree (take l.item-index l.items)
