use Rattle.std.proofs.Common.{◌≡◌, map, drop}
use Rattle.sql_node.specs.View.{expr_tree, exprs_of, items_of, order_item_tree}
use Rattle.sql_shape.specs.Nodes.{all_exprs, all_items}
use Rattle.sql_shape.proofs.nodes.+nodes.Given as goal

abbrev pub invariant-exprs_pass-loop-expr : goal.invariant-exprs_pass-loop-expr
invariant-exprs_pass-loop-expr g l =
    all_exprs g.T.NodeTest.tests (exprs_of (map expr_tree (drop l.expr-index l.exprs)))
    ≡ all_exprs g.T.NodeTest.tests (exprs_of (map expr_tree l.exprs))

abbrev pub invariant-items_pass-loop-item : goal.invariant-items_pass-loop-item
invariant-items_pass-loop-item g l =
    all_items g.T.NodeTest.tests (items_of (map order_item_tree (drop l.item-index l.items)))
    ≡ all_items g.T.NodeTest.tests (items_of (map order_item_tree l.items))
