use Rattle.std.proofs.Common.{◌≡◌, drop, map, max}
use Rattle.sql_build_depth.specs.Depth.{after_calls, begun, exprs_depth, items_depth, key_depth}
use Rattle.sql_build_syntax.specs.View.{call_tree, calls_of, expr_tree, exprs_of, items_of, order_item_tree}
use Rattle.sql_build_depth.specs.inside.Capped.{capped, capped_depths}
use Rattle.sql_build_depth.proofs.depth.+depth.Given as goal

abbrev pub invariant-after_calls-loop-call : goal.invariant-after_calls-loop-call
invariant-after_calls-loop-call l =
    (capped_depths (after_calls (calls_of (map call_tree (drop l.call-index l.calls))) l.depths)
    ≡ capped_depths (after_calls (calls_of (map call_tree l.calls)) (begun l.fn.source l.fn.start)))
    × (capped_depths l.depths ≡ l.depths)

abbrev pub invariant-key_depth-loop-expr : goal.invariant-key_depth-loop-expr
invariant-key_depth-loop-expr l =
    (capped (key_depth (exprs_of (map expr_tree (drop l.expr-index l.key))) l.depth)
    ≡ capped (key_depth (exprs_of (map expr_tree l.key)) l.fn.before))
    × (capped l.depth ≡ l.depth)

abbrev pub invariant-exprs_depth-loop-expr : goal.invariant-exprs_depth-loop-expr
invariant-exprs_depth-loop-expr l =
    max l.depth (capped (exprs_depth (exprs_of (map expr_tree (drop l.expr-index l.exprs)))))
    ≡ capped (exprs_depth (exprs_of (map expr_tree l.exprs)))

abbrev pub invariant-items_depth-loop-item : goal.invariant-items_depth-loop-item
invariant-items_depth-loop-item l =
    max l.depth (capped (items_depth (items_of (map order_item_tree (drop l.item-index l.items)))))
    ≡ capped (items_depth (items_of (map order_item_tree l.items)))
