use Rattle.std.proofs.Common.{◌≡◌, ◌+◌, ◌*◌, map}
use Rattle.sql_tool_document.specs.inside.Seen.{items_seen}
use Rattle.sql_build_syntax.specs.View.{expr_tree, call_tree, order_item_tree}
use Rattle.sql_tool_document.specs.Members.{each}
use Rattle.sql_tool_document.specs.Queries.{expr_of, call_of, item_of}
use Rattle.sql_tool_document.proofs.EachItem.{with_front, rest_of}
use Rattle.sql_tool_document.proofs.+decode.Given as goal

abbrev pub decreases-expr::expr : goal.decreases-expr::expr
decreases-expr::expr l = 8 * l.depth + 0

abbrev pub decreases-expr::exprs : goal.decreases-expr::exprs
decreases-expr::exprs l = 8 * l.depth + 1

abbrev pub decreases-expr::member : goal.decreases-expr::member
decreases-expr::member l = 8 * l.depth + 4

abbrev pub decreases-expr::operation : goal.decreases-expr::operation
decreases-expr::operation l = 8 * l.depth + 3

abbrev pub decreases-expr::binary : goal.decreases-expr::binary
decreases-expr::binary l = 8 * l.depth + 1

abbrev pub decreases-expr::quantified : goal.decreases-expr::quantified
decreases-expr::quantified l = 8 * l.depth + 2

abbrev pub decreases-expr::membership : goal.decreases-expr::membership
decreases-expr::membership l = 8 * l.depth + 1

abbrev pub decreases-expr::condition : goal.decreases-expr::condition
decreases-expr::condition l = 8 * l.depth + 1

abbrev pub decreases-source::source : goal.decreases-source::source
decreases-source::source l = 8 * l.depth + 0

abbrev pub decreases-source::source_item : goal.decreases-source::source_item
decreases-source::source_item l = 8 * l.depth + 1

abbrev pub decreases-source::join : goal.decreases-source::join
decreases-source::join l = 8 * l.depth + 2

abbrev pub decreases-query::query : goal.decreases-query::query
decreases-query::query l = 8 * l.depth + 0

abbrev pub decreases-query::start : goal.decreases-query::start
decreases-query::start l = 8 * l.depth + 1

abbrev pub decreases-query::calls : goal.decreases-query::calls
decreases-query::calls l = 8 * l.depth + 2

abbrev pub decreases-query::each_call : goal.decreases-query::each_call
decreases-query::each_call l = 8 * l.depth + 1

abbrev pub decreases-call::call : goal.decreases-call::call
decreases-call::call l = 8 * l.depth + 0

abbrev pub decreases-call::named_call : goal.decreases-call::named_call
decreases-call::named_call l = 8 * l.depth + 6

abbrev pub decreases-call::clause : goal.decreases-call::clause
decreases-call::clause l = 8 * l.depth + 1

abbrev pub decreases-call::join_call : goal.decreases-call::join_call
decreases-call::join_call l = 8 * l.depth + 2

abbrev pub decreases-call::combined : goal.decreases-call::combined
decreases-call::combined l = 8 * l.depth + 1

abbrev pub decreases-call::last_calls : goal.decreases-call::last_calls
decreases-call::last_calls l = 8 * l.depth + 5

abbrev pub decreases-call::argument_call : goal.decreases-call::argument_call
decreases-call::argument_call l = 8 * l.depth + 4

abbrev pub decreases-call::list_call : goal.decreases-call::list_call
decreases-call::list_call l = 8 * l.depth + 3

abbrev pub decreases-order::items : goal.decreases-order::items
decreases-order::items l = 8 * l.depth + 2

abbrev pub decreases-order::item : goal.decreases-order::item
decreases-order::item l = 8 * l.depth + 1

abbrev pub invariant-expr::exprs-loop-item : goal.invariant-expr::exprs-loop-item
invariant-expr::exprs-loop-item l =
    with_front (map expr_tree l.all.items) (each (expr_of l.depth) (rest_of l.item-items l.item-index))
    ≡ each (expr_of l.depth) (items_seen l.item-items)

abbrev pub invariant-query::each_call-loop-item : goal.invariant-query::each_call-loop-item
invariant-query::each_call-loop-item l =
    with_front (map call_tree l.all.items) (each (call_of l.depth) (rest_of l.item-items l.item-index))
    ≡ each (call_of l.depth) (items_seen l.item-items)

abbrev pub invariant-order::items-loop-one : goal.invariant-order::items-loop-one
invariant-order::items-loop-one l =
    with_front (map order_item_tree l.all.items) (each (item_of (expr_of l.depth)) (rest_of l.one-items l.one-index))
    ≡ each (item_of (expr_of l.depth)) (items_seen l.one-items)
