use Rattle.std.proofs.Common.{◌≡◌, ◌++◌, ◌∷◌, [], map}
use Rattle.std.proofs.lemmas.Result.{err_from_is_err_and}
use Rattle.std.proofs.lemmas.List.{map_push}
use Rattle.sql_tool_document.specs.inside.Seen.{items_seen}
use Rattle.sql_build_syntax.specs.View.{expr_tree, call_tree, order_item_tree}
use Rattle.sql_tool_document.specs.Members.{each}
use Rattle.sql_tool_document.specs.Queries.{expr_of, call_of, item_of}
use Rattle.sql_tool_document.proofs.EachItem.{goes_on, ends, is_done}
use Rattle.sql_tool_document.proofs.+decode.Goals as goal

pub expr::exprs-returns-in_err-expr : goal.expr::exprs-returns-in_err-expr
expr::exprs-returns-in_err-expr t c =
    let xs = c.deref-item-items.result.now in
    let form = expr_of c.args.depth in
    let p = err_from_is_err_and c.from_residual.result c.from_residual.ensures.1 in
    let at_end =
    ends c.in_err-expr.field-0.0 form (map expr_tree c.loop-item.all.items) xs c.loop-item.item-index
    c.item-item.result (each form (items_seen xs)) c.loop-item-test.true c.item-item.is c.in_err-expr.ensures
    c.loop-item.invariant in
    rw (p.1, p.2, ← c.deref-item-items.ensures.value) at_end

pub expr::exprs-loop-item-preserved : goal.expr::exprs-loop-item-preserved
expr::exprs-loop-item-preserved t c =
    let xs = c.deref-item-items.result.now in
    let form = expr_of c.args.depth in
    let y = c.in_ok-expr.field-0 in
    let e : map expr_tree c.push.new.self.items ≡ map expr_tree c.loop-item.all.items ++ expr_tree y ∷ [] =
    rw c.in_ok-push.ensures.items (map_push _ c.loop-item.all.items y) in
    rw e
    (goes_on form (map expr_tree c.loop-item.all.items) xs c.loop-item.item-index c.item-item.result (expr_tree y)
    (each form (items_seen xs)) c.loop-item-test.true c.item-item.is c.in_ok-expr.ensures c.loop-item.invariant)

pub expr::exprs-returns : goal.expr::exprs-returns
expr::exprs-returns t c =
    let xs = c.deref-item-items.result.now in
    let form = expr_of c.args.depth in
    rw (← c.deref-item-items.ensures.value)
    (is_done form (map expr_tree c.loop-item.all.items) xs c.loop-item.item-index (each form (items_seen xs))
    c.loop-item-test.false c.loop-item.invariant)

pub query::each_call-returns-in_err-call : goal.query::each_call-returns-in_err-call
query::each_call-returns-in_err-call t c =
    let xs = c.deref-item-items.result.now in
    let form = call_of c.args.depth in
    let p = err_from_is_err_and c.from_residual.result c.from_residual.ensures.1 in
    let at_end =
    ends c.in_err-call.field-0.0 form (map call_tree c.loop-item.all.items) xs c.loop-item.item-index
    c.item-item.result (each form (items_seen xs)) c.loop-item-test.true c.item-item.is c.in_err-call.ensures
    c.loop-item.invariant in
    rw (p.1, p.2, ← c.deref-item-items.ensures.value) at_end

pub query::each_call-loop-item-preserved : goal.query::each_call-loop-item-preserved
query::each_call-loop-item-preserved t c =
    let xs = c.deref-item-items.result.now in
    let form = call_of c.args.depth in
    let y = c.in_ok-call.field-0 in
    let e : map call_tree c.push.new.self.items ≡ map call_tree c.loop-item.all.items ++ call_tree y ∷ [] =
    rw c.in_ok-push.ensures.items (map_push _ c.loop-item.all.items y) in
    rw e
    (goes_on form (map call_tree c.loop-item.all.items) xs c.loop-item.item-index c.item-item.result (call_tree y)
    (each form (items_seen xs)) c.loop-item-test.true c.item-item.is c.in_ok-call.ensures c.loop-item.invariant)

pub query::each_call-returns : goal.query::each_call-returns
query::each_call-returns t c =
    let xs = c.deref-item-items.result.now in
    let form = call_of c.args.depth in
    rw (← c.deref-item-items.ensures.value)
    (is_done form (map call_tree c.loop-item.all.items) xs c.loop-item.item-index (each form (items_seen xs))
    c.loop-item-test.false c.loop-item.invariant)

pub order::items-returns-in_err-item : goal.order::items-returns-in_err-item
order::items-returns-in_err-item t c =
    let xs = c.deref-one-items.result.now in
    let form = item_of (expr_of c.args.depth) in
    let p = err_from_is_err_and c.from_residual.result c.from_residual.ensures.1 in
    let at_end =
    ends c.in_err-item.field-0.0 form (map order_item_tree c.loop-one.all.items) xs c.loop-one.one-index
    c.one-item.result (each form (items_seen xs)) c.loop-one-test.true c.one-item.is c.in_err-item.ensures
    c.loop-one.invariant in
    rw (p.1, p.2, ← c.deref-one-items.ensures.value) at_end

pub order::items-loop-one-preserved : goal.order::items-loop-one-preserved
order::items-loop-one-preserved t c =
    let xs = c.deref-one-items.result.now in
    let form = item_of (expr_of c.args.depth) in
    let y = c.in_ok-item.field-0 in
    let e : map order_item_tree c.push.new.self.items
    ≡ map order_item_tree c.loop-one.all.items ++ order_item_tree y ∷ [] =
    rw c.in_ok-push.ensures.items (map_push _ c.loop-one.all.items y) in
    rw e
    (goes_on form (map order_item_tree c.loop-one.all.items) xs c.loop-one.one-index c.one-item.result
    (order_item_tree y) (each form (items_seen xs)) c.loop-one-test.true c.one-item.is c.in_ok-item.ensures
    c.loop-one.invariant)

pub order::items-returns : goal.order::items-returns
order::items-returns t c =
    let xs = c.deref-one-items.result.now in
    let form = item_of (expr_of c.args.depth) in
    rw (← c.deref-one-items.ensures.value)
    (is_done form (map order_item_tree c.loop-one.all.items) xs c.loop-one.one-index (each form (items_seen xs))
    c.loop-one-test.false c.loop-one.invariant)
