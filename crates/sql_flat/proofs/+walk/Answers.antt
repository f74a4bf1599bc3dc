use Rattle.std.proofs.Common.{false, true, ap}
use Rattle.std.proofs.lemmas.Result.{on_ok_weaker}
use Rattle.sql_flat_law.proofs.Adding.{adds-next, adds-end, adds-node, adds-more, adds-pair, finishes-last, opens-same}
use Rattle.sql_node.proofs.Trees.{expr-of_Eq, expr-of_Ne, expr-of_Gt, expr-of_Ge, expr-of_Lt, expr-of_Le, expr-of_And, expr-of_Or, expr-of_EqAny, expr-of_NeAll, order_clause-of_OrderClause, join-out, join_on-out, select_statement-out, boxed_select_statement-out, combination_clause-out}
use Rattle.sql_flat.specs.declared.kind.FlatKind.TheVariants as K
use Rattle.sql_flat.proofs.Among.{membership-nodes}
use Rattle.sql_flat.proofs.ClauseNodes.{adds-maybe, adds-from, adds-distinct}
use Rattle.sql_flat.proofs.Lists.{of_expr, of_item, exprs-nodes, items-nodes}
use Rattle.sql_flat.proofs.+walk.Goals as goal

pub expr::push_exprs-loop-expr-preserved : goal.expr::push_exprs-loop-expr-preserved
expr::push_exprs-loop-expr-preserved t c =
    λ new a. c.loop-expr.invariant new
    (adds-next of_expr _ c.loop-expr.expr-index c.expr-item.result c.loop-expr-test.true c.expr-item.is
    c.in_ok-push_expr.ensures a)

pub expr::push_exprs-returns : goal.expr::push_exprs-returns
expr::push_exprs-returns t c =
    rw exprs-nodes
    (c.loop-expr.invariant c.loop-expr.nodes.items
    (adds-end of_expr _ c.loop-expr.expr-index c.loop-expr-test.false))

pub clause::push_items-loop-item-preserved : goal.clause::push_items-loop-item-preserved
clause::push_items-loop-item-preserved t c =
    λ new a. c.loop-item.invariant new
    (adds-next of_item _ c.loop-item.item-index c.item-item.result c.loop-item-test.true c.item-item.is
    c.in_ok-push_item.ensures a)

pub clause::push_items-returns : goal.clause::push_items-returns
clause::push_items-returns t c =
    rw items-nodes
    (c.loop-item.invariant c.loop-item.nodes.items
    (adds-end of_item _ c.loop-item.item-index c.loop-item-test.false))

pub expr::push_list-returns : goal.expr::push_list-returns
expr::push_list-returns t c = adds-node c.in_ok-at.ensures c.in_ok-push_exprs.ensures c.close.ensures

pub expr::push_over-returns : goal.expr::push_over-returns
expr::push_over-returns t c = adds-node c.in_ok-at.ensures c.in_ok-push_expr.ensures c.close.ensures

pub expr::push_over_query-returns : goal.expr::push_over_query-returns
expr::push_over_query-returns t c = adds-node c.in_ok-at.ensures c.in_ok-push_statement.ensures c.close.ensures

pub clause::push_from_node-returns : goal.clause::push_from_node-returns
clause::push_from_node-returns t c = adds-node c.in_ok-at.ensures c.in_ok-push_source.ensures c.close.ensures

pub clause::push_order-returns-in_ok-push_items-in-OrderClause : goal.clause::push_order-returns-in_ok-push_items-in-OrderClause
clause::push_order-returns-in_ok-push_items-in-OrderClause t c =
    rw (c.in-OrderClause.is, order_clause-of_OrderClause, ← c.as_slice.ensures)
    (adds-node c.in_ok-at-in-OrderClause.ensures c.in_ok-push_items-in-OrderClause.ensures c.close.ensures)

pub source::push_join-returns : goal.source::push_join-returns
source::push_join-returns t c =
    rw (join_on-out, join-out)
    (adds-node (opens-same c.join_kind.ensures c.in_ok-at.ensures)
    (adds-more c.in_ok-push_source.ensures (adds-more c.in_ok-push_source-2.ensures c.in_ok-push_on.ensures))
    c.close.ensures)

pub statement::push_select-returns : goal.statement::push_select-returns
statement::push_select-returns t c =
    rw select_statement-out
    (adds-node (opens-same (ap K.Select c.selecting-kind.ensures) c.in_ok-at.ensures)
    (adds-distinct _ c.in_ok-push_distinct.ensures
    (adds-more c.in_ok-push_selection.ensures
    (adds-from _ c.in_ok-push_from.ensures
    (adds-maybe K.Where _ c.in_ok-push_where.ensures
    (adds-maybe K.GroupBy _ c.in_ok-push_group_by.ensures
    (adds-maybe K.Having _ c.in_ok-push_having.ensures c.in_ok-push_order.ensures))))))
    c.close.ensures)

pub statement::push_boxed-returns : goal.statement::push_boxed-returns
statement::push_boxed-returns t c =
    rw boxed_select_statement-out
    (adds-node (opens-same (ap K.Select c.selecting-kind.ensures) c.in_ok-at.ensures)
    (adds-distinct _ c.in_ok-push_distinct.ensures
    (adds-more c.in_ok-push_selection.ensures
    (adds-from _ c.in_ok-push_from.ensures
    (adds-maybe K.Where _ c.in_ok-push_where.ensures
    (adds-maybe K.GroupBy _ c.in_ok-push_group_by.ensures
    (adds-maybe K.Having _ c.in_ok-push_having.ensures c.in_ok-push_order.ensures))))))
    c.close.ensures)

pub statement::push_combination-returns : goal.statement::push_combination-returns
statement::push_combination-returns t c =
    rw (combination_clause-out, ← c.deref.ensures, ← c.deref-2.ensures)
    (adds-node c.in_ok-at.ensures
    (adds-more c.in_ok-push_over_query.ensures
    (adds-more c.in_ok-push_over_query-2.ensures c.in_ok-push_positional_order.ensures))
    c.close.ensures)

pub expr::push_last-returns : goal.expr::push_last-returns
expr::push_last-returns t c = finishes-last c.in_ok-push_expr.ensures c.close.ensures

pub expr::push_among-returns : goal.expr::push_among-returns
expr::push_among-returns t c = finishes-last c.in_ok-push_sought.ensures c.close.ensures

pub expr::push_expr-returns-in_ok-at-in-Eq : goal.expr::push_expr-returns-in_ok-at-in-Eq
expr::push_expr-returns-in_ok-at-in-Eq t c =
    rw (c.in-Eq.is, expr-of_Eq, ← c.deref-in-Eq.ensures, ← c.deref-in-Eq-2.ensures)
    (on_ok_weaker c.push_last.result (adds-pair c.in_ok-at-in-Eq.ensures) c.push_last.ensures)

pub expr::push_expr-returns-in_ok-at-in-Ne : goal.expr::push_expr-returns-in_ok-at-in-Ne
expr::push_expr-returns-in_ok-at-in-Ne t c =
    rw (c.in-Ne.is, expr-of_Ne, ← c.deref-in-Ne.ensures, ← c.deref-in-Ne-2.ensures)
    (on_ok_weaker c.push_last-in-Ne.result (adds-pair c.in_ok-at-in-Ne.ensures) c.push_last-in-Ne.ensures)

pub expr::push_expr-returns-in_ok-at-in-Gt : goal.expr::push_expr-returns-in_ok-at-in-Gt
expr::push_expr-returns-in_ok-at-in-Gt t c =
    rw (c.in-Gt.is, expr-of_Gt, ← c.deref-in-Gt.ensures, ← c.deref-in-Gt-2.ensures)
    (on_ok_weaker c.push_last-in-Gt.result (adds-pair c.in_ok-at-in-Gt.ensures) c.push_last-in-Gt.ensures)

pub expr::push_expr-returns-in_ok-at-in-Ge : goal.expr::push_expr-returns-in_ok-at-in-Ge
expr::push_expr-returns-in_ok-at-in-Ge t c =
    rw (c.in-Ge.is, expr-of_Ge, ← c.deref-in-Ge.ensures, ← c.deref-in-Ge-2.ensures)
    (on_ok_weaker c.push_last-in-Ge.result (adds-pair c.in_ok-at-in-Ge.ensures) c.push_last-in-Ge.ensures)

pub expr::push_expr-returns-in_ok-at-in-Lt : goal.expr::push_expr-returns-in_ok-at-in-Lt
expr::push_expr-returns-in_ok-at-in-Lt t c =
    rw (c.in-Lt.is, expr-of_Lt, ← c.deref-in-Lt.ensures, ← c.deref-in-Lt-2.ensures)
    (on_ok_weaker c.push_last-in-Lt.result (adds-pair c.in_ok-at-in-Lt.ensures) c.push_last-in-Lt.ensures)

pub expr::push_expr-returns-in_ok-at-in-Le : goal.expr::push_expr-returns-in_ok-at-in-Le
expr::push_expr-returns-in_ok-at-in-Le t c =
    rw (c.in-Le.is, expr-of_Le, ← c.deref-in-Le.ensures, ← c.deref-in-Le-2.ensures)
    (on_ok_weaker c.push_last-in-Le.result (adds-pair c.in_ok-at-in-Le.ensures) c.push_last-in-Le.ensures)

pub expr::push_expr-returns-in_ok-at-in-And : goal.expr::push_expr-returns-in_ok-at-in-And
expr::push_expr-returns-in_ok-at-in-And t c =
    rw (c.in-And.is, expr-of_And, ← c.deref-in-And.ensures, ← c.deref-in-And-2.ensures)
    (on_ok_weaker c.push_last-in-And.result (adds-pair c.in_ok-at-in-And.ensures) c.push_last-in-And.ensures)

pub expr::push_expr-returns-in_ok-at-in-Or : goal.expr::push_expr-returns-in_ok-at-in-Or
expr::push_expr-returns-in_ok-at-in-Or t c =
    rw (c.in-Or.is, expr-of_Or, ← c.deref-in-Or.ensures, ← c.deref-in-Or-2.ensures)
    (on_ok_weaker c.push_last-in-Or.result (adds-pair c.in_ok-at-in-Or.ensures) c.push_last-in-Or.ensures)

pub expr::push_expr-returns-in_ok-at-in-EqAny : goal.expr::push_expr-returns-in_ok-at-in-EqAny
expr::push_expr-returns-in_ok-at-in-EqAny t c =
    rw (c.in-EqAny.is, expr-of_EqAny, membership-nodes, ← c.deref-in-EqAny.ensures)
    (on_ok_weaker c.push_among.result
    (adds-pair (opens-same (ap (K.Among false) c.is_list.ensures) c.in_ok-at-in-EqAny.ensures)) c.push_among.ensures)

pub expr::push_expr-returns-in_ok-at-in-NeAll : goal.expr::push_expr-returns-in_ok-at-in-NeAll
expr::push_expr-returns-in_ok-at-in-NeAll t c =
    rw (c.in-NeAll.is, expr-of_NeAll, membership-nodes, ← c.deref-in-NeAll.ensures)
    (on_ok_weaker c.push_among-in-NeAll.result
    (adds-pair (opens-same (ap (K.Among true) c.is_list-in-NeAll.ensures) c.in_ok-at-in-NeAll.ensures)) c.push_among-in-NeAll.ensures)
