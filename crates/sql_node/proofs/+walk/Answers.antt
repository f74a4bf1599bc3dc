use Rattle.std.proofs.Common.{List, true, map, Ok, rules, arith, sym, ◌∙◌}
use Rattle.sql_pass.proofs.Lists.{list-next, list-fail, list-end}
use Rattle.sql_node.proofs.Lists.{all-next, all-fail, all-end, stays-next, stays-end, exprs_parts-map, items_pieces-map}
use Rattle.sql_node.proofs.+walk.Invariants.{parts, item_written}
use Rattle.sql_node.proofs.+walk.Goals as goal

pub list::walk_list-returns-in_err-walk_listed-clause-walks : goal.list::walk_list-returns-in_err-walk_listed-clause-walks
list::walk_list-returns-in_err-walk_listed-clause-walks g t c =
    rw (exprs_parts-map, ← c.as_slice-items.ensures)
    (c.loop-expr.invariant.0 _ _
    (all-fail (parts g.DB.Backend.speaks) _ c.as_slice-items.result.now _ c.expr-item.result
    c.loop-expr-test.true c.expr-item.is c.in_err-walk_listed.ensures.walks (search rules)))

pub list::walk_list-loop-expr-preserved : goal.list::walk_list-loop-expr-preserved
list::walk_list-loop-expr-preserved g t c = (
  λ r k w. c.loop-expr.invariant.0 r k
      (all-next (parts g.DB.Backend.speaks) _ c.as_slice-items.result.now _ c.expr-item.result c.loop-expr-test.true
      c.expr-item.is c.in_ok-walk_listed.ensures.first c.in_ok-walk_listed.ensures.walks w),
  stays-next (parts g.DB.Backend.speaks) _ c.as_slice-items.result.now _ c.expr-item.result
      c.loop-expr-test.true c.expr-item.is c.in_ok-walk_listed.ensures.first
      ∙ c.loop-expr.invariant.1,
)

pub list::walk_list-returns-clause-walks : goal.list::walk_list-returns-clause-walks
list::walk_list-returns-clause-walks g t c =
    rw (exprs_parts-map, ← c.as_slice-items.ensures)
    (c.loop-expr.invariant.0 _ _
    (all-end (parts g.DB.Backend.speaks) _ c.as_slice-items.result.now _ (search rules)))

pub list::walk_list-returns-clause-first : goal.list::walk_list-returns-clause-first
list::walk_list-returns-clause-first g t c =
    rw (exprs_parts-map, ← c.as_slice-items.ensures)
    (sym (stays-end (parts g.DB.Backend.speaks) _ c.as_slice-items.result.now _ (search rules))
    ∙ c.loop-expr.invariant.1)

pub order::walk_items-returns-in_err-walk_next_item : goal.order::walk_items-returns-in_err-walk_next_item
order::walk_items-returns-in_err-walk_next_item g t c =
    rw (items_pieces-map, ← c.as_slice-items.ensures)
    (c.loop-item.invariant _ _
    (list-fail (item_written g.DB.Backend.speaks) _ c.as_slice-items.result.now _ c.item-item.result
    c.loop-item-test.true c.item-item.is c.in_err-walk_next_item.ensures (search rules)))

pub order::walk_items-loop-item-preserved : goal.order::walk_items-loop-item-preserved
order::walk_items-loop-item-preserved g t c =
    λ r k w. c.loop-item.invariant r k
    (list-next (item_written g.DB.Backend.speaks) _ c.as_slice-items.result.now _ c.item-item.result
    c.loop-item-test.true c.item-item.is c.in_ok-walk_next_item.ensures w)

pub order::walk_items-returns : goal.order::walk_items-returns
order::walk_items-returns g t c =
    rw (items_pieces-map, ← c.as_slice-items.ensures)
    (c.loop-item.invariant _ _
    (list-end (item_written g.DB.Backend.speaks) _ c.as_slice-items.result.now _ (search rules)))
