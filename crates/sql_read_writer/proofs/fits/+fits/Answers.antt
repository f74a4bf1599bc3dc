use Rattle.std.proofs.Common.{refl, arith, rules, ◌∙◌, ap}
use Rattle.sql_read_tree.specs.View.{query_tree}
use Rattle.sql_read_writer.proofs.Alls.{every_fits, distinct_fits, distinct_on_fits, expressions_fit, group_fits, order_fits, select_fits, combined_fits}
use Rattle.sql_read_tree.proofs.Views.{every_seen, distinct_seen, distinct_on_seen, select_seen, combined_seen}
use Rattle.sql_read_writer.proofs.fits.+fits.Goals as goal

pub fits_distinct-returns-in-Every : goal.fits_distinct-returns-in-Every
fits_distinct-returns-in-Every t c = rw (c.in-Every.is, every_seen) ((λ k. every_fits _), (λ k. search rules))

pub fits_distinct-returns-in-Distinct : goal.fits_distinct-returns-in-Distinct
fits_distinct-returns-in-Distinct t c = rw (c.in-Distinct.is, distinct_seen) (
  (λ k. distinct_fits _),
  (λ k. search rules),
)

pub fits_distinct-returns-in-DistinctOn : goal.fits_distinct-returns-in-DistinctOn
fits_distinct-returns-in-DistinctOn t c =
    let first = rw c.deref.ensures at c.fits_expression-first.ensures in
    let others = rw c.deref-in-DistinctOn.ensures.value at c.fits_all-others.ensures in
    rw (c.in-DistinctOn.is, distinct_on_seen) (
      (λ k.
          let m = c.three.ensures.0 k in
          (distinct_on_fits _ _ _).1 (c.on_pg.ensures.0 m.0, first.0 m.1, others.0 m.2)),
      (λ k.
          let m = (distinct_on_fits _ _ _).0 k in
          c.three.ensures.1 (c.on_pg.ensures.1 m.0, first.1 m.1, others.1 m.2)),
    )

pub fits_selected-returns-in-Select : goal.fits_selected-returns-in-Select
fits_selected-returns-in-Select t c =
    let first = rw c.deref.ensures at c.fits_expression-first.ensures in
    let others = rw c.deref-in-Select.ensures.value at c.fits_all-others.ensures in
    rw (c.in-Select.is, select_seen) (
      (λ k.
          let m = c.two.ensures.0 k in
          (expressions_fit _ _ _).1 (first.0 m.0, others.0 m.1)),
      (λ k.
          let m = (expressions_fit _ _ _).0 k in
          c.two.ensures.1 (first.1 m.0, others.1 m.1)),
    )

pub fits_selected-returns-in-Combined : goal.fits_selected-returns-in-Combined
fits_selected-returns-in-Combined t c = rw (c.in-Combined.is, combined_seen) ((λ k. tt), (λ k. search rules))

pub fits_group-returns-in-Select : goal.fits_group-returns-in-Select
fits_group-returns-in-Select t c =
    let each = rw c.deref.ensures.value at c.fits_all.ensures in
    rw (c.in-Select.is, select_seen)
    ((λ k. (group_fits _ _).1 (each.0 k)), (λ k. each.1 ((group_fits _ _).0 k)))

pub fits_group-returns-in-Combined : goal.fits_group-returns-in-Combined
fits_group-returns-in-Combined t c = rw (c.in-Combined.is, combined_seen) ((λ k. tt), (λ k. search rules))

pub fits_order-returns-in-Select : goal.fits_order-returns-in-Select
fits_order-returns-in-Select t c =
    let each = rw c.deref.ensures.value at c.fits_items.ensures in
    rw (c.in-Select.is, select_seen)
    ((λ k. (order_fits _ _).1 (each.0 k)), (λ k. each.1 ((order_fits _ _).0 k)))

pub fits_order-returns-in-Combined : goal.fits_order-returns-in-Combined
fits_order-returns-in-Combined t c = rw (c.in-Combined.is, combined_seen) ((λ k. tt), (λ k. search rules))

pub fits_query-returns-in-Select : goal.fits_query-returns-in-Select
fits_query-returns-in-Select t c =
    let seen = ap query_tree c.in-Select.is ∙ select_seen _ _ _ _ _ _ _ _ _ _ in
    let fit = select_fits _ _ _ _ _ _ _ _ _ _ _ seen in (
      (λ k.
          let m = c.five.ensures.0 k in
          let n = c.five-tail.ensures.0 m.4 in
          fit.1 (
            c.fits_distinct-distinct.ensures.0 m.0,
            c.fits_selected-selected.ensures.0 m.1,
            c.fits_from-from.ensures.0 m.2,
            c.fits_maybe-filter.ensures.0 m.3,
            c.fits_group-group.ensures.0 n.0,
            c.fits_maybe-having.ensures.0 n.1,
            c.fits_order-order.ensures.0 n.2,
            c.fits_page-page.ensures.0 n.3,
            c.fits_lock-lock.ensures.0 n.4,
          )),
      (λ k.
          let m = fit.0 k in
          c.five.ensures.1 (
            c.fits_distinct-distinct.ensures.1 m.0,
            c.fits_selected-selected.ensures.1 m.1,
            c.fits_from-from.ensures.1 m.2,
            c.fits_maybe-filter.ensures.1 m.3,
            c.five-tail.ensures.1 (
              c.fits_group-group.ensures.1 m.4,
              c.fits_maybe-having.ensures.1 m.5,
              c.fits_order-order.ensures.1 m.6,
              c.fits_page-page.ensures.1 m.7,
              c.fits_lock-lock.ensures.1 m.8,
            ),
          )),
    )

pub fits_query-returns-in-Combined : goal.fits_query-returns-in-Combined
fits_query-returns-in-Combined t c =
    let left = rw c.deref.ensures at c.fits_query-left.ensures in
    let right = rw c.deref-in-Combined.ensures at c.fits_query-right.ensures in
    let order = rw c.deref-in-Combined-2.ensures.value at c.fits_places-order.ensures in
    rw (c.in-Combined.is, combined_seen) (
      (λ k.
          let m = c.five-in-Combined.ensures.0 k in
          (combined_fits _ _ _ _ _ _ _).1 (
            left.0 m.0,
            c.fits_operator-operator.ensures.0 m.1,
            right.0 m.2,
            order.0 m.3,
            c.fits_outer_page-page.ensures.0 m.4,
          )),
      (λ k.
          let m = (combined_fits _ _ _ _ _ _ _).0 k in
          c.five-in-Combined.ensures.1 (
            left.1 m.0,
            c.fits_operator-operator.ensures.1 m.1,
            right.1 m.2,
            order.1 m.3,
            c.fits_outer_page-page.ensures.1 m.4,
          )),
    )
