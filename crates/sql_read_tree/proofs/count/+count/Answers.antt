use Rattle.std.proofs.Common.{arith, ap, ◌∙◌}
use Rattle.std.proofs.lemmas.Grind.{common_steps}
use Rattle.sql_read_tree.proofs.Capped.{capped_again, capped_parts}
use Rattle.sql_read_tree.proofs.Views.{compared_seen, connected_seen, in_list_seen, in_query_seen, join_seen, combined_seen, distinct_on_seen, select_seen}
use Rattle.sql_read_tree.proofs.Lists.{expressions_count, group_count, order_count, query_count}
use Rattle.sql_read_tree.specs.View.{query_tree}
use Rattle.sql_read_tree.proofs.count.+count.Goals as goal

pub count_expression-returns-in-Compared : goal.count_expression-returns-in-Compared
count_expression-returns-in-Compared t c =
    rw (c.in-Compared.is, compared_seen) (grind (arith, common_steps, capped_again))

pub count_expression-returns-in-Connected : goal.count_expression-returns-in-Connected
count_expression-returns-in-Connected t c =
    rw (c.in-Connected.is, connected_seen) (grind (arith, common_steps, capped_again))

pub count_expression-returns-in-InList : goal.count_expression-returns-in-InList
count_expression-returns-in-InList t c =
    rw (c.in-InList.is, in_list_seen) (grind (arith, common_steps, capped_again))

pub count_expression-returns-in-InQuery : goal.count_expression-returns-in-InQuery
count_expression-returns-in-InQuery t c =
    rw (c.in-InQuery.is, in_query_seen) (grind (arith, common_steps, capped_again))

pub count_source-returns-in-Join : goal.count_source-returns-in-Join
count_source-returns-in-Join t c = rw (c.in-Join.is, join_seen) (grind (arith, common_steps, capped_again))

pub count_query-returns-in-Combined : goal.count_query-returns-in-Combined
count_query-returns-in-Combined t c =
    rw (c.in-Combined.is, combined_seen) (grind (arith, common_steps, capped_again))

pub count_list-loop-e-preserved : goal.count_list-loop-e-preserved
count_list-loop-e-preserved t c = grind (arith, common_steps, capped_again)

pub count_items-loop-item-preserved : goal.count_items-loop-item-preserved
count_items-loop-item-preserved t c = grind (arith, common_steps, capped_again)

pub count_distinct-returns-in-DistinctOn : goal.count_distinct-returns-in-DistinctOn
count_distinct-returns-in-DistinctOn t c =
    rw (c.in-DistinctOn.is, distinct_on_seen, expressions_count) (grind (arith, common_steps, capped_again))

pub count_selected-returns-in-Select : goal.count_selected-returns-in-Select
count_selected-returns-in-Select t c =
    rw (c.in-Select.is, select_seen, expressions_count) (grind (arith, common_steps, capped_again))

pub count_group-returns-in-Select : goal.count_group-returns-in-Select
count_group-returns-in-Select t c =
    rw (c.in-Select.is, select_seen, group_count) (grind (arith, common_steps))

pub count_order-returns-in-Select : goal.count_order-returns-in-Select
count_order-returns-in-Select t c =
    rw (c.in-Select.is, select_seen, order_count) (grind (arith, common_steps))

pub count_query-returns-in-Select : goal.count_query-returns-in-Select
count_query-returns-in-Select t c =
    let seen = ap query_tree c.in-Select.is ∙ select_seen _ _ _ _ _ _ _ _ _ _ in
    rw (
      query_count _ _ _ _ _ _ _ _ _ _ seen,
      c.count_page.ensures,
      c.count_order-order.ensures,
      c.count_maybe-having.ensures,
      c.count_group-group.ensures,
      c.count_maybe-filter.ensures,
      c.count_from-from.ensures,
      c.count_selected-selected.ensures,
      c.count_distinct-distinct.ensures,
    )
    (capped_parts _ _ _ _ _ _ _ _ _)
