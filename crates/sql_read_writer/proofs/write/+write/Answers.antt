use Rattle.std.proofs.Common.{refl, arith, rules, ◌∙◌, ap}
use Rattle.std.proofs.lemmas.Grind.{common_steps}
use Rattle.sql_read_writer.proofs.Lists.{every_text, distinct_text, distinct_on_text, select_text, combined_text, selected_text, grouped_text, ordered_text, selected_none, group_none, order_none}
use Rattle.sql_read_tree.proofs.Views.{every_seen, distinct_seen, distinct_on_seen, select_seen, combined_seen}
use Rattle.sql_read_tree.specs.View.{query_tree}
use Rattle.sql_read_writer.proofs.write.+write.Goals as goal

pub push_distinct-returns-in-Every : goal.push_distinct-returns-in-Every
push_distinct-returns-in-Every t c = λ rest. rw (c.in-Every.is, every_seen, every_text) refl

pub push_distinct-returns-in_ok-push-in-Distinct : goal.push_distinct-returns-in_ok-push-in-Distinct
push_distinct-returns-in_ok-push-in-Distinct t c =
    λ rest. rw (c.in-Distinct.is, distinct_seen, distinct_text) (grind (arith, common_steps))

pub push_distinct-returns-in_ok-push-in-DistinctOn-2 : goal.push_distinct-returns-in_ok-push-in-DistinctOn-2
push_distinct-returns-in_ok-push-in-DistinctOn-2 t c =
    λ rest. rw (c.in-DistinctOn.is, distinct_on_seen, distinct_on_text) (grind (arith, common_steps))

pub push_query-returns-in_ok-push_lock-in-Select : goal.push_query-returns-in_ok-push_lock-in-Select
push_query-returns-in_ok-push_lock-in-Select t c =
    let seen = ap query_tree c.in-Select.is ∙ select_seen _ _ _ _ _ _ _ _ _ _ in
    λ rest. rw (select_text _ _ _ _ _ _ _ _ _ _ _ rest seen) (grind (arith, common_steps))

pub push_query-returns-in_ok-push_page-in-Combined : goal.push_query-returns-in_ok-push_page-in-Combined
push_query-returns-in_ok-push_page-in-Combined t c =
    λ rest. rw (c.in-Combined.is, combined_seen, combined_text) (grind (arith, common_steps))

pub push_selected-returns-in_ok-push_list-in-Select : goal.push_selected-returns-in_ok-push_list-in-Select
push_selected-returns-in_ok-push_list-in-Select t c =
    λ rest. rw (c.in-Select.is, select_seen, selected_text) (grind (arith, common_steps))

pub push_selected-returns-in-Combined : goal.push_selected-returns-in-Combined
push_selected-returns-in-Combined t c = λ rest. rw (c.in-Combined.is, combined_seen, selected_none) refl

pub push_group-returns-in_ok-push_list-in-Select : goal.push_group-returns-in_ok-push_list-in-Select
push_group-returns-in_ok-push_list-in-Select t c =
    λ rest. rw (c.in-Select.is, select_seen, grouped_text) (grind (arith, common_steps))

pub push_group-returns-in-Combined : goal.push_group-returns-in-Combined
push_group-returns-in-Combined t c = λ rest. rw (c.in-Combined.is, combined_seen, group_none) refl

pub push_order-returns-in_ok-push_items-in-Select : goal.push_order-returns-in_ok-push_items-in-Select
push_order-returns-in_ok-push_items-in-Select t c =
    λ rest. rw (c.in-Select.is, select_seen, ordered_text) (grind (arith, common_steps))

pub push_order-returns-in-Combined : goal.push_order-returns-in-Combined
push_order-returns-in-Combined t c = λ rest. rw (c.in-Combined.is, combined_seen, order_none) refl
