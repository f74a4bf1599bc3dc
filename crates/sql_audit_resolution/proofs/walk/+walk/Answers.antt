use Rattle.std.proofs.Common.{refl, ap, ◌∙◌}
use Rattle.sql_read_tree.proofs.Views.{every_seen, distinct_seen, distinct_on_seen, compared_seen, connected_seen, in_list_seen, in_query_seen, join_seen, select_seen, combined_seen}
use Rattle.sql_read_tree.specs.View.{expression_tree, source_tree, query_tree, kind_of}
use Rattle.sql_audit_resolution.proofs.Joined.{path_after, placeholder_after, single_after, exists_after, compared_after, connected_after, not_after, null_test_after, count_all_after, count_after, in_list_after, in_query_after, constant_after, table_after, alias_after, join_after, combined_after}
use Rattle.sql_audit_resolution.proofs.Lists.{every_after, distinct_after, distinct_on_after, selected_after, selected_none, grouped_after, grouped_none, ordered_after, ordered_none}
use Rattle.sql_audit_resolution.proofs.Seen.{path_seen, placeholder_seen, single_seen, exists_seen, not_seen, null_test_seen, count_all_seen, count_seen, constant_seen, table_seen, alias_seen}
use Rattle.sql_audit_resolution.proofs.Selects.{select_after}
use Rattle.sql_audit_resolution.proofs.walk.+walk.Goals as goal

pub walk_distinct-returns-in-Every : goal.walk_distinct-returns-in-Every
walk_distinct-returns-in-Every t c = rw (c.in-Every.is, every_seen, every_after) refl

pub walk_distinct-returns-in-Distinct : goal.walk_distinct-returns-in-Distinct
walk_distinct-returns-in-Distinct t c = rw (c.in-Distinct.is, distinct_seen, distinct_after) refl

pub walk_distinct-returns-in_ok-walk_list-in-DistinctOn : goal.walk_distinct-returns-in_ok-walk_list-in-DistinctOn
walk_distinct-returns-in_ok-walk_list-in-DistinctOn t c =
    let first = rw c.deref.ensures at c.in_ok-walk_expression-in-DistinctOn.ensures in
    let all = rw (c.deref-in-DistinctOn.ensures.value, first) at c.in_ok-walk_list-in-DistinctOn.ensures in
    rw (c.in-DistinctOn.is, distinct_on_seen, distinct_on_after) all

pub walk_expression-returns-in_ok-push_path-in-Path : goal.walk_expression-returns-in_ok-push_path-in-Path
walk_expression-returns-in_ok-push_path-in-Path t c =
    rw (c.in-Path.is, path_seen, path_after) c.in_ok-push_path-in-Path.ensures

pub walk_expression-returns-in-Placeholder : goal.walk_expression-returns-in-Placeholder
walk_expression-returns-in-Placeholder t c = rw (c.in-Placeholder.is, placeholder_seen, placeholder_after) refl

pub walk_expression-returns-in_ok-walk_query-in-SingleValue : goal.walk_expression-returns-in_ok-walk_query-in-SingleValue
walk_expression-returns-in_ok-walk_query-in-SingleValue t c =
    let all = rw c.deref.ensures at c.in_ok-walk_query-in-SingleValue.ensures in
    rw (c.in-SingleValue.is, single_seen, single_after) all

pub walk_expression-returns-in_ok-walk_query-in-Exists : goal.walk_expression-returns-in_ok-walk_query-in-Exists
walk_expression-returns-in_ok-walk_query-in-Exists t c =
    let all = rw c.deref-in-Exists.ensures at c.in_ok-walk_query-in-Exists.ensures in
    rw (c.in-Exists.is, exists_seen, exists_after) all

pub walk_expression-returns-in_ok-walk_expression-in-Compared-2 : goal.walk_expression-returns-in_ok-walk_expression-in-Compared-2
walk_expression-returns-in_ok-walk_expression-in-Compared-2 t c =
    let first = rw c.deref-in-Compared.ensures at c.in_ok-walk_expression-in-Compared.ensures in
    let all = rw (c.deref-in-Compared-2.ensures, first) at c.in_ok-walk_expression-in-Compared-2.ensures in
    rw (c.in-Compared.is, compared_seen, compared_after) all

pub walk_expression-returns-in_ok-walk_expression-in-Connected-2 : goal.walk_expression-returns-in_ok-walk_expression-in-Connected-2
walk_expression-returns-in_ok-walk_expression-in-Connected-2 t c =
    let first = rw c.deref-in-Connected.ensures at c.in_ok-walk_expression-in-Connected.ensures in
    let all = rw (c.deref-in-Connected-2.ensures, first) at c.in_ok-walk_expression-in-Connected-2.ensures in
    rw (c.in-Connected.is, connected_seen, connected_after) all

pub walk_expression-returns-in_ok-walk_expression-in-Not : goal.walk_expression-returns-in_ok-walk_expression-in-Not
walk_expression-returns-in_ok-walk_expression-in-Not t c =
    let all = rw c.deref-in-Not.ensures at c.in_ok-walk_expression-in-Not.ensures in
    rw (c.in-Not.is, not_seen, not_after) all

pub walk_expression-returns-in_ok-walk_expression-in-NullTest : goal.walk_expression-returns-in_ok-walk_expression-in-NullTest
walk_expression-returns-in_ok-walk_expression-in-NullTest t c =
    let all = rw c.deref-in-NullTest.ensures at c.in_ok-walk_expression-in-NullTest.ensures in
    rw (c.in-NullTest.is, null_test_seen, null_test_after) all

pub walk_expression-returns-in-CountAll : goal.walk_expression-returns-in-CountAll
walk_expression-returns-in-CountAll t c = rw (c.in-CountAll.is, count_all_seen, count_all_after) refl

pub walk_expression-returns-in_ok-walk_expression-in-Count : goal.walk_expression-returns-in_ok-walk_expression-in-Count
walk_expression-returns-in_ok-walk_expression-in-Count t c =
    let all = rw c.deref-in-Count.ensures at c.in_ok-walk_expression-in-Count.ensures in
    rw (c.in-Count.is, count_seen, count_after) all

pub walk_expression-returns-in_ok-walk_expression-in-InList : goal.walk_expression-returns-in_ok-walk_expression-in-InList
walk_expression-returns-in_ok-walk_expression-in-InList t c =
    let all = rw c.deref-in-InList.ensures at c.in_ok-walk_expression-in-InList.ensures in
    rw (c.in-InList.is, in_list_seen, in_list_after) all

pub walk_expression-returns-in_ok-walk_query-in-InQuery : goal.walk_expression-returns-in_ok-walk_query-in-InQuery
walk_expression-returns-in_ok-walk_query-in-InQuery t c =
    let first = rw c.deref-in-InQuery.ensures at c.in_ok-walk_expression-in-InQuery.ensures in
    let all = rw (c.deref-in-InQuery-2.ensures, first) at c.in_ok-walk_query-in-InQuery.ensures in
    rw (c.in-InQuery.is, in_query_seen, in_query_after) all

pub walk_expression-returns-in-Constant : goal.walk_expression-returns-in-Constant
walk_expression-returns-in-Constant t c = rw (c.in-Constant.is, constant_seen, constant_after) refl

pub walk_group-returns-in_ok-walk_list-in-Select : goal.walk_group-returns-in_ok-walk_list-in-Select
walk_group-returns-in_ok-walk_list-in-Select t c =
    let all = rw c.deref.ensures.value at c.in_ok-walk_list-in-Select.ensures in
    rw (c.in-Select.is, select_seen, grouped_after) all

pub walk_group-returns-in-Combined : goal.walk_group-returns-in-Combined
walk_group-returns-in-Combined t c = rw (c.in-Combined.is, combined_seen, grouped_none) refl

pub walk_order-returns-in_ok-walk_items-in-Select : goal.walk_order-returns-in_ok-walk_items-in-Select
walk_order-returns-in_ok-walk_items-in-Select t c =
    let all = rw c.deref.ensures.value at c.in_ok-walk_items-in-Select.ensures in
    rw (c.in-Select.is, select_seen, ordered_after) all

pub walk_order-returns-in-Combined : goal.walk_order-returns-in-Combined
walk_order-returns-in-Combined t c = rw (c.in-Combined.is, combined_seen, ordered_none) refl

pub walk_query-returns-in_ok-walk_order-in-Select : goal.walk_query-returns-in_ok-walk_order-in-Select
walk_query-returns-in_ok-walk_order-in-Select t c =
    let seen = ap query_tree c.in-Select.is ∙ select_seen _ _ _ _ _ _ _ _ _ _ in
    let level = rw c.count.ensures at c.in_ok-own-in-Select.ensures in
    let here = c.from_ref-here.ensures.value in
    let wide = c.as_slice.ensures.value ∙ c.in_ok-wide-in-Select.ensures in
    let k1 = rw here at c.in_ok-walk_distinct-in-Select.ensures in
    let k2 = rw (here, k1) at c.in_ok-walk_selected-in-Select.ensures in
    let k3 = rw k2 at c.in_ok-walk_from-in-Select.ensures in
    let k4 = rw (wide, k3) at c.in_ok-walk_maybe-in-Select.ensures in
    let k5 = rw (here, k4) at c.in_ok-walk_group-in-Select.ensures in
    let k6 = rw (here, k5) at c.in_ok-walk_maybe-in-Select-2.ensures in
    let k7 = rw (here, k6) at c.in_ok-walk_order-in-Select.ensures in
    rw
    (select_after c.args.schema.now.tables c.args.around.now c.args.known.now (query_tree c.args.q.now) _ _ _ _ _ _ _ _ _
    _ seen level)
    k7

pub walk_query-returns-in_ok-walk_query-in-Combined-2 : goal.walk_query-returns-in_ok-walk_query-in-Combined-2
walk_query-returns-in_ok-walk_query-in-Combined-2 t c =
    let left = rw c.deref.ensures at c.in_ok-walk_query-in-Combined.ensures in
    let all = rw (c.deref-in-Combined.ensures, left) at c.in_ok-walk_query-in-Combined-2.ensures in
    rw (c.in-Combined.is, combined_seen, combined_after) all

pub walk_selected-returns-in_ok-walk_list-in-Select : goal.walk_selected-returns-in_ok-walk_list-in-Select
walk_selected-returns-in_ok-walk_list-in-Select t c =
    let first = rw c.deref.ensures at c.in_ok-walk_expression-in-Select.ensures in
    let all = rw (c.deref-in-Select.ensures.value, first) at c.in_ok-walk_list-in-Select.ensures in
    rw (c.in-Select.is, select_seen, selected_after) all

pub walk_selected-returns-in-Combined : goal.walk_selected-returns-in-Combined
walk_selected-returns-in-Combined t c = rw (c.in-Combined.is, combined_seen, selected_none) refl

pub walk_source-returns-in_ok-push_table-in-Table : goal.walk_source-returns-in_ok-push_table-in-Table
walk_source-returns-in_ok-push_table-in-Table t c =
    rw (c.in-Table.is, table_seen, table_after) c.in_ok-push_table-in-Table.ensures

pub walk_source-returns-in_ok-push_table-in-Alias : goal.walk_source-returns-in_ok-push_table-in-Alias
walk_source-returns-in_ok-push_table-in-Alias t c =
    rw (c.in-Alias.is, alias_seen, alias_after) c.in_ok-push_table-in-Alias.ensures

pub walk_source-returns-in_ok-walk_expression-in-Join : goal.walk_source-returns-in_ok-walk_expression-in-Join
walk_source-returns-in_ok-walk_expression-in-Join t c =
    let seen = ap source_tree c.in-Join.is ∙ join_seen _ _ _ _ in
    let level = rw (c.count.ensures, seen) at c.in_ok-level-in-Join.ensures in
    let left = rw c.deref.ensures at c.in_ok-walk_source-in-Join.ensures in
    let right = rw (c.deref-in-Join.ensures, left) at c.in_ok-walk_source-in-Join-2.ensures in
    let all =
    rw (c.from_ref.ensures.value, c.deref-in-Join-2.ensures, right) at c.in_ok-walk_expression-in-Join.ensures in
    rw (
      seen,
      join_after c.args.schema.now.tables c.args.known.now (kind_of c.in-Join.field-0) (source_tree c.in-Join.a.value)
          (source_tree c.in-Join.b.value) (expression_tree c.in-Join.on.value) c.in_ok-level-in-Join.level level,
    )
    all
