-- A statement has an id exactly where it has one with other values, and where its shape has one.
use Rattle.std.proofs.Common.{◌≡◌, false, ◌&&◌, List, refl, sym, ap, ◌∙◌, option_map, Option, None, Some}
use Rattle.sql_schema.specs.declared.types.SqlType.{SqlType}
use Rattle.sql_pass.specs.declared.value.Value.{Value}
use Rattle.sql_leaf.specs.declared.table_source.Tablesample.{Tablesample}
use Rattle.sql_node.specs.Tree.{Expr, column, value, list, count_star, nullable, unary, count, compared, joined, exists, single, among_values, among_rows, Exprs, no_exprs, more_exprs, Items, no_items, more_items, MaybeExpr, no_expr, an_expr, Source, of_table, of_alias, join, From, no_source, from, Distinct, every, distinct, distinct_on, Order, no_order, order_by, Statement, select, combination}
use Rattle.sql_shape.specs.Nodes.{is_unboxed, all_expr, all_exprs, all_items, all_maybe, all_source, all_from, all_distinct, all_order}
use Rattle.sql_shape.specs.Ids.{lacks_sample, lacks_places, id_tests, has_id}
use Rattle.sql_shape.specs.Shape.{blank_sample, change_expr, change_exprs, change_items, change_maybe, change_source, change_from, change_distinct, change_order, change, null, nulls, shape}

sample-id : (s : Option Tablesample) → lacks_sample (option_map blank_sample s) ≡ lacks_sample s
sample-id None = refl
sample-id (Some s) = refl

module _ (v : SqlType → Value → Value) (l : SqlType → List Value → List Value) where
  mutual
    expr-id : (e : Expr) → all_expr id_tests (change_expr v l e) ≡ all_expr id_tests e
    expr-id (column o c) = refl
    expr-id (value t x) = refl
    expr-id (list es) = exprs-id es
    expr-id count_star = refl
    expr-id (nullable e) = expr-id e
    expr-id (unary n e) = expr-id e
    expr-id (count e) = expr-id e
    expr-id (compared by a b) = λ i. expr-id a i && expr-id b i
    expr-id (joined by a b) = λ i. expr-id a i && expr-id b i
    expr-id (exists q) = statement-id q
    expr-id (single q) = statement-id q
    expr-id (among_values n e t xs) = λ i. expr-id e i && false
    expr-id (among_rows n e q) = λ i. expr-id e i && statement-id q i

    exprs-id : (es : Exprs) → all_exprs id_tests (change_exprs v l es) ≡ all_exprs id_tests es
    exprs-id no_exprs = refl
    exprs-id (more_exprs e es) = λ i. expr-id e i && exprs-id es i

    items-id : (is : Items) → all_items id_tests (change_items v l is) ≡ all_items id_tests is
    items-id no_items = refl
    items-id (more_items e by is) = λ i. expr-id e i && items-id is i

    maybe-id : (e : MaybeExpr) → all_maybe id_tests (change_maybe v l e) ≡ all_maybe id_tests e
    maybe-id no_expr = refl
    maybe-id (an_expr e) = expr-id e

    source-id : (s : Source) → all_source id_tests (change_source v l s) ≡ all_source id_tests s
    source-id (of_table t only sample) = sample-id sample
    source-id (of_alias a t) = refl
    source-id (join k a b on) = λ i. source-id a i && (source-id b i && maybe-id on i)

    from-id : (f : From) → all_from id_tests (change_from v l f) ≡ all_from id_tests f
    from-id no_source = refl
    from-id (from s) = source-id s

    distinct-id : (u : Distinct) → all_distinct id_tests (change_distinct v l u) ≡ all_distinct id_tests u
    distinct-id every = refl
    distinct-id distinct = refl
    distinct-id (distinct_on e) = expr-id e

    order-id : (o : Order) → all_order id_tests (change_order v l o) ≡ all_order id_tests o
    order-id no_order = refl
    order-id (order_by is) = items-id is

    statement-id : (s : Statement) → has_id (change v l s) ≡ has_id s
    statement-id (select default e f u w o rows g h form marks) =
        λ i. is_unboxed form
        && (distinct-id u i && (expr-id e i && (from-id f i && (maybe-id w i
        && (maybe-id g i && (maybe-id h i && order-id o i))))))
    statement-id (combination by all a b o rows) = λ i. statement-id a i && (statement-id b i && lacks_places o)

pub same-id : (a b : Statement) → shape a ≡ shape b → has_id a ≡ has_id b
same-id a b h = sym (statement-id null (λ t. nulls) a) ∙ ap has_id h ∙ statement-id null (λ t. nulls) b

pub ruleset ids = (same-id)
