-- A statement whose values are changed twice, and shapes without the lengths of lists of values.
use Rattle.std.proofs.Common.{◌≡◌, ℤ, List, [], Option, None, Some, option_map, refl, ap, sym, ◌∙◌}
use Rattle.sql_schema.specs.declared.types.SqlType.{SqlType}
use Rattle.sql_pass.specs.declared.value.Value.{Value}
use Rattle.sql_leaf.specs.declared.limit_offset.LimitOffsetClause.{LimitOffsetClause}
use Rattle.sql_leaf.specs.declared.table_source.Tablesample.{Tablesample}
use Rattle.sql_node.specs.Tree.{Expr, column, value, list, count_star, nullable, unary, count, compared, joined, exists, single, among_values, among_rows, Exprs, no_exprs, more_exprs, Items, no_items, more_items, MaybeExpr, no_expr, an_expr, Source, of_table, of_alias, join, From, no_source, from, Distinct, every, distinct, distinct_on, Order, no_order, order_by, Statement, select, combination}
use Rattle.sql_shape.specs.Shape.{blank, blank_rows, blank_sample, change_expr, change_exprs, change_items, change_maybe, change_source, change_from, change_distinct, change_order, change, null, nulls, erased, shape}

number-twice : (n : Option ℤ) → option_map blank (option_map blank n) ≡ option_map blank n
number-twice None = refl
number-twice (Some n) = refl

pub rows-twice : (r : LimitOffsetClause) → blank_rows (blank_rows r) ≡ blank_rows r
rows-twice r = λ i. record {
  limit_clause = number-twice r.limit_clause i;
  offset_clause = number-twice r.offset_clause i;
}

pub sample-twice : (s : Option Tablesample)
    → option_map blank_sample (option_map blank_sample s) ≡ option_map blank_sample s
sample-twice None = refl
sample-twice (Some s) = λ i. Some (record { method = s.method; portion = blank s.portion; seed = number-twice s.seed i })

module _ (v w : SqlType → Value → Value) (l m : SqlType → List Value → List Value) where
  abbrev value_twice : SqlType → Value → Value
  value_twice t x = w t (v t x)

  abbrev values_twice : SqlType → List Value → List Value
  values_twice t xs = m t (l t xs)

  mutual
    pub expr-twice : (e : Expr) → change_expr w m (change_expr v l e) ≡ change_expr value_twice values_twice e
    expr-twice (column o c) = refl
    expr-twice (value t x) = refl
    expr-twice (list es) = ap list (exprs-twice es)
    expr-twice count_star = refl
    expr-twice (nullable e) = ap nullable (expr-twice e)
    expr-twice (unary n e) = ap (unary n) (expr-twice e)
    expr-twice (count e) = ap count (expr-twice e)
    expr-twice (compared by a b) = λ i. compared by (expr-twice a i) (expr-twice b i)
    expr-twice (joined by a b) = λ i. joined by (expr-twice a i) (expr-twice b i)
    expr-twice (exists q) = ap exists (statement-twice q)
    expr-twice (single q) = ap single (statement-twice q)
    expr-twice (among_values n e t xs) = λ i. among_values n (expr-twice e i) t (values_twice t xs)
    expr-twice (among_rows n e q) = λ i. among_rows n (expr-twice e i) (statement-twice q i)

    exprs-twice : (es : Exprs) → change_exprs w m (change_exprs v l es) ≡ change_exprs value_twice values_twice es
    exprs-twice no_exprs = refl
    exprs-twice (more_exprs e es) = λ i. more_exprs (expr-twice e i) (exprs-twice es i)

    items-twice : (is : Items) → change_items w m (change_items v l is) ≡ change_items value_twice values_twice is
    items-twice no_items = refl
    items-twice (more_items e by is) = λ i. more_items (expr-twice e i) by (items-twice is i)

    maybe-twice : (e : MaybeExpr) → change_maybe w m (change_maybe v l e) ≡ change_maybe value_twice values_twice e
    maybe-twice no_expr = refl
    maybe-twice (an_expr e) = ap an_expr (expr-twice e)

    source-twice : (s : Source) → change_source w m (change_source v l s) ≡ change_source value_twice values_twice s
    source-twice (of_table t only sample) = ap (of_table t only) (sample-twice sample)
    source-twice (of_alias a t) = refl
    source-twice (join by a b on) = λ i. join by (source-twice a i) (source-twice b i) (maybe-twice on i)

    from-twice : (f : From) → change_from w m (change_from v l f) ≡ change_from value_twice values_twice f
    from-twice no_source = refl
    from-twice (from s) = ap from (source-twice s)

    distinct-twice : (u : Distinct) → change_distinct w m (change_distinct v l u) ≡ change_distinct value_twice values_twice u
    distinct-twice every = refl
    distinct-twice distinct = refl
    distinct-twice (distinct_on e) = ap distinct_on (expr-twice e)

    order-twice : (o : Order) → change_order w m (change_order v l o) ≡ change_order value_twice values_twice o
    order-twice no_order = refl
    order-twice (order_by is) = ap order_by (items-twice is)

    pub statement-twice : (s : Statement) → change w m (change v l s) ≡ change value_twice values_twice s
    statement-twice (select default e f u w o rows g h form marks) =
        λ i. select default (expr-twice e i) (from-twice f i) (distinct-twice u i) (maybe-twice w i) (order-twice o i)
        (rows-twice rows i) (maybe-twice g i) (maybe-twice h i) form marks
    statement-twice (combination by all a b o rows) =
        λ i. combination by all (statement-twice a i) (statement-twice b i) o (rows-twice rows i)

abbrev no_values : SqlType → List Value → List Value
no_values t xs = []

-- statements of one shape are alike without the lengths of lists of values too
pub same-loosely : (a b : Statement) → shape a ≡ shape b → erased (λ xs. []) a ≡ erased (λ xs. []) b
same-loosely a b h =
    sym (statement-twice null null (λ t. nulls) no_values a)
    ∙ ap (change null no_values) h
    ∙ statement-twice null null (λ t. nulls) no_values b
