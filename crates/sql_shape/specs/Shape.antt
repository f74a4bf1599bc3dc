-- The shape of a statement: each bound value is replaced by NULL, which leaves its type, each bound number by 0, and a list of
-- values by as many NULLs. All else stays (diesel, `QueryId`).
use Rattle.std.specs.Prelude.{ℤ, List, map, option_map}
use Rattle.sql_schema.specs.declared.types.SqlType.{SqlType}
use Rattle.sql_pass.specs.declared.value.Value.{Value}
use Rattle.sql_pass.specs.declared.value.Value.TheVariants.{Null}
use Rattle.sql_leaf.specs.declared.limit_offset.LimitOffsetClause.{LimitOffsetClause}
use Rattle.sql_leaf.specs.declared.table_source.Tablesample.{Tablesample}
use Rattle.sql_node.specs.Tree.{Expr, column, value, list, count_star, nullable, unary, count, compared, joined, exists, single, among_values, among_rows, Exprs, no_exprs, more_exprs, Items, no_items, more_items, MaybeExpr, no_expr, an_expr, Source, of_table, of_alias, join, From, no_source, from, Distinct, every, distinct, distinct_on, Order, no_order, order_by, Statement, select, combination}

abbrev pub blank : ℤ → ℤ
blank n = ℤ.pos 0

abbrev pub blank_rows : LimitOffsetClause → LimitOffsetClause
blank_rows r =
    record { limit_clause = option_map blank r.limit_clause; offset_clause = option_map blank r.offset_clause }

abbrev pub blank_sample : Tablesample → Tablesample
blank_sample s = record { method = s.method; portion = blank s.portion; seed = option_map blank s.seed }

-- with other values of the same types: `v` says which for each, and `l` for each list; bound numbers become 0
module _ (v : SqlType → Value → Value) (l : SqlType → List Value → List Value) where
  abbrev mutual
    pub change_expr : Expr → Expr
    change_expr (column o c) = column o c
    change_expr (value t x) = value t (v t x)
    change_expr (list es) = list (change_exprs es)
    change_expr count_star = count_star
    change_expr (nullable e) = nullable (change_expr e)
    change_expr (unary n e) = unary n (change_expr e)
    change_expr (count e) = count (change_expr e)
    change_expr (compared by a b) = compared by (change_expr a) (change_expr b)
    change_expr (joined by a b) = joined by (change_expr a) (change_expr b)
    change_expr (exists q) = exists (change q)
    change_expr (single q) = single (change q)
    change_expr (among_values n e t xs) = among_values n (change_expr e) t (l t xs)
    change_expr (among_rows n e q) = among_rows n (change_expr e) (change q)

    pub change_exprs : Exprs → Exprs
    change_exprs no_exprs = no_exprs
    change_exprs (more_exprs e es) = more_exprs (change_expr e) (change_exprs es)

    pub change_items : Items → Items
    change_items no_items = no_items
    change_items (more_items e by is) = more_items (change_expr e) by (change_items is)

    pub change_maybe : MaybeExpr → MaybeExpr
    change_maybe no_expr = no_expr
    change_maybe (an_expr e) = an_expr (change_expr e)

    pub change_source : Source → Source
    change_source (of_table t only sample) = of_table t only (option_map blank_sample sample)
    change_source (of_alias a t) = of_alias a t
    change_source (join by a b on) = join by (change_source a) (change_source b) (change_maybe on)

    pub change_from : From → From
    change_from no_source = no_source
    change_from (from f) = from (change_source f)

    pub change_distinct : Distinct → Distinct
    change_distinct every = every
    change_distinct distinct = distinct
    change_distinct (distinct_on e) = distinct_on (change_expr e)

    pub change_order : Order → Order
    change_order no_order = no_order
    change_order (order_by is) = order_by (change_items is)

    pub change : Statement → Statement
    change (select default e f u w o rows g h form marks) =
        select default (change_expr e) (change_from f) (change_distinct u) (change_maybe w) (change_order o)
        (blank_rows rows) (change_maybe g) (change_maybe h) form marks
    change (combination by all a b o rows) = combination by all (change a) (change b) o (blank_rows rows)

-- NULL, whatever the value
abbrev pub null : SqlType → Value → Value
null t x = Null

-- without values, where `many` says what stands for a list of them
abbrev pub erased_expr : (List Value → List Value) → Expr → Expr
erased_expr many = change_expr null (λ t. many)

abbrev pub erased : (List Value → List Value) → Statement → Statement
erased many = change null (λ t. many)

-- as many NULLs
abbrev pub nulls : List Value → List Value
nulls xs = map (λ x. Null) xs

abbrev pub shape : Statement → Statement
shape = erased nulls
