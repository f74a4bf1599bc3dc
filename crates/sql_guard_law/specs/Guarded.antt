-- A statement guarded at every depth: it and each statement inside it, in a subselect or on a side of a combination, is
-- restricted to the rows of a table for which a predicate is true.
use Rattle.sql_schema.specs.declared.declaration.TableDecl.{TableDecl}
use Rattle.sql_node.specs.Tree.{Expr, column, value, list, count_star, nullable, unary, count, compared, joined, exists, single, among_values, among_rows, Exprs, no_exprs, more_exprs, Items, no_items, more_items, MaybeExpr, no_expr, an_expr, Source, of_table, of_alias, join, From, no_source, from, Distinct, every, distinct, distinct_on, Order, no_order, order_by, Statement, select, combination}
use Rattle.sql_guard_law.specs.Restricted.{predicates_from, with_all, restricted_on}

module _ (t : TableDecl) (p : Expr) where
  abbrev mutual
    pub guarded_expr : Expr → Expr
    guarded_expr (column o c) = column o c
    guarded_expr (value ty x) = value ty x
    guarded_expr (list es) = list (guarded_exprs es)
    guarded_expr count_star = count_star
    guarded_expr (nullable e) = nullable (guarded_expr e)
    guarded_expr (unary u e) = unary u (guarded_expr e)
    guarded_expr (count e) = count (guarded_expr e)
    guarded_expr (compared by a b) = compared by (guarded_expr a) (guarded_expr b)
    guarded_expr (joined by a b) = joined by (guarded_expr a) (guarded_expr b)
    guarded_expr (exists q) = exists (guarded q)
    guarded_expr (single q) = single (guarded q)
    guarded_expr (among_values n e ty xs) = among_values n (guarded_expr e) ty xs
    guarded_expr (among_rows n e q) = among_rows n (guarded_expr e) (guarded q)

    pub guarded_exprs : Exprs → Exprs
    guarded_exprs no_exprs = no_exprs
    guarded_exprs (more_exprs e es) = more_exprs (guarded_expr e) (guarded_exprs es)

    pub guarded_items : Items → Items
    guarded_items no_items = no_items
    guarded_items (more_items e by is) = more_items (guarded_expr e) by (guarded_items is)

    pub guarded_maybe : MaybeExpr → MaybeExpr
    guarded_maybe no_expr = no_expr
    guarded_maybe (an_expr e) = an_expr (guarded_expr e)

    pub guarded_source : Source → Source
    guarded_source (of_table u only sample) = of_table u only sample
    guarded_source (of_alias a u) = of_alias a u
    guarded_source (join kind l r on) =
        join kind (guarded_source l) (guarded_source r) (restricted_on t p kind r (guarded_maybe on))

    pub guarded_from : From → From
    guarded_from no_source = no_source
    guarded_from (from s) = from (guarded_source s)

    pub guarded_distinct : Distinct → Distinct
    guarded_distinct every = every
    guarded_distinct distinct = distinct
    guarded_distinct (distinct_on e) = distinct_on (guarded_expr e)

    pub guarded_order : Order → Order
    guarded_order no_order = no_order
    guarded_order (order_by is) = order_by (guarded_items is)

    pub guarded : Statement → Statement
    guarded (select default e f u w o rows g h form marks) =
        select default (guarded_expr e) (guarded_from f) (guarded_distinct u)
        (with_all (predicates_from t p f) (guarded_maybe w)) (guarded_order o) rows (guarded_maybe g)
        (guarded_maybe h) form
        marks
    guarded (combination by all a b o rows) = combination by all (guarded a) (guarded b) o rows
