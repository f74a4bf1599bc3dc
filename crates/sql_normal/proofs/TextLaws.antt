-- The text of a statement's pieces is the text of its normal tree, and their values are those of its filled tree.
use Rattle.std.proofs.Common.{◌≡◌, [], ◌++◌, false, sym, ap, ◌∙◌, append-nil, codes}
use Rattle.sql_dialect.specs.declared.backend.Dialect.{Dialect}
use Rattle.sql_grammar.specs.Numbering.{each_source, each_maybe, each_maybe_expressions, each_maybe_items, each_maybe_source, each_distinct, each_query}
use Rattle.sql_grammar.specs.Values.{values_source, values_maybe, values_maybe_expressions, values_maybe_items, values_maybe_source, values_distinct, values_query}
use Rattle.sql_grammar.specs.Text as x
use Rattle.sql_pass.specs.Pieces.{one, Text, text_of, values_of}
use Rattle.sql_pass.specs.declared.value.Bound.TheVariants.{Value as OneValue}
use Rattle.sql_leaf.specs.Positions.{direction_pieces}
use Rattle.sql_node.specs.Pieces as p
use Rattle.sql_leaf.specs.Words.{join_sql, group_by}
use Rattle.sql_node.specs.Pieces.{each, expr_parts, exprs_parts, expr_pieces, pieces, around}
use Rattle.sql_node.specs.Tree.{Expr, column, value, list, count_star, nullable, unary, count, compared, joined, exists, single, among_values, among_rows, Exprs, no_exprs, more_exprs, Items, no_items, more_items, MaybeExpr, no_expr, an_expr, Source, of_table, of_alias, join, From, no_source, from, Distinct, every, distinct, distinct_on, Order, no_order, order_by, Statement, select, combination}
use Rattle.sql_normal.specs.Filled as f
use Rattle.sql_normal.specs.Filled.{lead, trees, trees_in, filled, normal, item_trees}
use Rattle.sql_normal.specs.Words as words
use Rattle.sql_normal.specs.inside.HasText.{ExprHasText, ExprsHaveText, ItemsHaveText, MaybeHasText, GroupHasText, SourceHasText, FromHasText, DistinctHasText, OrderHasText, HasText}
use Rattle.sql_normal.proofs.Lists.{has-parts}
use Rattle.sql_normal.proofs.PartTexts.{Writes, mark, then-text, then-none, regrouped-text, sql-text, no-text, name-text, bind-text, EachText, append-text, lead-text, elements-text, ItemText, ItemsText, items-text, comparison-text, unary-text, logic-text, direction-text, kind-text, combinator-text, all-text, only-text, order_by-text, group_by-text, distinct_on-text, path-text, column-text, sample-text, places-text, among-text, side_open-text, membership-text, page-text, end-text}

module _ (d : Dialect) where
  mutual
    unfolding x.expression x.source x.query x.from x.where_by x.group_by x.having_by x.order_by x.distinct ItemText ItemsText

    expr-law : (e : Expr) → ExprHasText d e → EachText d (each (expr_parts d e)) (trees d e)
    expr-law (column o c) k = (column-text d o.alias o.table c.sql_name, tt)
    expr-law (value t v) k = let h = bind-text d (OneValue t v) in (record { says = λ n more. h.says n more; has = h.has }, tt)
    expr-law (list es) k = exprs-law es k
    expr-law count_star k = let h = sql-text d (codes "COUNT(*)") in (record { says = λ n more. h.says n more; has = h.has }, tt)
    expr-law (nullable e) k = expr-law e k
    expr-law (unary u e) k = (unary-text d u _ _ (lead-text d e k.0 (expr-law e k.1)), tt)
    expr-law (count e) k =
        let h =
        then-text d (sql-text d (codes "COUNT("))
        (then-none d (lead-text d e k.0 (expr-law e k.1)) (sql-text d (codes ")"))) in
        (record { says = λ n more. h.says n more; has = h.has }, tt)
    expr-law (compared by a b) k =
        let h =
        then-text d
        (then-text d (sql-text d (codes "("))
        (then-none d (lead-text d a k.0.0 (expr-law a k.0.1)) (comparison-text d by)))
        (then-none d (lead-text d b k.1.0 (expr-law b k.1.1)) (sql-text d (codes ")"))) in
        (record { says = λ n more. h.says n more; has = h.has }, tt)
    expr-law (joined by a b) k =
        let h =
        then-text d
        (then-text d (sql-text d (codes "("))
        (then-none d (lead-text d a k.0.0 (expr-law a k.0.1)) (logic-text d by)))
        (then-none d (lead-text d b k.1.0 (expr-law b k.1.1)) (sql-text d (codes ")"))) in
        (record { says = λ n more. h.says n more; has = h.has }, tt)
    expr-law (exists q) k =
        let h = then-text d (sql-text d (codes "EXISTS (")) (then-none d (query-law q k) (sql-text d (codes ")"))) in
        (record { says = λ n more. h.says n more; has = h.has }, tt)
    expr-law (single q) k =
        let h = then-text d (sql-text d (codes "(")) (then-none d (query-law q k) (sql-text d (codes ")"))) in
        (record { says = λ n more. h.says n more; has = h.has }, tt)
    expr-law (among_values b e t vs) k = (membership-text d b _ _ t vs (lead-text d e k.0 (expr-law e k.1)), tt)
    expr-law (among_rows b e q) k =
        let h =
        then-text d
        (then-text d (sql-text d (codes "("))
        (then-none d (lead-text d e k.0.0 (expr-law e k.0.1)) (among-text d b)))
        (then-none d (query-law q k.1) (sql-text d (codes "))"))) in
        (record { says = λ n more. h.says n more; has = h.has }, tt)

    exprs-law : (es : Exprs) → ExprsHaveText d es → EachText d (exprs_parts d es) (trees_in d es)
    exprs-law no_exprs k = tt
    exprs-law (more_exprs e es) k =
        append-text d (each (expr_parts d e)) (exprs_parts d es) (trees d e) (trees_in d es) (expr-law e k.0)
        (exprs-law es k.1)

    items-law : (is : Items) → ItemsHaveText d is → ItemsText d (p.items_pieces d is) (item_trees d is)
    items-law no_items k = tt
    items-law (more_items e by is) k =
        let h = then-none d (lead-text d e k.0.0 (expr-law e k.0.1)) (direction-text d by) in
        (record { says = λ n more. h.says n more; has = h.has }, items-law is k.1)

    source-law : (s : Source) → SourceHasText d s
        → Writes d (p.source_pieces d s) (λ n r. x.source d (each_source (mark d) n (f.source_tree d s)) r)
        (values_source (f.source_tree d s))
    source-law (of_table t only s) k =
        let h = then-text d (only-text d only) (then-text d (path-text d t.schema t.sql_name) (sample-text d s)) in
        record { says = λ n more. h.says n more; has = h.has }
    source-law (of_alias a t) k =
        let h =
        then-text d (path-text d t.schema t.sql_name) (then-text d (sql-text d (codes " AS ")) (name-text d a)) in
        record { says = λ n more. h.says n more; has = h.has }
    source-law (join by l r no_expr) k = absurd k.2
    source-law (join by l r (an_expr e)) k =
        let on = around (codes " ON ") (expr_pieces d e) (codes ")") in
        let sides = one (Text (join_sql by)) ++ p.source_pieces d r in
        let whole =
        then-text d (source-law l k.0)
        (regrouped-text d (one (Text (join_sql by))) (p.source_pieces d r) on
        (then-text d (kind-text d by)
        (then-text d (source-law r k.1)
        (then-text d (sql-text d (codes " ON "))
        (then-none d (lead-text d e k.2.0 (expr-law e k.2.1)) (sql-text d (codes ")"))))))) in
        let h = then-text d (sql-text d (codes "(")) (regrouped-text d (p.source_pieces d l) sides on whole) in
        record { says = λ n more. h.says n more; has = h.has }

    from-law : (s : From) → FromHasText d s
        → Writes d (p.from_pieces d s) (λ n r. x.from d (each_maybe_source (mark d) n (f.from_tree d s)) r)
        (values_maybe_source (f.from_tree d s))
    from-law no_source k = no-text d
    from-law (from s) k =
        let h = then-text d (sql-text d (codes " FROM ")) (source-law s k) in record { says = λ n more. h.says n more; has = h.has }

    where-law : (e : MaybeExpr) → MaybeHasText d e
        → Writes d (p.maybe_pieces d (codes " WHERE ") e)
        (λ n r. x.where_by d (each_maybe (mark d) n (f.maybe_tree d e)) r) (values_maybe (f.maybe_tree d e))
    where-law no_expr k = no-text d
    where-law (an_expr e) k =
        let h = then-text d (sql-text d (codes " WHERE ")) (lead-text d e k.0 (expr-law e k.1)) in
        record { says = λ n more. h.says n more; has = h.has }

    having-law : (e : MaybeExpr) → MaybeHasText d e
        → Writes d (p.maybe_pieces d (codes " HAVING ") e)
        (λ n r. x.having_by d (each_maybe (mark d) n (f.maybe_tree d e)) r) (values_maybe (f.maybe_tree d e))
    having-law no_expr k = no-text d
    having-law (an_expr e) k =
        let h = then-text d (sql-text d (codes " HAVING ")) (lead-text d e k.0 (expr-law e k.1)) in
        record { says = λ n more. h.says n more; has = h.has }

    group-law : (e : MaybeExpr) → GroupHasText d e
        → Writes d (p.maybe_pieces d group_by e)
        (λ n r. x.group_by d (each_maybe_expressions (mark d) n (f.group_tree d e)) r) (values_maybe_expressions (f.group_tree d e))
    group-law no_expr k = no-text d
    group-law (an_expr e) k =
        let h =
        then-text d (group_by-text d) (elements-text d (expr_parts d e) _ (has-parts d e k.0) (expr-law e k.1)) in
        record { says = λ n more. h.says n more; has = h.has }

    distinct-law : (u : Distinct) → DistinctHasText d u
        → Writes d (p.distinct_pieces d u) (λ n r. x.distinct d (each_distinct (mark d) n (f.distinct_tree d u)) r)
        (values_distinct (f.distinct_tree d u))
    distinct-law every k = no-text d
    distinct-law distinct k = let h = sql-text d (codes "DISTINCT ") in record { says = λ n more. h.says n more; has = h.has }
    distinct-law (distinct_on e) k =
        let h =
        then-text d (distinct_on-text d)
        (then-none d (elements-text d (expr_parts d e) _ (has-parts d e k.1) (expr-law e k.2))
        (sql-text d (codes ") "))) in
        record { says = λ n more. h.says n more; has = h.has }

    order-law : (o : Order) → OrderHasText d o
        → Writes d (p.order_pieces d o) (λ n r. x.order_by d (each_maybe_items (mark d) n (f.order_tree d o)) r)
        (values_maybe_items (f.order_tree d o))
    order-law no_order k = no-text d
    order-law (order_by no_items) k = absurd k.0
    order-law (order_by (more_items e by is)) k =
        let first = then-none d (lead-text d e k.1.0.0 (expr-law e k.1.0.1)) (direction-text d by) in
        let h =
        then-text d (order_by-text d)
        (items-text d (expr_pieces d e ++ direction_pieces by) (p.items_pieces d is)
        (lead (trees d e), words.direction_of by) (item_trees d is)
        (record { says = λ n more. first.says n more; has = first.has }) (items-law is k.1.1)) in
        record { says = λ n more. h.says n more; has = h.has }

    query-law : (s : Statement) → HasText d s
        → Writes d (pieces d s) (λ n r. x.query d (each_query (mark d) n (filled d s)) r) (values_query (filled d s))
    query-law (select default e s u w o rows by h form marks) k =
        let whole =
        then-text d (sql-text d (codes "SELECT "))
        (then-text d (distinct-law u k.0)
        (then-text d (elements-text d (expr_parts d e) _ (has-parts d e k.1.0) (expr-law e k.1.1))
        (then-text d (from-law s k.2) (then-text d (where-law w k.3)
        (then-text d (group-law by k.4)
        (then-text d (having-law h k.5) (then-text d (order-law o k.6) (end-text d form rows k.7))))))))
        in
        record { says = λ n more. whole.says n more; has = whole.has }
    query-law (combination by all a b o rows) k =
        let left = then-text d (side_open-text d) (then-none d (query-law a k.0) (sql-text d (codes ")"))) in
        let right = then-text d (side_open-text d) (then-none d (query-law b k.2) (sql-text d (codes ")"))) in
        let whole =
        then-text d left
        (then-text d (combinator-text d by)
        (then-text d (all-text d all)
        (then-text d right
        (then-text d (places-text d o k.3) (page-text d false rows.limit_clause rows.offset_clause k.4))))) in
        record { says = λ n more. whole.says n more; has = whole.has }

pub text-law : (d : Dialect) (s : Statement) → HasText d s → text_of d 0 (pieces d s) ≡ x.text d (normal d s)
unfolding x.text
text-law d s k = ap (text_of d 0) (sym (append-nil (pieces d s))) ∙ (query-law d s k).says 0 []

pub value-law : (d : Dialect) (s : Statement) → HasText d s → values_of (pieces d s) ≡ values_query (filled d s)
value-law d s k = (query-law d s k).has
