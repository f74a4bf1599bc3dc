-- The tables of all leaves of a statement are the schema's.
use Rattle.std.proofs.Common.{◌≡◌, ℕ, List, [], ◌∷◌, ◌++◌, subst}
use Rattle.sql_dialect.specs.Syntax.{array}
use Rattle.sql_dialect.specs.declared.backend.Dialect.{Dialect}
use Rattle.sql_dialect.specs.declared.syntax.ArrayComparison.{ArrayComparison}
use Rattle.sql_dialect.specs.declared.syntax.ArrayComparison.TheVariants.{AnsiSqlArrayComparison, PgStyleArrayComparison}
use Rattle.sql_schema.specs.declared.declaration.TableDecl.{TableDecl}
use Rattle.sql_pass.specs.declared.value.Value.{Value}
use Rattle.sql_node.specs.Tree.{Origin, Expr, column, value, list, count_star, nullable, unary, count, compared, joined, exists, single, among_values, among_rows, Exprs, no_exprs, more_exprs, Items, no_items, more_items, MaybeExpr, no_expr, an_expr, Source, of_table, of_alias, join, From, no_source, from, Distinct, every, distinct, distinct_on, Order, no_order, order_by, Statement, select, combination}
use Rattle.sql_rules.specs.Lists.{Each}
use Rattle.sql_rules.specs.Scope.{View, origins, origins_of, widest, parts, in_expr, in_exprs, in_items, in_maybe, in_source, in_from, in_distinct, in_order}
use Rattle.sql_rules_law.proofs.Lists.{each_append, each_front, each_back}
use Rattle.sql_audit_law.specs.Own.{kept, sources_expr, sources_exprs, sources_items, sources_maybe, sources_source, sources_from, sources_distinct, sources_order, sources}
use Rattle.sql_audit_law.proofs.Sought.{IsKnown}
use Rattle.sql_audit_law.proofs.Uses.{FinePart, origins-join}

each_kept : {X : Type 0} (P : X → Type 0) (form : ArrayComparison) (vs : List Value) (xs : List X) → Each P xs
    → Each P (kept form vs xs)
each_kept P PgStyleArrayComparison vs xs h = h
each_kept P AnsiSqlArrayComparison [] xs h = tt
each_kept P AnsiSqlArrayComparison (v ∷ vs) xs h = h

module _ (ts : List TableDecl) (d : Dialect) where
  mutual
    known-expr : (v : View) (e : Expr) → Each (FinePart ts) (in_expr v e) → Each (IsKnown ts) (sources_expr d e)
    known-expr v (column o c) p = tt
    known-expr v (value t x) p = tt
    known-expr v (list es) p = known-exprs v es p
    known-expr v count_star p = tt
    known-expr v (nullable e) p = known-expr v e p
    known-expr v (unary n e) p = known-expr v e p
    known-expr v (count e) p = known-expr v e p
    known-expr v (compared by a b) p =
        each_append (IsKnown ts) (sources_expr d a) (sources_expr d b)
        (known-expr v a (each_front (FinePart ts) (in_expr v a) (in_expr v b) p))
        (known-expr v b (each_back (FinePart ts) (in_expr v a) (in_expr v b) p))
    known-expr v (joined by a b) p =
        each_append (IsKnown ts) (sources_expr d a) (sources_expr d b)
        (known-expr v a (each_front (FinePart ts) (in_expr v a) (in_expr v b) p))
        (known-expr v b (each_back (FinePart ts) (in_expr v a) (in_expr v b) p))
    known-expr v (exists q) p = known-query v q p
    known-expr v (single q) p = known-query v q p
    known-expr v (among_values n e t vs) p =
        each_kept (IsKnown ts) (array d) vs (sources_expr d e) (known-expr v e p)
    known-expr v (among_rows n e q) p =
        each_append (IsKnown ts) (sources_expr d e) (sources d q)
        (known-expr v e (each_front (FinePart ts) (in_expr v e) (parts v q) p))
        (known-query v q (each_back (FinePart ts) (in_expr v e) (parts v q) p))

    known-exprs : (v : View) (es : Exprs) → Each (FinePart ts) (in_exprs v es) → Each (IsKnown ts) (sources_exprs d es)
    known-exprs v no_exprs p = tt
    known-exprs v (more_exprs e es) p =
        each_append (IsKnown ts) (sources_expr d e) (sources_exprs d es)
        (known-expr v e (each_front (FinePart ts) (in_expr v e) (in_exprs v es) p))
        (known-exprs v es (each_back (FinePart ts) (in_expr v e) (in_exprs v es) p))

    known-items : (v : View) (is : Items) → Each (FinePart ts) (in_items v is) → Each (IsKnown ts) (sources_items d is)
    known-items v no_items p = tt
    known-items v (more_items e by is) p =
        each_append (IsKnown ts) (sources_expr d e) (sources_items d is)
        (known-expr v e (each_front (FinePart ts) (in_expr v e) (in_items v is) p))
        (known-items v is (each_back (FinePart ts) (in_expr v e) (in_items v is) p))

    known-maybe : (v : View) (e : MaybeExpr) → Each (FinePart ts) (in_maybe v e) → Each (IsKnown ts) (sources_maybe d e)
    known-maybe v no_expr p = tt
    known-maybe v (an_expr e) p = known-expr v e p

    known-source : (s : Source) → Each (IsKnown ts) (origins s) → Each (FinePart ts) (in_source s)
        → Each (IsKnown ts) (sources_source d s)
    known-source (of_table t only sample) k p = k
    known-source (of_alias a t) k p = k
    known-source (join kind a b on) k p =
        let v : View = origins a ++ origins b in
        let both : Each (IsKnown ts) v = subst (Each (IsKnown ts)) (origins-join kind a b on) k in
        let rest : Each (FinePart ts) (in_source b ++ in_maybe v on) =
        each_back (FinePart ts) (in_source a) (in_source b ++ in_maybe v on) p in
        each_append (IsKnown ts) (sources_source d a) (sources_source d b ++ sources_maybe d on)
        (known-source a (each_front (IsKnown ts) (origins a) (origins b) both)
        (each_front (FinePart ts) (in_source a) (in_source b ++ in_maybe v on) p))
        (each_append (IsKnown ts) (sources_source d b) (sources_maybe d on)
        (known-source b (each_back (IsKnown ts) (origins a) (origins b) both)
        (each_front (FinePart ts) (in_source b) (in_maybe v on) rest))
        (known-maybe v on (each_back (FinePart ts) (in_source b) (in_maybe v on) rest)))

    known-from : (f : From) → Each (IsKnown ts) (origins_of f) → Each (FinePart ts) (in_from f)
        → Each (IsKnown ts) (sources_from d f)
    known-from no_source k p = tt
    known-from (from s) k p = known-source s k p

    known-distinct : (v : View) (u : Distinct) → Each (FinePart ts) (in_distinct v u)
        → Each (IsKnown ts) (sources_distinct d u)
    known-distinct v every p = tt
    known-distinct v distinct p = tt
    known-distinct v (distinct_on e) p = known-expr v e p

    known-order : (v : View) (o : Order) → Each (FinePart ts) (in_order v o) → Each (IsKnown ts) (sources_order d o)
    known-order v no_order p = tt
    known-order v (order_by is) p = known-items v is p

    pub known-query : (outer : View) (q : Statement) → Each (FinePart ts) (parts outer q)
        → Each (IsKnown ts) (sources d q)
    known-query outer (select default e f u w o rows g h form marks) p =
        let v : View = origins_of f in
        let wide : View = widest form f outer in
        let q5 = in_maybe v h ++ in_order v o in
        let q4 = in_maybe v g ++ q5 in
        let q3 = in_maybe wide w ++ q4 in
        let q2 = in_from f ++ q3 in
        let q1 = in_expr v e ++ q2 in
        let p1 : Each (FinePart ts) q1 = each_back (FinePart ts) (in_distinct v u) q1 p.1 in
        let p2 : Each (FinePart ts) q2 = each_back (FinePart ts) (in_expr v e) q2 p1 in
        let p3 : Each (FinePart ts) q3 = each_back (FinePart ts) (in_from f) q3 p2 in
        let p4 : Each (FinePart ts) q4 = each_back (FinePart ts) (in_maybe wide w) q4 p3 in
        let p5 : Each (FinePart ts) q5 = each_back (FinePart ts) (in_maybe v g) q5 p4 in
        let s6 = sources_maybe d h ++ sources_order d o in
        let s5 = sources_maybe d g ++ s6 in
        let s4 = sources_maybe d w ++ s5 in
        let s3 = sources_from d f ++ s4 in
        let s2 = sources_expr d e ++ s3 in
        each_append (IsKnown ts) (sources_distinct d u) s2
        (known-distinct v u (each_front (FinePart ts) (in_distinct v u) q1 p.1))
        (each_append (IsKnown ts) (sources_expr d e) s3
        (known-expr v e (each_front (FinePart ts) (in_expr v e) q2 p1))
        (each_append (IsKnown ts) (sources_from d f) s4
        (known-from f p.0.1 (each_front (FinePart ts) (in_from f) q3 p2))
        (each_append (IsKnown ts) (sources_maybe d w) s5
        (known-maybe wide w (each_front (FinePart ts) (in_maybe wide w) q4 p3))
        (each_append (IsKnown ts) (sources_maybe d g) s6
        (known-maybe v g (each_front (FinePart ts) (in_maybe v g) q5 p4))
        (each_append (IsKnown ts) (sources_maybe d h) (sources_order d o)
        (known-maybe v h (each_front (FinePart ts) (in_maybe v h) (in_order v o) p5))
        (known-order v o (each_back (FinePart ts) (in_maybe v h) (in_order v o) p5)))))))
    known-query outer (combination by all a b o rows) p =
        each_append (IsKnown ts) (sources d a) (sources d b)
        (known-query outer a (each_front (FinePart ts) (parts outer a) (parts outer b) p.1))
        (known-query outer b (each_back (FinePart ts) (parts outer a) (parts outer b) p.1))
