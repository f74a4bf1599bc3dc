-- The tables of a statement's tree are those of the statement's leaves.
use Rattle.std.proofs.Common.{◌≡◌, ℕ, ◌+◌, List, [], ◌∷◌, ◌++◌, map, length, Option, None, Some, Bool, refl, sym, ap, ◌∙◌, append_assoc, length-append}
use Rattle.std.proofs.lemmas.List.{append-nil, map-append, length-map}
use Rattle.sql_dialect.specs.Syntax.{array}
use Rattle.sql_dialect.specs.declared.backend.Dialect.{Dialect}
use Rattle.sql_dialect.specs.declared.syntax.ArrayComparison.{ArrayComparison}
use Rattle.sql_dialect.specs.declared.syntax.ArrayComparison.TheVariants.{AnsiSqlArrayComparison, PgStyleArrayComparison}
use Rattle.sql_schema.specs.declared.declaration.TableDecl.{TableDecl}
use Rattle.sql_schema.specs.declared.types.SqlType.{SqlType}
use Rattle.sql_grammar.specs.Tree as g
use Rattle.sql_pass.specs.declared.value.Bound.{Bound}
use Rattle.sql_pass.specs.declared.value.Bound.TheVariants.{Value as OneValue, List as ManyValues}
use Rattle.sql_pass.specs.declared.value.Value.{Value}
use Rattle.sql_leaf.specs.declared.operator.Unary.{Unary}
use Rattle.sql_leaf.specs.declared.operator.Unary.TheVariants.{Not, IsNull, IsNotNull}
use Rattle.sql_node.specs.Tree.{Origin, Expr, column, value, list, count_star, nullable, unary, count, compared, joined, exists, single, among_values, among_rows, Exprs, no_exprs, more_exprs, Items, no_items, more_items, MaybeExpr, no_expr, an_expr, Source, of_table, of_alias, join, From, no_source, from, Distinct, every, distinct, distinct_on, Order, no_order, order_by, Statement, select, combination}
use Rattle.sql_normal.specs.Filled.{first_name, more_names, column_path, lead, expressions_from, expressions_of, Item, items_from, items_of, one_by_one, among_as, trees, trees_in, item_trees, maybe_tree, group_tree, on_tree, source_tree, from_tree, distinct_tree, order_tree, filled}
use Rattle.sql_normal.specs.Words.{comparison_of, logic_of, unary_tree}
use Rattle.sql_normal.specs.inside.HasText.{IsSingle, ExprHasText, ExprsHaveText, ItemsHaveText, MaybeHasText, GroupHasText, OnHasText, SourceHasText, FromHasText, DistinctHasText, OrderHasText, HasText}
use Rattle.sql_audit_resolution.specs.Leaves as l
use Rattle.sql_audit_resolution.specs.Leaves.{Backwards, backwards}
use Rattle.sql_audit_resolution.specs.Meant.{path_of_table}
use Rattle.sql_audit_law.specs.Own.{kept, sources_expr, sources_exprs, sources_items, sources_maybe, sources_source, sources_from, sources_distinct, sources_order, sources}
use Rattle.sql_audit_law.proofs.Pairs.{both}

abbrev pub place : Origin → Backwards
place o = path_of_table o.table

abbrev pub places : List Origin → List Backwards
places os = map place os

-- the tables of trees, one after the other
abbrev pub in_trees : List (g.Expression Bound) → List Backwards
in_trees [] = []
in_trees (t ∷ ts) = l.tables_expression t ++ in_trees ts

one-table : (t : g.Expression Bound) → in_trees (t ∷ []) ≡ l.tables_expression t
one-table t = append-nil (l.tables_expression t)

in_trees-append : (xs ys : List (g.Expression Bound)) → in_trees (xs ++ ys) ≡ in_trees xs ++ in_trees ys
in_trees-append [] ys = refl
in_trees-append (x ∷ xs) ys =
    ap (λ z. l.tables_expression x ++ z) (in_trees-append xs ys)
    ∙ sym (append_assoc (l.tables_expression x) (in_trees xs) (in_trees ys))

from-tables : (t : g.Expression Bound) (ts : List (g.Expression Bound))
    → l.tables_expressions (expressions_from t ts) ≡ in_trees (t ∷ ts)
from-tables t [] = sym (append-nil (l.tables_expression t))
from-tables t (s ∷ ss) = ap (λ z. l.tables_expression t ++ z) (from-tables s ss)

pub expressions-tables : (ts : List (g.Expression Bound)) → l.tables_expressions (expressions_of ts) ≡ in_trees ts
expressions-tables [] = refl
expressions-tables (t ∷ ts) = from-tables t ts

-- the same of items
abbrev in_items : List Item → List Backwards
in_items [] = []
in_items (i ∷ is) = l.tables_expression i.0 ++ in_items is

items_from-tables : (i : Item) (is : List Item) → l.tables_items (items_from i is) ≡ in_items (i ∷ is)
items_from-tables i [] = sym (append-nil (l.tables_expression i.0))
items_from-tables i (j ∷ js) = ap (λ z. l.tables_expression i.0 ++ z) (items_from-tables j js)

items-tables : (is : List Item) → l.tables_items (items_of is) ≡ in_items is
items-tables [] = refl
items-tables (i ∷ is) = items_from-tables i is

-- ## Names

pub table-path : (t : TableDecl)
    → backwards (first_name t.schema t.sql_name) (more_names t.schema t.sql_name []) ≡ path_of_table t
table-path t = go t.schema t.sql_name
  where
    go : (schema : Option (List ℕ)) (name : List ℕ)
        → backwards (first_name schema name) (more_names schema name [])
        ≡ path_of_table (record t { schema = schema; sql_name = name })
    go None name = refl
    go (Some s) name = refl

column-tables : (alias : Option (List ℕ)) (t : TableDecl) (c : List ℕ) → l.tables_expression (column_path alias t c) ≡ []
column-tables None t c = refl
column-tables (Some a) t c = refl

-- ## Operands

pub alone : (d : Dialect) (e : Expr) → IsSingle e → trees d e ≡ lead (trees d e) ∷ []
alone d (list es) h = absurd h
alone d (nullable e) h = alone d e h
alone d _ h = refl

operand : (d : Dialect) (e : Expr) (os : List Origin) → IsSingle e → in_trees (trees d e) ≡ places os
    → l.tables_expression (lead (trees d e)) ≡ places os
operand d e os h is =
    sym (append-nil (l.tables_expression (lead (trees d e)))) ∙ sym (ap in_trees (alone d e h)) ∙ is

unary-tables : (u : Unary) (a : g.Expression Bound) → l.tables_expression (unary_tree u a) ≡ l.tables_expression a
unary-tables Not a = refl
unary-tables IsNull a = refl
unary-tables IsNotNull a = refl

-- what stands before IN
kept-places : (form : ArrayComparison) (vs : List Value) (os : List Origin)
    → kept form vs (places os) ≡ places (kept form vs os)
kept-places PgStyleArrayComparison vs os = refl
kept-places AnsiSqlArrayComparison [] os = refl
kept-places AnsiSqlArrayComparison (v ∷ vs) os = refl

among-tables : (form : ArrayComparison) (negated : Bool) (x : g.Expression Bound) (all : Bound) (t : SqlType)
    (vs : List Value)
    → l.tables_expression (among_as form negated x all (map (OneValue t) vs)) ≡ kept form vs (l.tables_expression x)
among-tables PgStyleArrayComparison negated x all t vs = refl
among-tables AnsiSqlArrayComparison negated x all t [] = refl
among-tables AnsiSqlArrayComparison negated x all t (v ∷ vs) = refl

joined-places : (xs ys : List Backwards) (os ps : List Origin) → xs ≡ places os → ys ≡ places ps
    → xs ++ ys ≡ places (os ++ ps)
joined-places xs ys os ps p q = both p q ∙ sym (map-append place os ps)

module _ (d : Dialect) where
  mutual
    pub expr-tables : (e : Expr) → ExprHasText d e → in_trees (trees d e) ≡ places (sources_expr d e)
    expr-tables (column o c) h =
        one-table (column_path o.alias o.table c.sql_name) ∙ column-tables o.alias o.table c.sql_name
    expr-tables (value t x) h = refl
    expr-tables (list es) h = exprs-tables es h
    expr-tables count_star h = refl
    expr-tables (nullable e) h = expr-tables e h
    expr-tables (unary u e) h =
        one-table (unary_tree u (lead (trees d e))) ∙ unary-tables u (lead (trees d e))
        ∙ operand d e (sources_expr d e) h.0 (expr-tables e h.1)
    expr-tables (count e) h = one-table (g.Count (lead (trees d e))) ∙ operand d e (sources_expr d e) h.0 (expr-tables e h.1)
    expr-tables (compared by a b) h =
        one-table (g.Compared (comparison_of by) (lead (trees d a)) (lead (trees d b)))
        ∙ joined-places _ _ (sources_expr d a) (sources_expr d b) (operand d a (sources_expr d a) h.0.0 (expr-tables a h.0.1)) (operand d b (sources_expr d b) h.1.0 (expr-tables b h.1.1))
    expr-tables (joined by a b) h =
        one-table (g.Connected (logic_of by) (lead (trees d a)) (lead (trees d b)))
        ∙ joined-places _ _ (sources_expr d a) (sources_expr d b) (operand d a (sources_expr d a) h.0.0 (expr-tables a h.0.1)) (operand d b (sources_expr d b) h.1.0 (expr-tables b h.1.1))
    expr-tables (exists q) h = one-table (g.Exists (filled d q)) ∙ query-tables q h
    expr-tables (single q) h = one-table (g.SingleValue (filled d q)) ∙ query-tables q h
    expr-tables (among_values n e t vs) h =
        one-table (among_as (array d) n (lead (trees d e)) (ManyValues t vs) (map (OneValue t) vs))
        ∙ among-tables (array d) n (lead (trees d e)) (ManyValues t vs) t vs
        ∙ ap (kept (array d) vs) (operand d e (sources_expr d e) h.0 (expr-tables e h.1)) ∙ kept-places (array d) vs (sources_expr d e)
    expr-tables (among_rows n e q) h =
        one-table (g.InQuery n (lead (trees d e)) (filled d q))
        ∙ joined-places _ _ (sources_expr d e) (sources d q) (operand d e (sources_expr d e) h.0.0 (expr-tables e h.0.1)) (query-tables q h.1)

    pub exprs-tables : (es : Exprs) → ExprsHaveText d es → in_trees (trees_in d es) ≡ places (sources_exprs d es)
    exprs-tables no_exprs h = refl
    exprs-tables (more_exprs e es) h =
        in_trees-append (trees d e) (trees_in d es)
        ∙ joined-places _ _ (sources_expr d e) (sources_exprs d es) (expr-tables e h.0) (exprs-tables es h.1)

    pub items-places : (is : Items) → ItemsHaveText d is → in_items (item_trees d is) ≡ places (sources_items d is)
    items-places no_items h = refl
    items-places (more_items e by is) h =
        joined-places _ _ (sources_expr d e) (sources_items d is) (operand d e (sources_expr d e) h.0.0 (expr-tables e h.0.1)) (items-places is h.1)

    pub maybe-tables : (e : MaybeExpr) → MaybeHasText d e
        → l.tables_maybe (maybe_tree d e) ≡ places (sources_maybe d e)
    maybe-tables no_expr h = refl
    maybe-tables (an_expr e) h = operand d e (sources_expr d e) h.0 (expr-tables e h.1)

    pub group-tables : (e : MaybeExpr) → GroupHasText d e
        → l.tables_group (group_tree d e) ≡ places (sources_maybe d e)
    group-tables no_expr h = refl
    group-tables (an_expr e) h = expressions-tables (trees d e) ∙ expr-tables e h.1

    pub on-tables : (e : MaybeExpr) → OnHasText d e → l.tables_expression (on_tree d e) ≡ places (sources_maybe d e)
    on-tables no_expr h = refl
    on-tables (an_expr e) h = operand d e (sources_expr d e) h.0 (expr-tables e h.1)

    pub source-tables : (s : Source) → SourceHasText d s → l.tables_source (source_tree d s) ≡ places (sources_source d s)
    source-tables (of_table t only sample) h = ap (λ p. p ∷ []) (table-path t)
    source-tables (of_alias a t) h = ap (λ p. p ∷ []) (table-path t)
    source-tables (join k a b on) h =
        joined-places _ _ (sources_source d a) (sources_source d b ++ sources_maybe d on) (source-tables a h.0)
        (joined-places _ _ (sources_source d b) (sources_maybe d on) (source-tables b h.1) (on-tables on h.2))

    pub from-tables-of : (f : From) → FromHasText d f → l.tables_from (from_tree d f) ≡ places (sources_from d f)
    from-tables-of no_source h = refl
    from-tables-of (from s) h = source-tables s h

    pub distinct-tables : (u : Distinct) → DistinctHasText d u
        → l.tables_distinct (distinct_tree d u) ≡ places (sources_distinct d u)
    distinct-tables every h = refl
    distinct-tables distinct h = refl
    distinct-tables (distinct_on e) h = expressions-tables (trees d e) ∙ expr-tables e h.2

    pub order-tables : (o : Order) → OrderHasText d o → l.tables_order (order_tree d o) ≡ places (sources_order d o)
    order-tables no_order h = refl
    order-tables (order_by is) h = items-tables (item_trees d is) ∙ items-places is h.1

    pub query-tables : (q : Statement) → HasText d q → l.tables_query (filled d q) ≡ places (sources d q)
    query-tables (select default e f u w o rows g h form marks) t =
        let s6 = sources_maybe d h ++ sources_order d o in
        let s5 = sources_maybe d g ++ s6 in
        let s4 = sources_maybe d w ++ s5 in
        let s3 = sources_from d f ++ s4 in
        let s2 = sources_expr d e ++ s3 in
        joined-places _ _ (sources_distinct d u) s2 (distinct-tables u t.0)
        (joined-places _ _ (sources_expr d e) s3 (expressions-tables (trees d e) ∙ expr-tables e t.1.1)
        (joined-places _ _ (sources_from d f) s4 (from-tables-of f t.2)
        (joined-places _ _ (sources_maybe d w) s5 (maybe-tables w t.3)
        (joined-places _ _ (sources_maybe d g) s6 (group-tables g t.4)
        (joined-places _ _ (sources_maybe d h) (sources_order d o) (maybe-tables h t.5) (order-tables o t.6))))))
    query-tables (combination by all a b o rows) t =
        joined-places _ _ (sources d a) (sources d b) (query-tables a t.0) (query-tables b t.2)

  pub operand-tables : (e : Expr) → IsSingle e × ExprHasText d e
      → l.tables_expression (lead (trees d e)) ≡ places (sources_expr d e)
  operand-tables e h = operand d e (sources_expr d e) h.0 (expr-tables e h.1)

  pub selection-tables : (e : Expr) → ExprHasText d e
      → l.tables_expressions (expressions_of (trees d e)) ≡ places (sources_expr d e)
  selection-tables e h = expressions-tables (trees d e) ∙ expr-tables e h

  -- ## How many they are

  counted : (xs : List Backwards) (os : List Origin) → xs ≡ places os → length xs ≡ length os
  counted xs os is = ap length is ∙ length-map os place

  pub operand-count : (e : Expr) → IsSingle e × ExprHasText d e
      → length (l.tables_expression (lead (trees d e))) ≡ length (sources_expr d e)
  operand-count e h = counted _ (sources_expr d e) (operand-tables e h)

  pub expr-count : (e : Expr) → ExprHasText d e → length (in_trees (trees d e)) ≡ length (sources_expr d e)
  expr-count e h = counted _ (sources_expr d e) (expr-tables e h)

  pub selection-count : (e : Expr) → ExprHasText d e
      → length (l.tables_expressions (expressions_of (trees d e))) ≡ length (sources_expr d e)
  selection-count e h = counted _ (sources_expr d e) (selection-tables e h)

  pub source-count : (s : Source) → SourceHasText d s
      → length (l.tables_source (source_tree d s)) ≡ length (sources_source d s)
  source-count s h = counted _ (sources_source d s) (source-tables s h)

  pub from-count : (f : From) → FromHasText d f → length (l.tables_from (from_tree d f)) ≡ length (sources_from d f)
  from-count f h = counted _ (sources_from d f) (from-tables-of f h)

  pub maybe-count : (e : MaybeExpr) → MaybeHasText d e
      → length (l.tables_maybe (maybe_tree d e)) ≡ length (sources_maybe d e)
  maybe-count e h = counted _ (sources_maybe d e) (maybe-tables e h)

  pub group-count : (e : MaybeExpr) → GroupHasText d e
      → length (l.tables_group (group_tree d e)) ≡ length (sources_maybe d e)
  group-count e h = counted _ (sources_maybe d e) (group-tables e h)

  pub distinct-count : (u : Distinct) → DistinctHasText d u
      → length (l.tables_distinct (distinct_tree d u)) ≡ length (sources_distinct d u)
  distinct-count u h = counted _ (sources_distinct d u) (distinct-tables u h)

  pub query-count : (q : Statement) → HasText d q → length (l.tables_query (filled d q)) ≡ length (sources d q)
  query-count q h = counted _ (sources d q) (query-tables q h)
