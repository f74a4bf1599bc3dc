-- Each path of a statement's tree stands for its column, of the column's own source.
use Rattle.std.proofs.Common.{◌≡◌, ℕ, zero, suc, ◌+◌, List, [], ◌∷◌, ◌++◌, map, length, Bool, false, Option, None, Some, refl, sym, ap, ◌∙◌, inl, inr, ◌⊎◌, subst, arith}
use Rattle.std.proofs.lemmas.List.{append-nil}
use Rattle.std.specs.Prelude.{slice_get}
use Rattle.std.specs.List.{list_any}
use Rattle.sql_dialect.specs.Syntax.{array}
use Rattle.sql_dialect.specs.declared.backend.Dialect.{Dialect}
use Rattle.sql_schema.specs.declared.declaration.ColumnDecl.{ColumnDecl}
use Rattle.sql_schema.specs.declared.declaration.TableDecl.{TableDecl}
use Rattle.sql_schema.specs.Refusals.{any_two, tables_clash, has_duplicate_column}
use Rattle.sql_grammar.specs.Tree as g
use Rattle.sql_pass.specs.declared.value.Bound.{Bound}
use Rattle.sql_pass.specs.declared.value.Bound.TheVariants.{Value as OneValue, List as ManyValues}
use Rattle.sql_leaf.specs.declared.table_source.JoinKind.{JoinKind}
use Rattle.sql_leaf.specs.declared.table_source.JoinKind.TheVariants.{Inner, LeftOuter}
use Rattle.sql_leaf.specs.declared.operator.Unary.{Unary}
use Rattle.sql_leaf.specs.declared.operator.Unary.TheVariants.{Not, IsNull, IsNotNull}
use Rattle.sql_node.specs.Tree.{Origin, Form, unboxed, boxed, Expr, column, value, list, count_star, nullable, unary, count, compared, joined, exists, single, among_values, among_rows, Exprs, no_exprs, more_exprs, Items, no_items, more_items, MaybeExpr, no_expr, an_expr, Source, of_table, of_alias, join, From, no_source, from, Distinct, every, distinct, distinct_on, Order, no_order, order_by, Statement, select, combination}
use Rattle.sql_origin.specs.Leaves.{Leaf, leaves, in_right_side}
use Rattle.sql_origin.specs.Origins.{a_table, an_alias}
use Rattle.sql_normal.specs.Filled.{first_name, more_names, column_path, lead, expressions_of, among_as, trees, trees_in, item_trees, maybe_tree, group_tree, on_tree, source_tree, from_tree, distinct_tree, order_tree, filled}
use Rattle.sql_normal.specs.Words.{comparison_of, logic_of, unary_tree}
use Rattle.sql_normal.specs.inside.HasText.{IsSingle, ExprHasText, ExprsHaveText, ItemsHaveText, MaybeHasText, GroupHasText, OnHasText, SourceHasText, FromHasText, DistinctHasText, OrderHasText, HasText}
use Rattle.sql_rules.specs.Lists.{AnyOf, Each}
use Rattle.sql_rules.specs.Names.{path, NamesOnly}
use Rattle.sql_rules.specs.Scope.{View, origins, origins_of, widest, Part, a_select, a_combination, parts, in_expr, in_exprs, in_items, in_maybe, in_source, in_from, in_distinct, in_order, Place, in_selection, in_on, in_where, in_group_by, in_having, Clause, clauses, maybe_clause, ons, ons_of, distinct_clause, item_clauses, order_clauses, own, nodes, nodes_of}
use Rattle.sql_rules_law.proofs.Lists.{each_front, each_back}
use Rattle.sql_audit_resolution.specs.Leaves as l
use Rattle.sql_audit_resolution.specs.Leaves.{Level, backwards}
use Rattle.sql_audit_resolution.specs.Uses as u
use Rattle.sql_audit_law.specs.Own.{AllPairs, kept, sources_expr, sources_exprs, sources_items, sources_maybe, sources_source, sources_from, sources_distinct, sources_order, sources, columns_expr, columns_exprs, columns_items, columns_maybe, columns_source, columns_from, columns_distinct, columns_order, columns_in}
use Rattle.sql_audit_law.proofs.Pairs.{pairs_append}
use Rattle.sql_audit_law.proofs.Places as places
use Rattle.sql_audit_law.proofs.Places.{in_trees, table-path}
use Rattle.sql_audit_law.proofs.Found.{columns-apart}
use Rattle.sql_audit_law.proofs.Sought.{exposed, use_at, IsKnown, IsLeafOf, Sees, path-sought}
use Rattle.sql_audit_law.proofs.Standing.{AreAt, at-front, at-back, Stand, stand-none, stand-append, stand-same, uses_trees, uses_item_trees, trees-append, expressions-trees, items-trees, lone, one-tree, column-use, among-stands}

-- ## What is known of a statement that breaks no rule

-- a column names its own source alone, and the schema declares it
abbrev pub Fine : List TableDecl → View → Expr → Type 0
Fine ts v (column o c) = NamesOnly v (path o c) o × IsKnown ts o × AnyOf (λ d. d ≡ c) o.table.columns
Fine ts v _ = Unit {0}

abbrev pub FineClause : List TableDecl → Clause → Type 0
FineClause ts c = Each (Fine ts c.view) (nodes c.expr)

abbrev pub FinePart : List TableDecl → Part → Type 0
FinePart ts (a_select outer s) = Each (FineClause ts) (clauses outer s) × Each (IsKnown ts) (own s)
FinePart ts (a_combination c) = Unit {0}

-- ## Leaves

origins-append : (xs ys : List Leaf)
    → map (λ (x : Leaf). x.origin) (xs ++ ys) ≡ map (λ (x : Leaf). x.origin) xs ++ map (λ (x : Leaf). x.origin) ys
origins-append [] ys = refl
origins-append (x ∷ xs) ys = ap (λ v. x.origin ∷ v) (origins-append xs ys)

origins-padded : (k : JoinKind) (xs : List Leaf)
    → map (λ (x : Leaf). x.origin) (map (in_right_side k) xs) ≡ map (λ (x : Leaf). x.origin) xs
origins-padded k [] = refl
origins-padded Inner (x ∷ xs) = ap (λ v. x.origin ∷ v) (origins-padded Inner xs)
origins-padded LeftOuter (x ∷ xs) = ap (λ v. x.origin ∷ v) (origins-padded LeftOuter xs)

pub origins-join : (k : JoinKind) (a b : Source) (on : MaybeExpr) → origins (join k a b on) ≡ origins a ++ origins b
origins-join k a b on =
    origins-append (leaves a) (map (in_right_side k) (leaves b))
    ∙ ap (λ v. origins a ++ v) (origins-padded k (leaves b))

table-exposed : (t : TableDecl) (schema : Option (List ℕ)) → t.schema ≡ schema
    → backwards (first_name t.schema t.sql_name) (more_names t.schema t.sql_name []) ≡ exposed (a_table t)
table-exposed t None e =
    ap (λ (s : Option (List ℕ)). backwards (first_name s t.sql_name) (more_names s t.sql_name [])) e
    ∙ ap (λ (s : Option (List ℕ)). exposed (a_table (record t { schema = s }))) (sym e)
table-exposed t (Some s) e =
    ap (λ (z : Option (List ℕ)). backwards (first_name z t.sql_name) (more_names z t.sql_name [])) e
    ∙ ap (λ (z : Option (List ℕ)). exposed (a_table (record t { schema = z }))) (sym e)

first-at : (os : List Origin) (n : ℕ) (o : Origin) (more : List Origin) → AreAt os n (o ∷ more) → slice_get os n ≡ Some o
first-at os n o more at =
    let z : n ≡ n + zero = omega arith in
    ap (slice_get os) z ∙ at zero o refl

unary-uses : (by : Unary) (ls : List Level) (n : ℕ) (a : g.Expression Bound)
    → u.uses_expression ls n (unary_tree by a) ≡ u.uses_expression ls n a
unary-uses Not ls n a = refl
unary-uses IsNull ls n a = refl
unary-uses IsNotNull ls n a = refl

module _ (ts : List TableDecl) (apart : any_two tables_clash ts ≡ false)
    (differ : list_any has_duplicate_column ts ≡ false) (os : List Origin) (d : Dialect) where
  level-of : (n : ℕ) (s : Source) → SourceHasText d s → AreAt os n (sources_source d s) → Each (IsKnown ts) (origins s)
      → AllPairs (IsLeafOf ts os) (origins s) (l.leaves_source n (source_tree d s))
  level-of n (of_table t only sample) h at k =
      ((table-exposed t t.schema refl, table-path t, first-at os n (a_table t) [] at, k.0), tt)
  level-of n (of_alias a t) h at k = ((refl, table-path t, first-at os n (an_alias a t) [] at, k.0), tt)
  level-of n (join kind a b on) h at k =
      let known : Each (IsKnown ts) (origins a ++ origins b) = subst (Each (IsKnown ts)) (origins-join kind a b on) k in
      let rest = sources_source d b ++ sources_maybe d on in
      let m = length (l.tables_source (source_tree d a)) in
      subst (λ v. AllPairs (IsLeafOf ts os) v (l.leaves_source n (source_tree d (join kind a b on))))
      (sym (origins-join kind a b on))
      (pairs_append (IsLeafOf ts os) (origins a) (l.leaves_source n (source_tree d a)) (origins b)
      (l.leaves_source (n + m) (source_tree d b))
      (level-of n a h.0 (at-front os n (sources_source d a) rest at) (each_front (IsKnown ts) (origins a) (origins b) known))
      (level-of (n + m) b h.1
      (at-front os (n + m) (sources_source d b) (sources_maybe d on)
      (at-back os n (sources_source d a) rest m (places.source-count d a h.0) at))
      (each_back (IsKnown ts) (origins a) (origins b) known)))

  level-from : (n : ℕ) (f : From) → FromHasText d f → AreAt os n (sources_from d f) → Each (IsKnown ts) (origins_of f)
      → AllPairs (IsLeafOf ts os) (origins_of f) (l.leaves_from n (from_tree d f))
  level-from n no_source h at k = tt
  level-from n (from s) h at k = level-of n s h at k

  sees-here : (v : View) (level : Level) → AllPairs (IsLeafOf ts os) v level → Sees ts os v (level ∷ [])
  sees-here v level p = (v, [], sym (append-nil v), p, inl refl)

  sees-wide : (form : Form) (f : From) (outer : View) (around : List Level) (level : Level)
      → AllPairs (IsLeafOf ts os) (origins_of f) level → Sees ts os outer around
      → Sees ts os (widest form f outer) (level ∷ around)
  sees-wide (unboxed lock) no_source outer around level p s = ([], [], refl, p, inl refl)
  sees-wide (unboxed lock) (from f) outer around level p s = (origins f, outer, refl, p, inr s)
  sees-wide (boxed e n) f outer around level p s = (origins_of f, [], sym (append-nil (origins_of f)), p, inl refl)

  -- ## Paths

  column-stands : (v : View) (ls : List Level) (n : ℕ) (o : Origin) (c : ColumnDecl) → Sees ts os v ls
      → Fine ts v (column o c) → Stand ts os (u.uses_expression ls n (column_path o.alias o.table c.sql_name)) ((o, c) ∷ [])
  column-stands v ls n o c s f =
      let r = path-sought ts apart os o c (columns-apart ts differ o.table f.1) f.2 v ls s f.0 in
      stand-same ts os _ (record { path = c.sql_name ∷ exposed o; levels = ls } ∷ []) ((o, c) ∷ [])
      (column-use o c.sql_name ls n)
      (use_at o c r.0 ∷ [], ap (λ m. m ∷ []) r.1, ((refl, refl, r.2), tt))

  two : (xs ys : List u.Use) (cs ds : List (Origin × ColumnDecl)) → Stand ts os xs cs → Stand ts os ys ds
      → Stand ts os (xs ++ ys) (cs ++ ds)
  two xs ys cs ds p q = stand-append ts os xs ys cs ds p q

  -- the one tree of an operand, two of them, and all those of a list
  one-uses : (ls : List Level) (n : ℕ) (e : Expr) → IsSingle e
      → Stand ts os (uses_trees ls n (trees d e)) (columns_expr d e)
      → Stand ts os (u.uses_expression ls n (lead (trees d e))) (columns_expr d e)
  one-uses ls n e h st =
      stand-same ts os (u.uses_expression ls n (lead (trees d e))) (uses_trees ls n (trees d e)) (columns_expr d e)
      (lone d ls n e h) st

  pair-uses : (ls : List Level) (n m : ℕ) (a b : Expr) → IsSingle a → IsSingle b
      → Stand ts os (uses_trees ls n (trees d a)) (columns_expr d a)
      → Stand ts os (uses_trees ls (n + m) (trees d b)) (columns_expr d b)
      → Stand ts os (u.uses_expression ls n (lead (trees d a)) ++ u.uses_expression ls (n + m) (lead (trees d b)))
      (columns_expr d a ++ columns_expr d b)
  pair-uses ls n m a b g h p q =
      two (u.uses_expression ls n (lead (trees d a))) (u.uses_expression ls (n + m) (lead (trees d b))) (columns_expr d a)
      (columns_expr d b) (one-uses ls n a g p) (one-uses ls (n + m) b h q)

  list-uses : (ls : List Level) (n : ℕ) (e : Expr) → Stand ts os (uses_trees ls n (trees d e)) (columns_expr d e)
      → Stand ts os (u.uses_expressions ls n (expressions_of (trees d e))) (columns_expr d e)
  list-uses ls n e st =
      stand-same ts os (u.uses_expressions ls n (expressions_of (trees d e))) (uses_trees ls n (trees d e)) (columns_expr d e)
      (expressions-trees ls n (trees d e)) st

  mutual
    expr-uses : (v : View) (ls : List Level) (n : ℕ) (e : Expr) → ExprHasText d e → Sees ts os v ls
        → AreAt os n (sources_expr d e) → Each (Fine ts v) (nodes e) → Each (FinePart ts) (in_expr v e)
        → Stand ts os (uses_trees ls n (trees d e)) (columns_expr d e)
    expr-uses v ls n (column o c) t s at f p =
        stand-same ts os _ _ ((o, c) ∷ []) (one-tree ls n (column_path o.alias o.table c.sql_name))
        (column-stands v ls n o c s f.0)
    expr-uses v ls n (value ty x) t s at f p = stand-none ts os
    expr-uses v ls n (list es) t s at f p = exprs-uses v ls n es t s at f.1 p
    expr-uses v ls n count_star t s at f p = stand-none ts os
    expr-uses v ls n (nullable e) t s at f p = expr-uses v ls n e t s at f.1 p
    expr-uses v ls n (unary by e) t s at f p =
        stand-same ts os _ _ (columns_expr d e)
        (one-tree ls n (unary_tree by (lead (trees d e))) ∙ unary-uses by ls n (lead (trees d e)))
        (one-uses ls n e t.0 (expr-uses v ls n e t.1 s at f.1 p))
    expr-uses v ls n (count e) t s at f p =
        stand-same ts os _ _ (columns_expr d e) (one-tree ls n (g.Count (lead (trees d e))))
        (one-uses ls n e t.0 (expr-uses v ls n e t.1 s at f.1 p))
    expr-uses v ls n (compared by a b) t s at f p =
        stand-same ts os _ _ (columns_expr d a ++ columns_expr d b)
        (one-tree ls n (g.Compared (comparison_of by) (lead (trees d a)) (lead (trees d b))))
        (pair-uses ls n (length (l.tables_expression (lead (trees d a)))) a b t.0.0 t.1.0
        (expr-uses v ls n a t.0.1 s (at-front os n (sources_expr d a) (sources_expr d b) at)
        (each_front (Fine ts v) (nodes a) (nodes b) f.1) (each_front (FinePart ts) (in_expr v a) (in_expr v b) p))
        (expr-uses v ls (n + length (l.tables_expression (lead (trees d a)))) b t.1.1 s
        (at-back os n (sources_expr d a) (sources_expr d b) (length (l.tables_expression (lead (trees d a))))
        (places.operand-count d a t.0) at)
        (each_back (Fine ts v) (nodes a) (nodes b) f.1) (each_back (FinePart ts) (in_expr v a) (in_expr v b) p)))
    expr-uses v ls n (joined by a b) t s at f p =
        stand-same ts os _ _ (columns_expr d a ++ columns_expr d b)
        (one-tree ls n (g.Connected (logic_of by) (lead (trees d a)) (lead (trees d b))))
        (pair-uses ls n (length (l.tables_expression (lead (trees d a)))) a b t.0.0 t.1.0
        (expr-uses v ls n a t.0.1 s (at-front os n (sources_expr d a) (sources_expr d b) at)
        (each_front (Fine ts v) (nodes a) (nodes b) f.1) (each_front (FinePart ts) (in_expr v a) (in_expr v b) p))
        (expr-uses v ls (n + length (l.tables_expression (lead (trees d a)))) b t.1.1 s
        (at-back os n (sources_expr d a) (sources_expr d b) (length (l.tables_expression (lead (trees d a))))
        (places.operand-count d a t.0) at)
        (each_back (Fine ts v) (nodes a) (nodes b) f.1) (each_back (FinePart ts) (in_expr v a) (in_expr v b) p)))
    expr-uses v ls n (exists q) t s at f p =
        stand-same ts os _ _ (columns_in d q) (one-tree ls n (g.Exists (filled d q))) (query-uses v ls n q t s at p)
    expr-uses v ls n (single q) t s at f p =
        stand-same ts os _ _ (columns_in d q) (one-tree ls n (g.SingleValue (filled d q))) (query-uses v ls n q t s at p)
    expr-uses v ls n (among_values k e ty vs) t s at f p =
        stand-same ts os _ _ (kept (array d) vs (columns_expr d e))
        (one-tree ls n (among_as (array d) k (lead (trees d e)) (ManyValues ty vs) (map (OneValue ty) vs)))
        (among-stands ts os ls n (array d) k (lead (trees d e)) (ManyValues ty vs) ty vs (sources_expr d e) (columns_expr d e)
        at (λ a. one-uses ls n e t.0 (expr-uses v ls n e t.1 s a f.1 p)))
    expr-uses v ls n (among_rows k e q) t s at f p =
        let m = length (l.tables_expression (lead (trees d e))) in
        stand-same ts os _ _ (columns_expr d e ++ columns_in d q)
        (one-tree ls n (g.InQuery k (lead (trees d e)) (filled d q)))
        (two (u.uses_expression ls n (lead (trees d e))) (u.uses_query ls (n + m) (filled d q)) (columns_expr d e)
        (columns_in d q)
        (one-uses ls n e t.0.0 (expr-uses v ls n e t.0.1 s (at-front os n (sources_expr d e) (sources d q) at) f.1 (each_front (FinePart ts) (in_expr v e) (parts v q) p)))
        (query-uses v ls (n + m) q t.1 s (at-back os n (sources_expr d e) (sources d q) m (places.operand-count d e t.0) at)
        (each_back (FinePart ts) (in_expr v e) (parts v q) p)))

    exprs-uses : (v : View) (ls : List Level) (n : ℕ) (es : Exprs) → ExprsHaveText d es → Sees ts os v ls
        → AreAt os n (sources_exprs d es) → Each (Fine ts v) (nodes_of es) → Each (FinePart ts) (in_exprs v es)
        → Stand ts os (uses_trees ls n (trees_in d es)) (columns_exprs d es)
    exprs-uses v ls n no_exprs t s at f p = stand-none ts os
    exprs-uses v ls n (more_exprs e es) t s at f p =
        let m = length (in_trees (trees d e)) in
        stand-same ts os _ _ (columns_expr d e ++ columns_exprs d es) (trees-append ls n (trees d e) (trees_in d es))
        (two (uses_trees ls n (trees d e)) (uses_trees ls (n + m) (trees_in d es)) (columns_expr d e) (columns_exprs d es)
        (expr-uses v ls n e t.0 s (at-front os n (sources_expr d e) (sources_exprs d es) at)
        (each_front (Fine ts v) (nodes e) (nodes_of es) f) (each_front (FinePart ts) (in_expr v e) (in_exprs v es) p))
        (exprs-uses v ls (n + m) es t.1 s
        (at-back os n (sources_expr d e) (sources_exprs d es) m (places.expr-count d e t.0) at)
        (each_back (Fine ts v) (nodes e) (nodes_of es) f) (each_back (FinePart ts) (in_expr v e) (in_exprs v es) p)))

    items-uses : (v : View) (ls : List Level) (n : ℕ) (is : Items) → ItemsHaveText d is → Sees ts os v ls
        → AreAt os n (sources_items d is) → Each (FineClause ts) (item_clauses v is) → Each (FinePart ts) (in_items v is)
        → Stand ts os (uses_item_trees ls n (item_trees d is)) (columns_items d is)
    items-uses v ls n no_items t s at f p = stand-none ts os
    items-uses v ls n (more_items e by is) t s at f p =
        let m = length (l.tables_expression (lead (trees d e))) in
        two (u.uses_expression ls n (lead (trees d e))) (uses_item_trees ls (n + m) (item_trees d is)) (columns_expr d e)
        (columns_items d is)
        (one-uses ls n e t.0.0 (expr-uses v ls n e t.0.1 s (at-front os n (sources_expr d e) (sources_items d is) at) f.0 (each_front (FinePart ts) (in_expr v e) (in_items v is) p)))
        (items-uses v ls (n + m) is t.1 s
        (at-back os n (sources_expr d e) (sources_items d is) m (places.operand-count d e t.0) at) f.1
        (each_back (FinePart ts) (in_expr v e) (in_items v is) p))

    maybe-uses : (place : Place) (v : View) (ls : List Level) (n : ℕ) (e : MaybeExpr) → MaybeHasText d e → Sees ts os v ls
        → AreAt os n (sources_maybe d e) → Each (FineClause ts) (maybe_clause place v e)
        → Each (FinePart ts) (in_maybe v e)
        → Stand ts os (u.uses_maybe ls n (maybe_tree d e)) (columns_maybe d e)
    maybe-uses place v ls n no_expr t s at f p = stand-none ts os
    maybe-uses place v ls n (an_expr e) t s at f p = one-uses ls n e t.0 (expr-uses v ls n e t.1 s at f.0 p)

    on-uses : (v : View) (ls : List Level) (n : ℕ) (e : MaybeExpr) → OnHasText d e → Sees ts os v ls
        → AreAt os n (sources_maybe d e) → Each (FineClause ts) (maybe_clause in_on v e)
        → Each (FinePart ts) (in_maybe v e)
        → Stand ts os (u.uses_expression ls n (on_tree d e)) (columns_maybe d e)
    on-uses v ls n no_expr t s at f p = stand-none ts os
    on-uses v ls n (an_expr e) t s at f p = one-uses ls n e t.0 (expr-uses v ls n e t.1 s at f.0 p)

    group-uses : (v : View) (ls : List Level) (n : ℕ) (e : MaybeExpr) → GroupHasText d e → Sees ts os v ls
        → AreAt os n (sources_maybe d e) → Each (FineClause ts) (maybe_clause in_group_by v e)
        → Each (FinePart ts) (in_maybe v e)
        → Stand ts os (u.uses_group ls n (group_tree d e)) (columns_maybe d e)
    group-uses v ls n no_expr t s at f p = stand-none ts os
    group-uses v ls n (an_expr e) t s at f p = list-uses ls n e (expr-uses v ls n e t.1 s at f.0 p)

    distinct-uses : (v : View) (ls : List Level) (n : ℕ) (w : Distinct) → DistinctHasText d w → Sees ts os v ls
        → AreAt os n (sources_distinct d w) → Each (FineClause ts) (distinct_clause v w)
        → Each (FinePart ts) (in_distinct v w)
        → Stand ts os (u.uses_distinct ls n (distinct_tree d w)) (columns_distinct d w)
    distinct-uses v ls n every t s at f p = stand-none ts os
    distinct-uses v ls n distinct t s at f p = stand-none ts os
    distinct-uses v ls n (distinct_on e) t s at f p = list-uses ls n e (expr-uses v ls n e t.2 s at f.0 p)

    order-uses : (v : View) (ls : List Level) (n : ℕ) (o : Order) → OrderHasText d o → Sees ts os v ls
        → AreAt os n (sources_order d o) → Each (FineClause ts) (order_clauses v o) → Each (FinePart ts) (in_order v o)
        → Stand ts os (u.uses_order ls n (order_tree d o)) (columns_order d o)
    order-uses v ls n no_order t s at f p = stand-none ts os
    order-uses v ls n (order_by is) t s at f p =
        stand-same ts os _ _ (columns_items d is) (items-trees ls n (item_trees d is)) (items-uses v ls n is t.1 s at f p)

    source-uses : (n : ℕ) (s : Source) → SourceHasText d s → AreAt os n (sources_source d s)
        → Each (IsKnown ts) (origins s) → Each (FineClause ts) (ons s) → Each (FinePart ts) (in_source s)
        → Stand ts os (u.uses_source n (source_tree d s)) (columns_source d s)
    source-uses n (of_table t only sample) h at k f p = stand-none ts os
    source-uses n (of_alias a t) h at k f p = stand-none ts os
    source-uses n (join kind a b on) h at k f p =
        let known : Each (IsKnown ts) (origins a ++ origins b) = subst (Each (IsKnown ts)) (origins-join kind a b on) k in
        let v : View = origins a ++ origins b in
        let rest = sources_source d b ++ sources_maybe d on in
        let m = length (l.tables_source (source_tree d a)) in
        let m2 = length (l.tables_source (source_tree d b)) in
        let level = l.leaves_source n (source_tree d a) ++ l.leaves_source (n + m) (source_tree d b) in
        let at-b : AreAt os (n + m) rest = at-back os n (sources_source d a) rest m (places.source-count d a h.0) at in
        let seen : AllPairs (IsLeafOf ts os) v level =
        pairs_append (IsLeafOf ts os) (origins a) (l.leaves_source n (source_tree d a)) (origins b)
        (l.leaves_source (n + m) (source_tree d b))
        (level-of n a h.0 (at-front os n (sources_source d a) rest at) (each_front (IsKnown ts) (origins a) (origins b) known))
        (level-of (n + m) b h.1 (at-front os (n + m) (sources_source d b) (sources_maybe d on) at-b)
        (each_back (IsKnown ts) (origins a) (origins b) known)) in
        let f1 : Each (FineClause ts) (ons b ++ maybe_clause in_on v on) =
        each_back (FineClause ts) (ons a) (ons b ++ maybe_clause in_on v on) f in
        let p1 : Each (FinePart ts) (in_source b ++ in_maybe v on) =
        each_back (FinePart ts) (in_source a) (in_source b ++ in_maybe v on) p in
        two (u.uses_source n (source_tree d a))
        (u.uses_source (n + m) (source_tree d b) ++ u.uses_expression (level ∷ []) (n + m + m2) (on_tree d on))
        (columns_source d a) (columns_source d b ++ columns_maybe d on)
        (source-uses n a h.0 (at-front os n (sources_source d a) rest at)
        (each_front (IsKnown ts) (origins a) (origins b) known)
        (each_front (FineClause ts) (ons a) (ons b ++ maybe_clause in_on v on) f)
        (each_front (FinePart ts) (in_source a) (in_source b ++ in_maybe v on) p))
        (two (u.uses_source (n + m) (source_tree d b)) (u.uses_expression (level ∷ []) (n + m + m2) (on_tree d on))
        (columns_source d b) (columns_maybe d on)
        (source-uses (n + m) b h.1 (at-front os (n + m) (sources_source d b) (sources_maybe d on) at-b)
        (each_back (IsKnown ts) (origins a) (origins b) known)
        (each_front (FineClause ts) (ons b) (maybe_clause in_on v on) f1)
        (each_front (FinePart ts) (in_source b) (in_maybe v on) p1))
        (on-uses v (level ∷ []) (n + m + m2) on h.2 (sees-here v level seen)
        (at-back os (n + m) (sources_source d b) (sources_maybe d on) m2 (places.source-count d b h.1) at-b)
        (each_back (FineClause ts) (ons b) (maybe_clause in_on v on) f1)
        (each_back (FinePart ts) (in_source b) (in_maybe v on) p1)))

    from-uses : (n : ℕ) (f : From) → FromHasText d f → AreAt os n (sources_from d f) → Each (IsKnown ts) (origins_of f)
        → Each (FineClause ts) (ons_of f) → Each (FinePart ts) (in_from f)
        → Stand ts os (u.uses_from n (from_tree d f)) (columns_from d f)
    from-uses n no_source h at k f p = stand-none ts os
    from-uses n (from s) h at k f p = source-uses n s h at k f p

    pub query-uses : (outer : View) (around : List Level) (n : ℕ) (q : Statement) → HasText d q → Sees ts os outer around
        → AreAt os n (sources d q) → Each (FinePart ts) (parts outer q)
        → Stand ts os (u.uses_query around n (filled d q)) (columns_in d q)
    query-uses outer around n (select default e f w wh o rows gr h form marks) t s at p =
        let v : View = origins_of f in
        let wide : View = widest form f outer in
        let s6 = sources_maybe d h ++ sources_order d o in
        let s5 = sources_maybe d gr ++ s6 in
        let s4 = sources_maybe d wh ++ s5 in
        let s3 = sources_from d f ++ s4 in
        let s2 = sources_expr d e ++ s3 in
        let m0 = length (l.tables_distinct (distinct_tree d w)) in
        let m1 = length (l.tables_expressions (expressions_of (trees d e))) in
        let m2 = length (l.tables_from (from_tree d f)) in
        let m3 = length (l.tables_maybe (maybe_tree d wh)) in
        let m4 = length (l.tables_group (group_tree d gr)) in
        let m5 = length (l.tables_maybe (maybe_tree d h)) in
        let n1 = n + m0 in
        let n2 = n1 + m1 in
        let n3 = n2 + m2 in
        let n4 = n3 + m3 in
        let n5 = n4 + m4 in
        let n6 = n5 + m5 in
        let a1 : AreAt os n1 s2 = at-back os n (sources_distinct d w) s2 m0 (places.distinct-count d w t.0) at in
        let a2 : AreAt os n2 s3 = at-back os n1 (sources_expr d e) s3 m1 (places.selection-count d e t.1.1) a1 in
        let a3 : AreAt os n3 s4 = at-back os n2 (sources_from d f) s4 m2 (places.from-count d f t.2) a2 in
        let a4 : AreAt os n4 s5 = at-back os n3 (sources_maybe d wh) s5 m3 (places.maybe-count d wh t.3) a3 in
        let a5 : AreAt os n5 s6 = at-back os n4 (sources_maybe d gr) s6 m4 (places.group-count d gr t.4) a4 in
        let a6 : AreAt os n6 (sources_order d o) =
        at-back os n5 (sources_maybe d h) (sources_order d o) m5 (places.maybe-count d h t.5) a5 in
        let c5 = maybe_clause in_having v h ++ order_clauses v o in
        let c4 = maybe_clause in_group_by v gr ++ c5 in
        let c3 = maybe_clause in_where wide wh ++ c4 in
        let c2 = ons_of f ++ c3 in
        let c1 : List Clause = record { place = in_selection; view = v; expr = e } ∷ c2 in
        let f1 : Each (FineClause ts) c1 = each_back (FineClause ts) (distinct_clause v w) c1 p.0.0 in
        let f2 : Each (FineClause ts) c2 = f1.1 in
        let f3 : Each (FineClause ts) c3 = each_back (FineClause ts) (ons_of f) c3 f2 in
        let f4 : Each (FineClause ts) c4 = each_back (FineClause ts) (maybe_clause in_where wide wh) c4 f3 in
        let f5 : Each (FineClause ts) c5 = each_back (FineClause ts) (maybe_clause in_group_by v gr) c5 f4 in
        let f6 : Each (FineClause ts) (order_clauses v o) =
        each_back (FineClause ts) (maybe_clause in_having v h) (order_clauses v o) f5 in
        let q5 = in_maybe v h ++ in_order v o in
        let q4 = in_maybe v gr ++ q5 in
        let q3 = in_maybe wide wh ++ q4 in
        let q2 = in_from f ++ q3 in
        let q1 = in_expr v e ++ q2 in
        let p1 : Each (FinePart ts) q1 = each_back (FinePart ts) (in_distinct v w) q1 p.1 in
        let p2 : Each (FinePart ts) q2 = each_back (FinePart ts) (in_expr v e) q2 p1 in
        let p3 : Each (FinePart ts) q3 = each_back (FinePart ts) (in_from f) q3 p2 in
        let p4 : Each (FinePart ts) q4 = each_back (FinePart ts) (in_maybe wide wh) q4 p3 in
        let p5 : Each (FinePart ts) q5 = each_back (FinePart ts) (in_maybe v gr) q5 p4 in
        let p6 : Each (FinePart ts) (in_order v o) = each_back (FinePart ts) (in_maybe v h) (in_order v o) p5 in
        let level = l.leaves_from n2 (from_tree d f) in
        let here = level ∷ [] in
        let seen : AllPairs (IsLeafOf ts os) v level =
        level-from n2 f t.2 (at-front os n2 (sources_from d f) s4 a2) p.0.1 in
        let near : Sees ts os v here = sees-here v level seen in
        let far : Sees ts os wide (level ∷ around) = sees-wide form f outer around level seen s in
        let x0 = u.uses_distinct here n (distinct_tree d w) in
        let x1 = u.uses_expressions here n1 (expressions_of (trees d e)) in
        let x2 = u.uses_from n2 (from_tree d f) in
        let x3 = u.uses_maybe (level ∷ around) n3 (maybe_tree d wh) in
        let x4 = u.uses_group here n4 (group_tree d gr) in
        let x5 = u.uses_maybe here n5 (maybe_tree d h) in
        let x6 = u.uses_order here n6 (order_tree d o) in
        let k5 = columns_maybe d h ++ columns_order d o in
        let k4 = columns_maybe d gr ++ k5 in
        let k3 = columns_maybe d wh ++ k4 in
        let k2 = columns_from d f ++ k3 in
        let k1 = columns_expr d e ++ k2 in
        two x0 (x1 ++ (x2 ++ (x3 ++ (x4 ++ (x5 ++ x6))))) (columns_distinct d w) k1
        (distinct-uses v here n w t.0 near (at-front os n (sources_distinct d w) s2 at)
        (each_front (FineClause ts) (distinct_clause v w) c1 p.0.0) (each_front (FinePart ts) (in_distinct v w) q1 p.1))
        (two x1 (x2 ++ (x3 ++ (x4 ++ (x5 ++ x6)))) (columns_expr d e) k2
        (list-uses here n1 e (expr-uses v here n1 e t.1.1 near (at-front os n1 (sources_expr d e) s3 a1) f1.0 (each_front (FinePart ts) (in_expr v e) q2 p1)))
        (two x2 (x3 ++ (x4 ++ (x5 ++ x6))) (columns_from d f) k3
        (from-uses n2 f t.2 (at-front os n2 (sources_from d f) s4 a2) p.0.1
        (each_front (FineClause ts) (ons_of f) c3 f2) (each_front (FinePart ts) (in_from f) q3 p2))
        (two x3 (x4 ++ (x5 ++ x6)) (columns_maybe d wh) k4
        (maybe-uses in_where wide (level ∷ around) n3 wh t.3 far (at-front os n3 (sources_maybe d wh) s5 a3)
        (each_front (FineClause ts) (maybe_clause in_where wide wh) c4 f3)
        (each_front (FinePart ts) (in_maybe wide wh) q4 p3))
        (two x4 (x5 ++ x6) (columns_maybe d gr) k5
        (group-uses v here n4 gr t.4 near (at-front os n4 (sources_maybe d gr) s6 a4)
        (each_front (FineClause ts) (maybe_clause in_group_by v gr) c5 f4)
        (each_front (FinePart ts) (in_maybe v gr) q5 p4))
        (two x5 x6 (columns_maybe d h) (columns_order d o)
        (maybe-uses in_having v here n5 h t.5 near (at-front os n5 (sources_maybe d h) (sources_order d o) a5)
        (each_front (FineClause ts) (maybe_clause in_having v h) (order_clauses v o) f5)
        (each_front (FinePart ts) (in_maybe v h) (in_order v o) p5))
        (order-uses v here n6 o t.6 near a6 f6 p6))))))
    query-uses outer around n (combination by all a b o rows) t s at p =
        let m = length (l.tables_query (filled d a)) in
        two (u.uses_query around n (filled d a)) (u.uses_query around (n + m) (filled d b)) (columns_in d a) (columns_in d b)
        (query-uses outer around n a t.0 s (at-front os n (sources d a) (sources d b) at)
        (each_front (FinePart ts) (parts outer a) (parts outer b) p.1))
        (query-uses outer around (n + m) b t.2 s
        (at-back os n (sources d a) (sources d b) m (places.query-count d a t.0) at)
        (each_back (FinePart ts) (parts outer a) (parts outer b) p.1))
