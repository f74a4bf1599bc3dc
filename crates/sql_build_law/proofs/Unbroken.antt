-- A statement that names only what a schema declares does not break UnknownName.
use Rattle.std.proofs.Common.{[], ◌++◌, true, inl, inr}
use Rattle.sql_schema.specs.Declarations.{Declarations}
use Rattle.sql_dialect.specs.declared.backend.Dialect.{Dialect}
use Rattle.sql_node.specs.Tree.{Expr, column, value, list, count_star, nullable, unary, count, compared, joined, exists, single, among_values, among_rows, Exprs, no_exprs, more_exprs, Items, no_items, more_items, MaybeExpr, no_expr, an_expr, Source, of_table, of_alias, join, From, no_source, from, Distinct, every, distinct, distinct_on, Order, no_order, order_by, Statement, select, combination}
use Rattle.sql_origin.specs.Leaves.{leaves}
use Rattle.sql_rules.specs.Lists.{Each}
use Rattle.sql_rules.specs.Rules.{IsUnknownColumn, PartBreaks, Broken}
use Rattle.sql_rules.specs.Scope.{View, origins, origins_of, widest, Select, Part, a_select, a_combination, parts, in_expr, in_exprs, in_items, in_maybe, in_source, in_from, in_distinct, in_order, Place, in_on, in_where, in_group_by, in_having, Clause, clauses, maybe_clause, ons, ons_of, distinct_clause, item_clauses, order_clauses, own, nodes, nodes_of}
use Rattle.sql_rules.specs.declared.rule.Rule.TheVariants as R
use Rattle.sql_build_law.proofs.Known.{KnownExpr, KnownExprs, KnownItems, KnownMaybe, KnownSource, KnownFrom, KnownDistinct, KnownOrder, Known, KnownOrigin, KnownLeaf}
use Rattle.sql_build_law.proofs.Lists.{none_of, each_append, each_weaken, each_map}
use Rattle.sql_build_law.proofs.Sources.{leaves-known}

module _ (schema : Declarations) where
  -- ## Leaves

  own-known : (f : From) → KnownFrom schema f → Each (KnownOrigin schema) (origins_of f)
  own-known no_source h = tt
  own-known (from s) h =
      each_map (KnownLeaf schema) (KnownOrigin schema) (λ l. l.origin) (λ l k. k) (leaves s) (leaves-known schema s h)

  -- ## Nodes

  abbrev IsDeclared : Expr → Type 0
  IsDeclared e = ¬ IsUnknownColumn schema e

  none : ¬ ⊥
  none h = h

  mutual
    nodes-declared : (e : Expr) → KnownExpr schema e → Each IsDeclared (nodes e)
    nodes-declared (column o c) h = (λ unknown. unknown h, tt)
    nodes-declared (value t x) h = (none, tt)
    nodes-declared (list es) h = (none, nodes_of-declared es h)
    nodes-declared count_star h = (none, tt)
    nodes-declared (nullable e) h = (none, nodes-declared e h)
    nodes-declared (unary n e) h = (none, nodes-declared e h)
    nodes-declared (count e) h = (none, nodes-declared e h)
    nodes-declared (compared by a b) h =
        (none, each_append IsDeclared (nodes a) (nodes b) (nodes-declared a h.0) (nodes-declared b h.1))
    nodes-declared (joined by a b) h =
        (none, each_append IsDeclared (nodes a) (nodes b) (nodes-declared a h.0) (nodes-declared b h.1))
    nodes-declared (exists q) h = (none, tt)
    nodes-declared (single q) h = (none, tt)
    nodes-declared (among_values n e t xs) h = (none, nodes-declared e h)
    nodes-declared (among_rows n e q) h = (none, nodes-declared e h.0)

    nodes_of-declared : (es : Exprs) → KnownExprs schema es → Each IsDeclared (nodes_of es)
    nodes_of-declared no_exprs h = tt
    nodes_of-declared (more_exprs e es) h =
        each_append IsDeclared (nodes e) (nodes_of es) (nodes-declared e h.0) (nodes_of-declared es h.1)

  -- ## Clauses

  abbrev KnownClause : Clause → Type 0
  KnownClause c = KnownExpr schema c.expr

  maybe-known : (p : Place) (v : View) (e : MaybeExpr) → KnownMaybe schema e → Each KnownClause (maybe_clause p v e)
  maybe-known p v no_expr h = tt
  maybe-known p v (an_expr e) h = (h, tt)

  ons-known : (s : Source) → KnownSource schema s → Each KnownClause (ons s)
  ons-known (of_table t only sample) h = tt
  ons-known (of_alias a t) h = tt
  ons-known (join k l r on) h =
      each_append KnownClause (ons l) _ (ons-known l h.0)
      (each_append KnownClause (ons r) _ (ons-known r h.1) (maybe-known in_on (origins l ++ origins r) on h.2))

  ons_of-known : (f : From) → KnownFrom schema f → Each KnownClause (ons_of f)
  ons_of-known no_source h = tt
  ons_of-known (from s) h = ons-known s h

  distinct-known : (v : View) (u : Distinct) → KnownDistinct schema u → Each KnownClause (distinct_clause v u)
  distinct-known v every h = tt
  distinct-known v distinct h = tt
  distinct-known v (distinct_on e) h = (h, tt)

  items-known : (v : View) (is : Items) → KnownItems schema is → Each KnownClause (item_clauses v is)
  items-known v no_items h = tt
  items-known v (more_items e by is) h = (h.0, items-known v is h.1)

  order-known : (v : View) (o : Order) → KnownOrder schema o → Each KnownClause (order_clauses v o)
  order-known v no_order h = tt
  order-known v (order_by is) h = items-known v is h

  abbrev KnownSelect : Select → Type 0
  KnownSelect s =
      Known schema
      (select true s.selection s.source s.distinctness s.where_by s.order s.rows s.group_by s.having_by s.form s.marks)

  clauses-known : (outer : View) (s : Select) → KnownSelect s → Each KnownClause (clauses outer s)
  clauses-known outer s h =
      let v : View = own s in
      let wide : View = widest s.form s.source outer in
      each_append KnownClause (distinct_clause v s.distinctness) _ (distinct-known v s.distinctness h.2) (
        h.0,
        each_append KnownClause (ons_of s.source) _ (ons_of-known s.source h.1)
            (each_append KnownClause (maybe_clause in_where wide s.where_by) _
            (maybe-known in_where wide s.where_by h.3)
            (each_append KnownClause (maybe_clause in_group_by v s.group_by) _
            (maybe-known in_group_by v s.group_by h.5)
            (each_append KnownClause (maybe_clause in_having v s.having_by) _
            (maybe-known in_having v s.having_by h.6) (order-known v s.order h.4)))),
      )

  -- ## Statements inside a statement

  abbrev KnownPart : Part → Type 0
  KnownPart (a_select outer s) = KnownSelect s
  KnownPart (a_combination c) = Unit {0}

  mutual
    expr-parts : (v : View) (e : Expr) → KnownExpr schema e → Each KnownPart (in_expr v e)
    expr-parts v (column o c) h = tt
    expr-parts v (value t x) h = tt
    expr-parts v (list es) h = exprs-parts v es h
    expr-parts v count_star h = tt
    expr-parts v (nullable e) h = expr-parts v e h
    expr-parts v (unary n e) h = expr-parts v e h
    expr-parts v (count e) h = expr-parts v e h
    expr-parts v (compared by a b) h =
        each_append KnownPart (in_expr v a) (in_expr v b) (expr-parts v a h.0) (expr-parts v b h.1)
    expr-parts v (joined by a b) h =
        each_append KnownPart (in_expr v a) (in_expr v b) (expr-parts v a h.0) (expr-parts v b h.1)
    expr-parts v (exists q) h = statement-parts v q h
    expr-parts v (single q) h = statement-parts v q h
    expr-parts v (among_values n e t xs) h = expr-parts v e h
    expr-parts v (among_rows n e q) h =
        each_append KnownPart (in_expr v e) (parts v q) (expr-parts v e h.0) (statement-parts v q h.1)

    exprs-parts : (v : View) (es : Exprs) → KnownExprs schema es → Each KnownPart (in_exprs v es)
    exprs-parts v no_exprs h = tt
    exprs-parts v (more_exprs e es) h =
        each_append KnownPart (in_expr v e) (in_exprs v es) (expr-parts v e h.0) (exprs-parts v es h.1)

    items-parts : (v : View) (is : Items) → KnownItems schema is → Each KnownPart (in_items v is)
    items-parts v no_items h = tt
    items-parts v (more_items e by is) h =
        each_append KnownPart (in_expr v e) (in_items v is) (expr-parts v e h.0) (items-parts v is h.1)

    maybe-parts : (v : View) (e : MaybeExpr) → KnownMaybe schema e → Each KnownPart (in_maybe v e)
    maybe-parts v no_expr h = tt
    maybe-parts v (an_expr e) h = expr-parts v e h

    source-parts : (s : Source) → KnownSource schema s → Each KnownPart (in_source s)
    source-parts (of_table t only sample) h = tt
    source-parts (of_alias a t) h = tt
    source-parts (join k l r on) h =
        each_append KnownPart (in_source l) _ (source-parts l h.0)
        (each_append KnownPart (in_source r) _ (source-parts r h.1) (maybe-parts (origins l ++ origins r) on h.2))

    from-parts : (f : From) → KnownFrom schema f → Each KnownPart (in_from f)
    from-parts no_source h = tt
    from-parts (from s) h = source-parts s h

    distinct-parts : (v : View) (u : Distinct) → KnownDistinct schema u → Each KnownPart (in_distinct v u)
    distinct-parts v every h = tt
    distinct-parts v distinct h = tt
    distinct-parts v (distinct_on e) h = expr-parts v e h

    order-parts : (v : View) (o : Order) → KnownOrder schema o → Each KnownPart (in_order v o)
    order-parts v no_order h = tt
    order-parts v (order_by is) h = items-parts v is h

    statement-parts : (outer : View) (s : Statement) → Known schema s → Each KnownPart (parts outer s)
    statement-parts outer (select default e f u w o rows g b form marks) h =
        let v : View = origins_of f in
        let wide : View = widest form f outer in
        let q5 = in_maybe v b ++ in_order v o in
        let q4 = in_maybe v g ++ q5 in
        let q3 = in_maybe wide w ++ q4 in
        let q2 = in_from f ++ q3 in
        let q1 = in_expr v e ++ q2 in (
          h,
          each_append KnownPart (in_distinct v u) q1 (distinct-parts v u h.2)
              (each_append KnownPart (in_expr v e) q2 (expr-parts v e h.0)
              (each_append KnownPart (in_from f) q3 (from-parts f h.1)
              (each_append KnownPart (in_maybe wide w) q4 (maybe-parts wide w h.3)
              (each_append KnownPart (in_maybe v g) q5 (maybe-parts v g h.5)
              (each_append KnownPart (in_maybe v b) (in_order v o) (maybe-parts v b h.6) (order-parts v o h.4)))))),
        )
    statement-parts outer (combination by all a b o rows) h =
        let both = each_append KnownPart (parts outer a) (parts outer b) in
        (tt, both (statement-parts outer a h.0) (statement-parts outer b h.1))

  -- ## The rule

  part-keeps : (d : Dialect) (p : Part) → KnownPart p → ¬ PartBreaks R.UnknownName schema d p
  part-keeps d (a_select outer s) h = elim [
    | inl unknown ↦ none_of _ (own s) (each_weaken _ _ (λ o k no. no k) (own s) (own-known s.source h.1)) unknown
    | inr unknown ↦ none_of _ (clauses outer s)
        (each_weaken _ _ (λ c k. none_of _ (nodes c.expr) (nodes-declared c.expr k)) (clauses outer s)
        (clauses-known outer s h)) unknown
  ]
  part-keeps d (a_combination c) h = none

  pub keeps-names : (d : Dialect) (s : Statement) → Known schema s → ¬ Broken R.UnknownName schema d s
  keeps-names d s h = none_of _ (parts [] s) (each_weaken _ _ (part-keeps d) (parts [] s) (statement-parts [] s h))
