-- What is said of the columns in the selection and in DISTINCT ON, among the clauses of a select statement.
use Rattle.std.proofs.Common.{List, [], ◌∷◌, ◌++◌, inl, inr}
use Rattle.sql_node.specs.Tree.{Origin, Items, no_items, more_items, MaybeExpr, no_expr, an_expr, Source, of_table, of_alias, join, From, no_source, from, Distinct, every, distinct, distinct_on, Order, no_order, order_by}
use Rattle.sql_rules.specs.Lists.{AnyOf}
use Rattle.sql_rules.specs.Rules.{IsSelected, bare}
use Rattle.sql_rules.specs.Scope.{View, Clause, Select, in_selection, in_on, in_where, in_group_by, in_having, maybe_clause, ons, ons_of, distinct_clause, item_clauses, order_clauses, clauses, origins, own, widest}
use Rattle.sql_rules.proofs.Lists.{any_left, any_right}
use Rattle.sql_rules.proofs.Loops.{any_split}

abbrev pub distinct_bare : Distinct → View
distinct_bare every = []
distinct_bare distinct = []
distinct_bare (distinct_on e) = bare e

module _ (P : Origin → Type 0) where
  abbrev Among : Clause → Type 0
  Among c = IsSelected c.place × AnyOf P (bare c.expr)

  no-on : (v : View) (m : MaybeExpr) → AnyOf Among (maybe_clause in_on v m) → ⊥
  no-on v no_expr h = h
  no-on v (an_expr e) (inl h) = h.0
  no-on v (an_expr e) (inr h) = h

  no-where : (v : View) (m : MaybeExpr) → AnyOf Among (maybe_clause in_where v m) → ⊥
  no-where v no_expr h = h
  no-where v (an_expr e) (inl h) = h.0
  no-where v (an_expr e) (inr h) = h

  no-group : (v : View) (m : MaybeExpr) → AnyOf Among (maybe_clause in_group_by v m) → ⊥
  no-group v no_expr h = h
  no-group v (an_expr e) (inl h) = h.0
  no-group v (an_expr e) (inr h) = h

  no-having : (v : View) (m : MaybeExpr) → AnyOf Among (maybe_clause in_having v m) → ⊥
  no-having v no_expr h = h
  no-having v (an_expr e) (inl h) = h.0
  no-having v (an_expr e) (inr h) = h

  no-item : (v : View) (is : Items) → AnyOf Among (item_clauses v is) → ⊥
  no-item v no_items h = h
  no-item v (more_items e by is) (inl h) = h.0
  no-item v (more_items e by is) (inr h) = no-item v is h

  no-order : (v : View) (o : Order) → AnyOf Among (order_clauses v o) → ⊥
  no-order v no_order h = h
  no-order v (order_by is) h = no-item v is h

  neither : (cs ds : List Clause) → (AnyOf Among cs → ⊥) → (AnyOf Among ds → ⊥) → AnyOf Among (cs ++ ds) → ⊥
  neither cs ds f g h = elim (any_split Among cs ds h) [ inl p ↦ f p | inr q ↦ g q ]

  no-ons : (f : Source) → AnyOf Among (ons f) → ⊥
  no-ons (of_table t only sample) h = h
  no-ons (of_alias a t) h = h
  no-ons (join k l r on) h =
      neither (ons l) (ons r ++ maybe_clause in_on (origins l ++ origins r) on) (no-ons l)
      (neither (ons r) (maybe_clause in_on (origins l ++ origins r) on) (no-ons r) (no-on (origins l ++ origins r) on))
      h

  no-ons-of : (f : From) → AnyOf Among (ons_of f) → ⊥
  no-ons-of no_source h = h
  no-ons-of (from f) h = no-ons f h

  of-distinct : (v : View) (u : Distinct) → AnyOf Among (distinct_clause v u) → AnyOf P (distinct_bare u)
  of-distinct v every h = h
  of-distinct v distinct h = h
  of-distinct v (distinct_on e) (inl h) = h.1
  of-distinct v (distinct_on e) (inr h) = absurd h

  to-distinct : (v : View) (u : Distinct) → AnyOf P (distinct_bare u) → AnyOf Among (distinct_clause v u)
  to-distinct v every h = h
  to-distinct v distinct h = h
  to-distinct v (distinct_on e) h = inl (tt, h)

  pub to-selected : (outer : View) (s : Select) → AnyOf Among (clauses outer s)
      → AnyOf P (distinct_bare s.distinctness ++ bare s.selection)
  to-selected outer s h =
      let v = own s in
      let w = widest s.form s.source outer in
      let having = maybe_clause in_having v s.having_by ++ order_clauses v s.order in
      let group = maybe_clause in_group_by v s.group_by ++ having in
      let after = maybe_clause in_where w s.where_by ++ group in
      elim (any_split Among (distinct_clause v s.distinctness)
      (record { place = in_selection; view = v; expr = s.selection } ∷ (ons_of s.source ++ after))
      h) [
        | inl p ↦ any_left P (distinct_bare s.distinctness) (bare s.selection) (of-distinct v s.distinctness p)
        | inr q ↦ elim q [
          | inl p ↦ any_right P (distinct_bare s.distinctness) (bare s.selection) p.1
          | inr r ↦ absurd
              (neither (ons_of s.source) after (no-ons-of s.source)
              (neither (maybe_clause in_where w s.where_by) group (no-where w s.where_by)
              (neither (maybe_clause in_group_by v s.group_by) having (no-group v s.group_by)
              (neither (maybe_clause in_having v s.having_by) (order_clauses v s.order) (no-having v s.having_by)
              (no-order v s.order)))) r)
        ]
      ]

  pub of-selected : (outer : View) (s : Select) → AnyOf P (distinct_bare s.distinctness ++ bare s.selection)
      → AnyOf Among (clauses outer s)
  of-selected outer s h =
      let v = own s in
      elim (any_split P (distinct_bare s.distinctness) (bare s.selection) h) [
        | inl p ↦ any_left Among (distinct_clause v s.distinctness) _ (to-distinct v s.distinctness p)
        | inr q ↦ any_right Among (distinct_clause v s.distinctness) _ (inl (tt, q))
      ]
