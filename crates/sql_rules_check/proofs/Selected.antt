-- The selection among the clauses of a select statement.
use Rattle.std.proofs.Common.{List, ◌∷◌, ◌++◌, inl, inr}
use Rattle.sql_node.specs.Tree.{Expr, Items, no_items, more_items, MaybeExpr, no_expr, an_expr, Source, of_table, of_alias, join, From, no_source, from, Distinct, every, distinct, distinct_on, Order, no_order, order_by}
use Rattle.sql_rules.specs.Lists.{AnyOf}
use Rattle.sql_rules.specs.Scope.{View, Clause, Select, Place, in_selection, in_distinct_on, in_on, in_where, in_group_by, in_having, in_order_by, maybe_clause, ons, ons_of, distinct_clause, item_clauses, order_clauses, clauses, origins, own, widest}
use Rattle.sql_rules.proofs.Lists.{any_right}
use Rattle.sql_rules.proofs.Loops.{any_split}

abbrev at_selection : Place → Type 0 → Type 0
at_selection in_selection P = P
at_selection in_distinct_on P = ⊥
at_selection in_on P = ⊥
at_selection in_where P = ⊥
at_selection in_group_by P = ⊥
at_selection in_having P = ⊥
at_selection in_order_by P = ⊥

module _ (T : Expr → Type 0) where
  -- it is the selection, and T holds of it
  abbrev pub IsSelection : Clause → Type 0
  IsSelection c = at_selection c.place (T c.expr)

  no-distinct : (v : View) (u : Distinct) → AnyOf IsSelection (distinct_clause v u) → ⊥
  no-distinct v every h = h
  no-distinct v distinct h = h
  no-distinct v (distinct_on e) (inl h) = h
  no-distinct v (distinct_on e) (inr h) = h

  no-on : (v : View) (m : MaybeExpr) → AnyOf IsSelection (maybe_clause in_on v m) → ⊥
  no-on v no_expr h = h
  no-on v (an_expr e) (inl h) = h
  no-on v (an_expr e) (inr h) = h

  no-where : (v : View) (m : MaybeExpr) → AnyOf IsSelection (maybe_clause in_where v m) → ⊥
  no-where v no_expr h = h
  no-where v (an_expr e) (inl h) = h
  no-where v (an_expr e) (inr h) = h

  no-group : (v : View) (m : MaybeExpr) → AnyOf IsSelection (maybe_clause in_group_by v m) → ⊥
  no-group v no_expr h = h
  no-group v (an_expr e) (inl h) = h
  no-group v (an_expr e) (inr h) = h

  no-having : (v : View) (m : MaybeExpr) → AnyOf IsSelection (maybe_clause in_having v m) → ⊥
  no-having v no_expr h = h
  no-having v (an_expr e) (inl h) = h
  no-having v (an_expr e) (inr h) = h

  no-item : (v : View) (is : Items) → AnyOf IsSelection (item_clauses v is) → ⊥
  no-item v no_items h = h
  no-item v (more_items e by is) (inl h) = h
  no-item v (more_items e by is) (inr h) = no-item v is h

  no-order : (v : View) (o : Order) → AnyOf IsSelection (order_clauses v o) → ⊥
  no-order v no_order h = h
  no-order v (order_by is) h = no-item v is h

  -- of two lists of which neither has it
  neither : (cs ds : List Clause) → (AnyOf IsSelection cs → ⊥) → (AnyOf IsSelection ds → ⊥)
      → AnyOf IsSelection (cs ++ ds) → ⊥
  neither cs ds f g h = elim (any_split IsSelection cs ds h) [ inl p ↦ f p | inr q ↦ g q ]

  no-ons : (f : Source) → AnyOf IsSelection (ons f) → ⊥
  no-ons (of_table t only sample) h = h
  no-ons (of_alias a t) h = h
  no-ons (join k l r on) h =
      neither (ons l) (ons r ++ maybe_clause in_on (origins l ++ origins r) on) (no-ons l)
      (neither (ons r) (maybe_clause in_on (origins l ++ origins r) on) (no-ons r) (no-on (origins l ++ origins r) on))
      h

  no-ons-of : (f : From) → AnyOf IsSelection (ons_of f) → ⊥
  no-ons-of no_source h = h
  no-ons-of (from f) h = no-ons f h

  -- what is said of the selection among the clauses is said of the statement's selection
  pub of-selection : (outer : View) (s : Select) → AnyOf IsSelection (clauses outer s) → T s.selection
  of-selection outer s h =
      let v = own s in
      let w = widest s.form s.source outer in
      let having = maybe_clause in_having v s.having_by ++ order_clauses v s.order in
      let group = maybe_clause in_group_by v s.group_by ++ having in
      let after = maybe_clause in_where w s.where_by ++ group in
      elim (any_split IsSelection (distinct_clause v s.distinctness)
      (record { place = in_selection; view = v; expr = s.selection } ∷ (ons_of s.source ++ after))
      h) [
        | inl p ↦ absurd (no-distinct v s.distinctness p)
        | inr q ↦ elim q [
          | inl p ↦ p
          | inr r ↦ absurd
              (neither (ons_of s.source) after (no-ons-of s.source)
              (neither (maybe_clause in_where w s.where_by) group (no-where w s.where_by)
              (neither (maybe_clause in_group_by v s.group_by) having (no-group v s.group_by)
              (neither (maybe_clause in_having v s.having_by) (order_clauses v s.order) (no-having v s.having_by)
              (no-order v s.order)))) r)
        ]
      ]

-- the selection is one of the clauses
pub selection-any : (P : Clause → Type 0) (outer : View) (s : Select)
    → P (record { place = in_selection; view = own s; expr = s.selection }) → AnyOf P (clauses outer s)
selection-any P outer s p = any_right P (distinct_clause (own s) s.distinctness) _ (inl p)
