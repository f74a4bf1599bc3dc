-- Rules that no clause's node breaks, and no order: their expressions, their sources.
use Rattle.std.proofs.Common.{List, Option, None, Some, inl, inr}
use Rattle.sql_leaf.specs.declared.position.PositionalItem.{PositionalItem}
use Rattle.sql_flat_law.specs.Rose.{Roses}
use Rattle.sql_node.specs.Tree.{Expr, Source, of_table, of_alias, join, From, no_source, from, Order, no_order, order_by}
use Rattle.sql_rules.specs.Lists.{AnyOf}
use Rattle.sql_rules.specs.Scope.{AnyExpr, Clause, Place, Select, View, clauses, in_selection, in_distinct_on, in_on, in_where, in_group_by, in_having, in_order_by, nodes}
use Rattle.sql_rules.proofs.Loops.{any_each}
use Rattle.sql_flat.specs.declared.kind.Combining.{Combining}
use Rattle.sql_flat.specs.declared.kind.FlatKind.{FlatKind}
use Rattle.sql_flat.specs.declared.kind.Selecting.{Selecting}
use Rattle.sql_rules_check.specs.inside.Views.{Views}
use Rattle.sql_rules_check.proofs.Alternatives.{none-of}
use Rattle.sql_rules_check.proofs.Seen.{ClauseOut, OfExpr, OfFrom, OfOrder, OfPlace, OfPositions, OfSource}

abbrev pub NoExpr : View → FlatKind → Roses FlatKind → Type 0
NoExpr v k ts = ⊥

abbrev pub NoClause : Place → Roses FlatKind → Type 0
NoClause p ts = ⊥

abbrev pub Never : Roses FlatKind → Type 0
Never ts = ⊥

abbrev pub NoSelect : View → Views → Selecting → Roses FlatKind → Type 0
NoSelect v w s ts = ⊥

abbrev pub NoCombination : Combining → Roses FlatKind → Type 0
NoCombination c ts = ⊥

abbrev pub NoSource : FlatKind → Type 0
NoSource k = ⊥

module _ (X : View → FlatKind → Roses FlatKind → Type 0) (S : View → Views → Selecting → Roses FlatKind → Type 0)
    (C : Combining → Roses FlatKind → Type 0) (Z : FlatKind → Type 0) where
  pub no-order : (o : Order) → OfOrder X NoClause Never Never S C Z o → ⊥
  no-order no_order h = h
  no-order (order_by is) h = h

  no-place : (p : Place) (e : Expr) → OfPlace X NoClause Never Never S C Z p e → ⊥
  no-place in_selection e h = h
  no-place in_distinct_on e h = h
  no-place in_on e h = h
  no-place in_where e h = h
  no-place in_group_by e h = h
  no-place in_having e h = h
  no-place in_order_by e h = h

  pub no-positions : (o : Option (List PositionalItem)) → OfPositions X NoClause Never Never S C Z o → ⊥
  no-positions None h = h
  no-positions (Some ps) h = h

  pub to-any-expr : (P : View → Expr → Type 0)
      → ((v : View) (e : Expr) → OfExpr X NoClause Never Never S C Z v e → P v e)
      → (outer : View) (s : Select) → AnyOf (ClauseOut X NoClause Never Never S C Z) (clauses outer s)
      → AnyExpr P outer s
  to-any-expr P f outer s h =
      any_each (ClauseOut X NoClause Never Never S C Z) (λ c. AnyOf (P c.view) (nodes c.expr))
      to-clause (clauses outer s) h
    where
      to-clause : (c : Clause) → ClauseOut X NoClause Never Never S C Z c → AnyOf (P c.view) (nodes c.expr)
      to-clause c (inl p) = absurd (no-place c.place c.expr p)
      to-clause c (inr q) = any_each (OfExpr X NoClause Never Never S C Z c.view) (P c.view) (f c.view) (nodes c.expr) q

  pub of-any-expr : (P : View → Expr → Type 0)
      → ((v : View) (e : Expr) → P v e → OfExpr X NoClause Never Never S C Z v e)
      → (outer : View) (s : Select) → AnyExpr P outer s
      → AnyOf (ClauseOut X NoClause Never Never S C Z) (clauses outer s)
  of-any-expr P f outer s h =
      any_each (λ c. AnyOf (P c.view) (nodes c.expr)) (ClauseOut X NoClause Never Never S C Z)
      (λ c q. inr (any_each (P c.view) (OfExpr X NoClause Never Never S C Z c.view) (f c.view) (nodes c.expr) q))
      (clauses outer s) h

  -- none of the expressions
  pub no-any-expr : ((v : View) (e : Expr) → OfExpr X NoClause Never Never S C Z v e → ⊥) → (outer : View) (s : Select)
      → AnyOf (ClauseOut X NoClause Never Never S C Z) (clauses outer s) → ⊥
  no-any-expr f outer s h =
      none-of (ClauseOut X NoClause Never Never S C Z) none (clauses outer s) h
    where
      none : (c : Clause) → ClauseOut X NoClause Never Never S C Z c → ⊥
      none c (inl p) = no-place c.place c.expr p
      none c (inr q) = none-of (OfExpr X NoClause Never Never S C Z c.view) (f c.view) (nodes c.expr) q

-- none of the sources
module _ (X : View → FlatKind → Roses FlatKind → Type 0) (S : View → Views → Selecting → Roses FlatKind → Type 0)
    (C : Combining → Roses FlatKind → Type 0) where
  no-source : (f : Source) → OfSource X NoClause Never Never S C NoSource f → ⊥
  no-source (of_table t only sample) h = h
  no-source (of_alias a t) h = h
  no-source (join k l r on) (inl h) = h
  no-source (join k l r on) (inr (inl h)) = no-source l h
  no-source (join k l r on) (inr (inr h)) = no-source r h

  pub no-from : (f : From) → OfFrom X NoClause Never Never S C NoSource f → ⊥
  no-from no_source h = h
  no-from (from f) h = no-source f h
