-- EmptyList, by tests of nodes.
use Rattle.std.proofs.Common.{◌≡◌, ◌⊎◌, inl, inr, List, [], ◌∷◌, Bool, false, Option, None, Some, refl, sym, ap, ◌∙◌, subst, map}
use Rattle.std.specs.Bool.{Decides}
use Rattle.std.proofs.lemmas.Bool.{false≢true}
use Rattle.sql_schema.specs.Declarations.{Declarations}
use Rattle.sql_dialect.specs.declared.backend.Dialect.{Dialect}
use Rattle.sql_leaf.specs.declared.position.PositionalItem.{PositionalItem}
use Rattle.sql_flat_law.specs.Rose.{Roses}
use Rattle.sql_flat_law.specs.Folds.{folded_each}
use Rattle.sql_node.specs.Tree.{Expr, column, value, list, count_star, nullable, unary, count, compared, joined, exists, single, among_values, among_rows, Source, of_table, of_alias, join, From, no_source, from, Order, no_order, order_by, Statement}
use Rattle.sql_rules.specs.Lists.{AnyOf}
use Rattle.sql_rules.specs.Rules.{Broken, IsEmptyList, IsEmptyOrder, PartBreaks}
use Rattle.sql_rules.specs.Scope.{View, Part, a_select, a_combination, Place, in_selection, in_distinct_on, in_on, in_where, in_group_by, in_having, in_order_by, Clause, Select, clauses, nodes, flat, flat_items, parts}
use Rattle.sql_rules.specs.Types.{Given, element_types, given, type_of}
use Rattle.sql_rules.specs.declared.rule.Rule.TheVariants as rule
use Rattle.sql_rules.proofs.Loops.{any_each}
use Rattle.sql_rules.proofs.Nulled.{elements}
use Rattle.sql_flat.specs.Flat as flat_list
use Rattle.sql_flat.specs.Flat.{expr_rose, items_roses, uniqueness}
use Rattle.sql_flat.specs.declared.kind.Combining.{Combining}
use Rattle.sql_flat.specs.declared.kind.FlatKind.{FlatKind}
use Rattle.sql_flat.specs.declared.kind.FlatKind.TheVariants as K
use Rattle.sql_flat.specs.declared.kind.FlatNode.{FlatNode}
use Rattle.sql_flat.specs.declared.kind.Selecting.{Selecting}
use Rattle.sql_rules_check.specs.inside.Known.{Known}
use Rattle.sql_rules_check.specs.inside.Lists.{any_empty_from}
use Rattle.sql_rules_check.specs.inside.Typing.{empty, first, is_nil, selection, types_of_each, typing}
use Rattle.sql_rules_check.specs.inside.Views.{Views}
use Rattle.sql_rules_check.proofs.Alternatives.{any-either, none-of}
use Rattle.sql_rules_check.proofs.Decided.{decides-backward, decides-rule}
use Rattle.sql_rules_check.proofs.SourceLeaves.{select_roses}
use Rattle.sql_rules_check.proofs.Seen as seen
use Rattle.sql_rules_check.proofs.Selected.{IsSelection, of-selection, selection-any}
use Rattle.sql_rules_check.proofs.TypesGiven.{expr-typed, items-typed, selection-typed}

abbrev gives : Roses FlatKind → List Given
gives ts = folded_each typing ts

abbrev NoExpr : View → FlatKind → Roses FlatKind → Type 0
NoExpr v k ts = ⊥

abbrev IsNil : Given → Type 0
IsNil g = element_types g ≡ []

-- a clause, by what its expression has
abbrev IsNilIn : Place → Given → Type 0
IsNilIn in_selection g = ⊥
IsNilIn in_distinct_on g = IsNil g
IsNilIn in_on g = ⊥
IsNilIn in_where g = ⊥
IsNilIn in_group_by g = IsNil g
IsNilIn in_having g = ⊥
IsNilIn in_order_by g = ⊥

abbrev IsNilClause : Place → Roses FlatKind → Type 0
IsNilClause p ts = IsNilIn p (first (gives ts))

abbrev IsNilOrder : Roses FlatKind → Type 0
IsNilOrder ts = types_of_each (gives ts) ≡ []

abbrev HasNone : Roses FlatKind → Type 0
HasNone ts = gives ts ≡ []

abbrev IsNilSelect : View → Views → Selecting → Roses FlatKind → Type 0
IsNilSelect v w s ts = IsNil (selection s.unique (gives ts))

abbrev NoCombination : Combining → Roses FlatKind → Type 0
NoCombination c ts = ⊥

abbrev NoSource : FlatKind → Type 0
NoSource k = ⊥

abbrev of_kind : View → FlatKind → Known → Type 0
of_kind = seen.of_kind NoExpr IsNilClause IsNilOrder HasNone IsNilSelect NoCombination NoSource

abbrev PartNil : Part → Type 0
PartNil = seen.PartOut NoExpr IsNilClause IsNilOrder HasNone IsNilSelect NoCombination NoSource

abbrev OfExpr : View → Expr → Type 0
OfExpr = seen.OfExpr NoExpr IsNilClause IsNilOrder HasNone IsNilSelect NoCombination NoSource

abbrev ClauseNil : Clause → Type 0
ClauseNil = seen.ClauseOut NoExpr IsNilClause IsNilOrder HasNone IsNilSelect NoCombination NoSource

-- ---- the test of a node

never : Decides false ⊥
never = (λ e. absurd (false≢true e), λ h. absurd h)

nil : {X : Type 0} (xs : List X) → Decides (is_nil xs) (xs ≡ [])
nil [] = (λ e. refl, λ h. refl)
nil (x ∷ xs) = (λ e. absurd (false≢true e), λ h. cc)

empty-decides : (v : View) (k : FlatKind) (w : Known) → Decides (empty k (gives w.kids)) (of_kind v k w)
empty-decides v K.DistinctOn w = nil (element_types (first (gives w.kids)))
empty-decides v K.GroupBy w = nil (element_types (first (gives w.kids)))
empty-decides v K.OrderBy w = nil (types_of_each (gives w.kids))
empty-decides v (K.Select s) w = nil (element_types (selection s.unique (gives w.kids)))
empty-decides v K.Positions w = nil (gives w.kids)
empty-decides v _ w = never

-- ---- lists

no-node : (v : View) (e : Expr) → OfExpr v e → ⊥
no-node v (value t x) h = h
no-node v (column o c) h = h
no-node v (list es) h = h
no-node v count_star h = h
no-node v (nullable e) h = h
no-node v (unary n e) h = h
no-node v (count e) h = h
no-node v (compared by a b) h = h
no-node v (joined by a b) h = h
no-node v (exists q) h = h
no-node v (single q) h = h
no-node v (among_values n e t xs) h = h
no-node v (among_rows n e q) h = h

no-expr : (v : View) (es : List Expr) → AnyOf (OfExpr v) es → ⊥
no-expr v es h = none-of (OfExpr v) (no-node v) es h

mapped-nil : {X Y : Type 0} (f : X → Y) (xs : List X) → map f xs ≡ [] → xs ≡ []
mapped-nil f [] h = refl
mapped-nil f (x ∷ xs) h = cc

typed-nil : (e : Expr) → IsNil (given e) → flat e ≡ []
typed-nil e h = mapped-nil type_of (flat e) (sym (elements e) ∙ h)

nil-typed : (e : Expr) → flat e ≡ [] → IsNil (given e)
nil-typed e h = elements e ∙ ap (map type_of) h

-- ---- clauses

to-clause : (p : Place) (v : View) (e : Expr) → ClauseNil (record { place = p; view = v; expr = e })
    → IsEmptyList (record { place = p; view = v; expr = e })
to-clause p v e (inr h) = absurd (no-expr v (nodes e) h)
to-clause in_distinct_on v e (inl h) = (tt, typed-nil e (subst IsNil (expr-typed e) h))
to-clause in_group_by v e (inl h) = (tt, typed-nil e (subst IsNil (expr-typed e) h))
to-clause in_selection v e (inl h) = absurd h
to-clause in_on v e (inl h) = absurd h
to-clause in_where v e (inl h) = absurd h
to-clause in_having v e (inl h) = absurd h
to-clause in_order_by v e (inl h) = absurd h

abbrev NilSelection : Expr → Type 0
NilSelection e = IsNil (given e)

of-clause : (p : Place) (v : View) (e : Expr) → IsEmptyList (record { place = p; view = v; expr = e })
    → ClauseNil (record { place = p; view = v; expr = e })
    ⊎ IsSelection NilSelection (record { place = p; view = v; expr = e })
of-clause in_selection v e h = inr (nil-typed e h.1)
of-clause in_distinct_on v e h = inl (inl (subst IsNil (sym (expr-typed e)) (nil-typed e h.1)))
of-clause in_on v e h = absurd h.0
of-clause in_where v e h = absurd h.0
of-clause in_group_by v e h = inl (inl (subst IsNil (sym (expr-typed e)) (nil-typed e h.1)))
of-clause in_having v e h = absurd h.0
of-clause in_order_by v e h = absurd h.0

-- ---- orders

to-order : (o : Order) → seen.OfOrder NoExpr IsNilClause IsNilOrder HasNone IsNilSelect NoCombination NoSource o
    → IsEmptyOrder o
to-order no_order h = h
to-order (order_by is) h = mapped-nil type_of (flat_items is) (sym (items-typed is) ∙ h)

of-order : (o : Order) → IsEmptyOrder o
    → seen.OfOrder NoExpr IsNilClause IsNilOrder HasNone IsNilSelect NoCombination NoSource o
of-order no_order h = h
of-order (order_by is) h = items-typed is ∙ ap (map type_of) h

to-positions : (o : Option (List PositionalItem))
    → seen.OfPositions NoExpr IsNilClause IsNilOrder HasNone IsNilSelect NoCombination NoSource o → o ≡ Some []
to-positions None h = absurd h
to-positions (Some []) h = refl
to-positions (Some (p ∷ ps)) h = cc

of-positions : (o : Option (List PositionalItem)) → o ≡ Some []
    → seen.OfPositions NoExpr IsNilClause IsNilOrder HasNone IsNilSelect NoCombination NoSource o
of-positions None h = cc
of-positions (Some []) h = refl
of-positions (Some (p ∷ ps)) h = cc

no-source : (f : Source)
    → seen.OfSource NoExpr IsNilClause IsNilOrder HasNone IsNilSelect NoCombination NoSource f → ⊥
no-source (of_table t only sample) h = h
no-source (of_alias a t) h = h
no-source (join k l r on) (inl h) = h
no-source (join k l r on) (inr (inl h)) = no-source l h
no-source (join k l r on) (inr (inr h)) = no-source r h

no-from : (f : From) → seen.OfFrom NoExpr IsNilClause IsNilOrder HasNone IsNilSelect NoCombination NoSource f → ⊥
no-from no_source h = h
no-from (from f) h = no-source f h

-- ---- statements inside the statement

selected : (s : Select)
    → selection (uniqueness s.distinctness)
    (gives (select_roses s.selection s.source s.distinctness s.where_by s.order s.group_by s.having_by))
    ≡ given s.selection
selected s = selection-typed s.selection s.source s.distinctness s.where_by s.order s.group_by s.having_by

module _ (schema : Declarations) (d : Dialect) where
  to-rule : (p : Part) → PartNil p → PartBreaks rule.EmptyList schema d p
  to-rule (a_select outer s) (inl (inl h)) =
      inl (any_each ClauseNil IsEmptyList (λ c. to-clause c.place c.view c.expr) (clauses outer s) h)
  to-rule (a_select outer s) (inl (inr h)) =
      inl (selection-any IsEmptyList outer s (tt, typed-nil s.selection (subst IsNil (selected s) h)))
  to-rule (a_select outer s) (inr (inl h)) = absurd (no-from s.source h)
  to-rule (a_select outer s) (inr (inr h)) = inr (to-order s.order h)
  to-rule (a_combination c) (inl h) = absurd h
  to-rule (a_combination c) (inr h) = to-positions c.order h

  of-rule : (p : Part) → PartBreaks rule.EmptyList schema d p → PartNil p
  of-rule (a_select outer s) (inl h) =
      elim (any-either IsEmptyList ClauseNil (IsSelection NilSelection)
      (λ c. of-clause c.place c.view c.expr) (clauses outer s) h) [
        | inl p ↦ inl (inl p)
        | inr q ↦ inl
            (inr (subst IsNil (sym (selected s)) (of-selection NilSelection outer s q)))
      ]
  of-rule (a_select outer s) (inr h) = inr (inr (of-order s.order h))
  of-rule (a_combination c) h = inr (of-positions c.order h)

pub emptied : (s : Statement) (nodes : List FlatNode) (b : Bool) → nodes ≡ flat_list.flat_of s
    → b ≡ any_empty_from 0 nodes → (schema : Declarations) (d : Dialect)
    → Decides b (Broken rule.EmptyList schema d s)
emptied s nodes b is h schema d =
    decides-rule NoExpr IsNilClause IsNilOrder HasNone IsNilSelect NoCombination NoSource
    (PartBreaks rule.EmptyList schema d) (to-rule schema d) (of-rule schema d) (parts [] s) b
    (decides-backward NoExpr IsNilClause IsNilOrder HasNone IsNilSelect NoCombination NoSource
    empty empty-decides s nodes b is h)
