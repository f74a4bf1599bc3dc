-- TypeMismatch, by tests of nodes.
use Rattle.std.proofs.Common.{◌≡◌, ◌≢◌, ◌⊎◌, inl, inr, List, [], ◌∷◌, Bool, true, false, not, Option, None, Some, refl, sym, ap, ◌∙◌, subst}
use Rattle.std.specs.Prelude.{IsTrue}
use Rattle.std.specs.Bool.{Decides}
use Rattle.std.specs.List.{list_any}
use Rattle.std.specs.Option.{is_none}
use Rattle.std.proofs.lemmas.Bool.{false≢true, true≢false}
use Rattle.std.proofs.lemmas.Bool.Decides.{Decides-not, Decides-or}
use Rattle.sql_schema.specs.Declarations.{Declarations}
use Rattle.sql_schema.specs.declared.types.SqlType.{SqlType}
use Rattle.sql_schema.proofs.EqualityLaws.{equal-bases}
use Rattle.sql_schema.specs.declared.types.Base.TheVariants.{Bool as BoolBase}
use Rattle.sql_dialect.specs.declared.backend.Dialect.{Dialect}
use Rattle.sql_flat_law.specs.Rose.{Roses}
use Rattle.sql_flat_law.specs.Folds.{folded, folded_each}
use Rattle.sql_node.specs.Tree.{Expr, column, value, list, count_star, nullable, unary, count, compared, joined, exists, single, among_values, among_rows, Exprs, no_exprs, more_exprs, Source, of_table, of_alias, join, From, no_source, from, Order, no_order, order_by, Statement}
use Rattle.sql_rules.specs.Lists.{AnyOf}
use Rattle.sql_rules.specs.Rules.{Broken, IsBool, IsIllTyped, IsIllTypedClause, PartBreaks}
use Rattle.sql_rules.specs.Scope.{View, Part, a_select, a_combination, Place, in_selection, in_distinct_on, in_on, in_where, in_group_by, in_having, in_order_by, Clause, Select, clauses, nodes, nodes_of, flat, flat_of, parts}
use Rattle.sql_rules.specs.Types.{Given, element_types, given, fits, only_type, type_of}
use Rattle.sql_rules.specs.declared.rule.Rule.TheVariants as rule
use Rattle.sql_rules.proofs.Lists.{any_left, any_right}
use Rattle.sql_rules.proofs.Loops.{any-decides, any_each, any_map, any_split, map_any}
use Rattle.sql_rules.proofs.Nulled.{elements}
use Rattle.sql_rules.proofs.SameTypes.{types-differ}
use Rattle.sql_rules.proofs.TypeLaws.{ill_typed, ill_typed-decides}
use Rattle.sql_rules.specs.inside.Misfits.{misfit}
use Rattle.sql_flat.specs.Flat as flat_list
use Rattle.sql_flat.specs.Flat.{expr_rose, uniqueness}
use Rattle.sql_flat.specs.declared.kind.FlatNode.{FlatNode}
use Rattle.sql_flat.specs.declared.kind.Combining.{Combining}
use Rattle.sql_flat.specs.declared.kind.FlatKind.{FlatKind}
use Rattle.sql_flat.specs.declared.kind.FlatKind.TheVariants as K
use Rattle.sql_flat.specs.declared.kind.Selecting.{Selecting}
use Rattle.sql_leaf.specs.declared.position.PositionalItem.{PositionalItem}
use Rattle.sql_rules_check.specs.inside.Known.{Known}
use Rattle.sql_rules_check.specs.inside.Lists.{any_ill_from}
use Rattle.sql_rules_check.specs.inside.Typing.{any_untyped, differ, first, ill, is_condition, others, selection, typing}
use Rattle.sql_rules_check.specs.inside.Views.{Views}
use Rattle.sql_rules_check.proofs.Alternatives.{any-either}
use Rattle.sql_rules_check.proofs.Decided.{decides-backward, decides-rule}
use Rattle.sql_rules_check.proofs.SourceLeaves.{select_roses}
use Rattle.sql_rules_check.proofs.Seen as seen
use Rattle.sql_rules_check.proofs.Selected.{IsSelection, of-selection, selection-any}
use Rattle.sql_rules_check.proofs.TypesGiven.{expr-typed, selection-typed, statement-typed}

abbrev gives : Roses FlatKind → List Given
gives ts = folded_each typing ts

abbrev IsMisfit : View → FlatKind → Roses FlatKind → Type 0
IsMisfit v (K.Value t x) ts = fits t x ≡ false
IsMisfit v _ ts = ⊥

abbrev IsUntyped : Option SqlType → Type 0
IsUntyped t = t ≡ None

abbrev HasUntyped : Given → Type 0
HasUntyped g = AnyOf IsUntyped (element_types g)

-- a clause, by what its expression has
abbrev IsIllIn : Place → Given → Type 0
IsIllIn in_selection g = ⊥
IsIllIn in_distinct_on g = HasUntyped g
IsIllIn in_on g = ¬ IsBool (only_type g)
IsIllIn in_where g = ¬ IsBool (only_type g)
IsIllIn in_group_by g = HasUntyped g
IsIllIn in_having g = ¬ IsBool (only_type g)
IsIllIn in_order_by g = IsUntyped (only_type g)

abbrev IsIllClause : Place → Roses FlatKind → Type 0
IsIllClause p ts = IsIllIn p (first (gives ts))

abbrev Never : Roses FlatKind → Type 0
Never ts = ⊥

abbrev IsIllSelect : View → Views → Selecting → Roses FlatKind → Type 0
IsIllSelect v w s ts = HasUntyped (selection s.unique (gives ts)) ⊎ IsTrue s.marks.key_count

abbrev SidesDiffer : Combining → Roses FlatKind → Type 0
SidesDiffer c ts = element_types (first (gives ts)) ≢ element_types (first (others (gives ts)))

abbrev NoSource : FlatKind → Type 0
NoSource k = ⊥

abbrev of_kind : View → FlatKind → Known → Type 0
of_kind = seen.of_kind IsMisfit IsIllClause Never Never IsIllSelect SidesDiffer NoSource

abbrev PartIll : Part → Type 0
PartIll = seen.PartOut IsMisfit IsIllClause Never Never IsIllSelect SidesDiffer NoSource

abbrev OfExpr : View → Expr → Type 0
OfExpr = seen.OfExpr IsMisfit IsIllClause Never Never IsIllSelect SidesDiffer NoSource

abbrev ClauseIll : Clause → Type 0
ClauseIll = seen.ClauseOut IsMisfit IsIllClause Never Never IsIllSelect SidesDiffer NoSource

-- ---- the test of a node

never : Decides false ⊥
never = (λ e. absurd (false≢true e), λ h. absurd h)

refused : (b : Bool) → Decides (not b) (b ≡ false)
refused true = (λ e. absurd (false≢true e), λ h. absurd (true≢false h))
refused false = (λ e. refl, λ h. refl)

untyped : (t : Option SqlType) → Decides (is_none t) (IsUntyped t)
untyped None = (λ e. refl, λ h. refl)
untyped (Some t) = (λ e. absurd (false≢true e), λ h. cc)

any-none : (ts : List (Option SqlType)) → Decides (any_untyped ts) (AnyOf IsUntyped ts)
any-none ts = any-decides IsUntyped is_none untyped ts

truth : (b : Bool) → Decides b (b ≡ true)
truth b = (λ e. e, λ h. h)

pub condition : (t : Option SqlType) → Decides (is_condition t) (IsBool t)
condition None = never
condition (Some t) = equal-bases t.base BoolBase

no-condition : (t : Option SqlType) → Decides (not (is_condition t)) (¬ IsBool t)
no-condition t = Decides-not (is_condition t) (condition t)

differing : (ts us : List (Option SqlType)) → Decides (differ ts us) (ts ≢ us)
differing ts us = types-differ (differ ts us) ts us refl

ill-decides : (v : View) (k : FlatKind) (w : Known) → Decides (ill k (gives w.kids)) (of_kind v k w)
ill-decides v (K.Value t x) w = refused (fits t x)
ill-decides v K.On w = no-condition (only_type (first (gives w.kids)))
ill-decides v K.DistinctOn w = any-none (element_types (first (gives w.kids)))
ill-decides v K.Where w = no-condition (only_type (first (gives w.kids)))
ill-decides v K.GroupBy w = any-none (element_types (first (gives w.kids)))
ill-decides v K.Having w = no-condition (only_type (first (gives w.kids)))
ill-decides v (K.Item by) w = untyped (only_type (first (gives w.kids)))
ill-decides v (K.Select s) w =
    let ts = element_types (selection s.unique (gives w.kids)) in
    Decides-or (any_untyped ts) s.marks.key_count (any-none ts) (truth s.marks.key_count)
ill-decides v (K.Combination c) w =
    differing (element_types (first (gives w.kids))) (element_types (first (others (gives w.kids))))
ill-decides v _ w = never

-- ---- expressions

-- values that do not fit
of-misfit : (v : View) (e : Expr) → OfExpr v e → misfit e ≡ true
of-misfit v (value t x) h = (refused (fits t x)).1 h
of-misfit v (column o c) h = absurd h
of-misfit v (list es) h = absurd h
of-misfit v count_star h = absurd h
of-misfit v (nullable e) h = absurd h
of-misfit v (unary n e) h = absurd h
of-misfit v (count e) h = absurd h
of-misfit v (compared by a b) h = absurd h
of-misfit v (joined by a b) h = absurd h
of-misfit v (exists q) h = absurd h
of-misfit v (single q) h = absurd h
of-misfit v (among_values n e t xs) h = absurd h
of-misfit v (among_rows n e q) h = absurd h

to-misfit : (v : View) (e : Expr) → misfit e ≡ true → OfExpr v e
to-misfit v (value t x) h = (refused (fits t x)).0 h
to-misfit v (column o c) h = absurd (false≢true h)
to-misfit v (list es) h = absurd (false≢true h)
to-misfit v count_star h = absurd (false≢true h)
to-misfit v (nullable e) h = absurd (false≢true h)
to-misfit v (unary n e) h = absurd (false≢true h)
to-misfit v (count e) h = absurd (false≢true h)
to-misfit v (compared by a b) h = absurd (false≢true h)
to-misfit v (joined by a b) h = absurd (false≢true h)
to-misfit v (exists q) h = absurd (false≢true h)
to-misfit v (single q) h = absurd (false≢true h)
to-misfit v (among_values n e t xs) h = absurd (false≢true h)
to-misfit v (among_rows n e q) h = absurd (false≢true h)

any-misfit : (v : View) (es : List Expr) → Decides (list_any misfit es) (AnyOf (OfExpr v) es)
any-misfit v es = any-decides (OfExpr v) misfit (λ e. (to-misfit v e, of-misfit v e)) es

-- an expression is ill-typed where it has no type or a value in it does not fit
module _ (v : View) (e : Expr) where
  abbrev IsIll : Type 0
  IsIll = AnyOf IsIllTyped (nodes e)

  abbrev AnyMisfit : Type 0
  AnyMisfit = AnyOf (OfExpr v) (nodes e)

  two-ways : Decides (ill_typed e) (IsUntyped (type_of e) ⊎ AnyMisfit)
  two-ways =
      Decides-or (is_none (type_of e)) (list_any misfit (nodes e)) (untyped (type_of e)) (any-misfit v (nodes e))

  pub ill-split : IsIll → IsUntyped (type_of e) ⊎ AnyMisfit
  ill-split h = two-ways.0 ((ill_typed-decides e).1 h)

  pub ill-join : IsUntyped (type_of e) ⊎ AnyMisfit → IsIll
  ill-join h = (ill_typed-decides e).0 (two-ways.1 h)

-- ---- lists: their elements

module _ (v : View) where
  abbrev AnyInside : Expr → Type 0
  AnyInside e = AnyOf (OfExpr v) (nodes e)

  under : (e : Expr) → AnyInside e → AnyInside (nullable e)
  under e h = inr h

  out-of : (e : Expr) → AnyInside (nullable e) → AnyInside e
  out-of e (inl h) = absurd h
  out-of e (inr h) = h

  only : {P : Type 0} → P ⊎ ⊥ → P
  only (inl p) = p
  only (inr n) = absurd n

  mutual
    flat-inside : (e : Expr) → AnyOf AnyInside (flat e) → AnyInside e
    flat-inside (list es) h = inr (flat-inside-of es h)
    flat-inside (nullable e) h =
        inr (flat-inside e
        (any_each (λ x. AnyInside (nullable x)) AnyInside out-of (flat e) (any_map AnyInside nullable (flat e) h)))
    flat-inside (column o c) h = only h
    flat-inside (value t x) h = only h
    flat-inside count_star h = only h
    flat-inside (unary n e) h = only h
    flat-inside (count e) h = only h
    flat-inside (compared by a b) h = only h
    flat-inside (joined by a b) h = only h
    flat-inside (exists q) h = only h
    flat-inside (single q) h = only h
    flat-inside (among_values n e t xs) h = only h
    flat-inside (among_rows n e q) h = only h

    flat-inside-of : (es : Exprs) → AnyOf AnyInside (flat_of es) → AnyOf (OfExpr v) (nodes_of es)
    flat-inside-of no_exprs h = h
    flat-inside-of (more_exprs e es) h =
        elim (any_split AnyInside (flat e) (flat_of es) h) [
          | inl p ↦ any_left (OfExpr v) (nodes e) (nodes_of es) (flat-inside e p)
          | inr q ↦ any_right (OfExpr v) (nodes e) (nodes_of es) (flat-inside-of es q)
        ]

  mutual
    inside-flat : (e : Expr) → AnyInside e → AnyOf AnyInside (flat e)
    inside-flat (list es) (inl h) = absurd h
    inside-flat (list es) (inr h) = inside-flat-of es h
    inside-flat (nullable e) (inl h) = absurd h
    inside-flat (nullable e) (inr h) =
        map_any AnyInside nullable (flat e)
        (any_each AnyInside (λ x. AnyInside (nullable x)) under (flat e) (inside-flat e h))
    inside-flat (column o c) h = inl h
    inside-flat (value t x) h = inl h
    inside-flat count_star h = inl h
    inside-flat (unary n e) h = inl h
    inside-flat (count e) h = inl h
    inside-flat (compared by a b) h = inl h
    inside-flat (joined by a b) h = inl h
    inside-flat (exists q) h = inl h
    inside-flat (single q) h = inl h
    inside-flat (among_values n e t xs) h = inl h
    inside-flat (among_rows n e q) h = inl h

    inside-flat-of : (es : Exprs) → AnyOf (OfExpr v) (nodes_of es) → AnyOf AnyInside (flat_of es)
    inside-flat-of no_exprs h = h
    inside-flat-of (more_exprs e es) h =
        elim (any_split (OfExpr v) (nodes e) (nodes_of es) h) [
          | inl p ↦ any_left AnyInside (flat e) (flat_of es) (inside-flat e p)
          | inr q ↦ any_right AnyInside (flat e) (flat_of es) (inside-flat-of es q)
        ]

  abbrev NoType : Expr → Type 0
  NoType e = IsUntyped (type_of e)

  abbrev AnyIll : Expr → Type 0
  AnyIll e = AnyOf IsIllTyped (nodes e)

  -- of the elements of a list one is ill-typed
  list-split : (e : Expr) → AnyOf AnyIll (flat e) → HasUntyped (given e) ⊎ AnyInside e
  list-split e h =
      elim (any-either AnyIll NoType AnyInside (λ x. ill-split v x) (flat e) h) [
        | inl p ↦ inl
            (subst (AnyOf IsUntyped) (sym (elements e)) (map_any IsUntyped type_of (flat e) p))
        | inr q ↦ inr (flat-inside e q)
      ]

  list-untyped : (e : Expr) → HasUntyped (given e) → AnyOf AnyIll (flat e)
  list-untyped e h =
      any_each NoType AnyIll (λ x u. ill-join v x (inl u)) (flat e)
      (any_map IsUntyped type_of (flat e) (subst (AnyOf IsUntyped) (elements e) h))

  list-misfit : (e : Expr) → AnyInside e → AnyOf AnyIll (flat e)
  list-misfit e h = any_each AnyInside AnyIll (λ x m. ill-join v x (inr m)) (flat e) (inside-flat e h)

-- ---- clauses

no-type-no-bool : (t : Option SqlType) → IsUntyped t → ¬ IsBool t
no-type-no-bool None h = λ b. b
no-type-no-bool (Some t) h = cc

-- what a clause's node knows of its expression
typed : (P : Given → Type 0) (e : Expr) → P (folded typing (expr_rose e)) → P (given e)
typed P e h = subst P (expr-typed e) h

retyped : (P : Given → Type 0) (e : Expr) → P (given e) → P (folded typing (expr_rose e))
retyped P e h = subst P (sym (expr-typed e)) h

abbrev NotBool : Given → Type 0
NotBool g = ¬ IsBool (only_type g)

abbrev OnlyUntyped : Given → Type 0
OnlyUntyped g = IsUntyped (only_type g)

to-clause : (p : Place) (v : View) (e : Expr) → ClauseIll (record { place = p; view = v; expr = e })
    → IsIllTypedClause (record { place = p; view = v; expr = e })
to-clause in_selection v e (inl h) = absurd h
to-clause in_selection v e (inr m) = inl (list-misfit v e m)
to-clause in_distinct_on v e (inl h) = inl (list-untyped v e (typed HasUntyped e h))
to-clause in_distinct_on v e (inr m) = inl (list-misfit v e m)
to-clause in_on v e (inl h) = inr (tt, typed NotBool e h)
to-clause in_on v e (inr m) = inl (inl (ill-join v e (inr m)))
to-clause in_where v e (inl h) = inr (tt, typed NotBool e h)
to-clause in_where v e (inr m) = inl (inl (ill-join v e (inr m)))
to-clause in_group_by v e (inl h) = inl (list-untyped v e (typed HasUntyped e h))
to-clause in_group_by v e (inr m) = inl (list-misfit v e m)
to-clause in_having v e (inl h) = inr (tt, typed NotBool e h)
to-clause in_having v e (inr m) = inl (inl (ill-join v e (inr m)))
to-clause in_order_by v e (inl h) = inl (inl (ill-join v e (inl (typed OnlyUntyped e h))))
to-clause in_order_by v e (inr m) = inl (inl (ill-join v e (inr m)))

abbrev Selects : Clause → Type 0
Selects = IsSelection (λ e. HasUntyped (given e))

-- a condition
of-condition : (v : View) (e : Expr)
    → AnyOf (λ x. AnyOf IsIllTyped (nodes x)) (e ∷ []) ⊎ (Unit {0} × NotBool (given e))
    → NotBool (folded typing (expr_rose e)) ⊎ AnyOf (OfExpr v) (nodes e)
of-condition v e (inl (inl h)) =
    elim (ill-split v e h) [
      | inl u ↦ inl
          (retyped NotBool e (no-type-no-bool (type_of e) u))
      | inr m ↦ inr m
    ]
of-condition v e (inl (inr h)) = absurd h
of-condition v e (inr h) = inl (retyped NotBool e h.1)

-- a list
of-list : (v : View) (e : Expr) → AnyOf (λ x. AnyOf IsIllTyped (nodes x)) (flat e) ⊎ (⊥ × NotBool (given e))
    → HasUntyped (folded typing (expr_rose e)) ⊎ AnyOf (OfExpr v) (nodes e)
of-list v e (inl h) =
    elim (list-split v e h) [ inl u ↦ inl (retyped HasUntyped e u) | inr m ↦ inr m ]
of-list v e (inr h) = absurd h.0

of-clause : (p : Place) (v : View) (e : Expr) → IsIllTypedClause (record { place = p; view = v; expr = e })
    → ClauseIll (record { place = p; view = v; expr = e }) ⊎ Selects (record { place = p; view = v; expr = e })
of-clause in_selection v e (inl h) = elim (list-split v e h) [ inl u ↦ inr u | inr m ↦ inl (inr m) ]
of-clause in_selection v e (inr h) = absurd h.0
of-clause in_distinct_on v e h = inl (of-list v e h)
of-clause in_on v e h = inl (of-condition v e h)
of-clause in_where v e h = inl (of-condition v e h)
of-clause in_group_by v e h = inl (of-list v e h)
of-clause in_having v e h = inl (of-condition v e h)
of-clause in_order_by v e (inl (inl h)) =
    elim (ill-split v e h) [ inl u ↦ inl (inl (retyped OnlyUntyped e u)) | inr m ↦ inl (inr m) ]
of-clause in_order_by v e (inl (inr h)) = absurd h
of-clause in_order_by v e (inr h) = absurd h.0

-- ---- statements inside the statement

no-source : (f : Source) → seen.OfSource IsMisfit IsIllClause Never Never IsIllSelect SidesDiffer NoSource f → ⊥
no-source (of_table t only sample) h = h
no-source (of_alias a t) h = h
no-source (join k l r on) (inl h) = h
no-source (join k l r on) (inr (inl h)) = no-source l h
no-source (join k l r on) (inr (inr h)) = no-source r h

no-from : (f : From) → seen.OfFrom IsMisfit IsIllClause Never Never IsIllSelect SidesDiffer NoSource f → ⊥
no-from no_source h = h
no-from (from f) h = no-source f h

no-order : (o : Order) → seen.OfOrder IsMisfit IsIllClause Never Never IsIllSelect SidesDiffer NoSource o → ⊥
no-order no_order h = h
no-order (order_by is) h = h

no-positions : (o : Option (List PositionalItem))
    → seen.OfPositions IsMisfit IsIllClause Never Never IsIllSelect SidesDiffer NoSource o → ⊥
no-positions None h = h
no-positions (Some ps) h = h

selected : (s : Select)
    → selection (uniqueness s.distinctness)
    (gives (select_roses s.selection s.source s.distinctness s.where_by s.order s.group_by s.having_by))
    ≡ given s.selection
selected s = selection-typed s.selection s.source s.distinctness s.where_by s.order s.group_by s.having_by

module _ (schema : Declarations) (d : Dialect) where
  to-rule : (p : Part) → PartIll p → PartBreaks rule.TypeMismatch schema d p
  to-rule (a_select outer s) (inl (inl h)) =
      inl (any_each ClauseIll IsIllTypedClause (λ c. to-clause c.place c.view c.expr) (clauses outer s) h)
  to-rule (a_select outer s) (inl (inr (inl h))) =
      inl (selection-any IsIllTypedClause outer s (inl (list-untyped [] s.selection (subst HasUntyped (selected s) h))))
  to-rule (a_select outer s) (inl (inr (inr h))) = inr h
  to-rule (a_select outer s) (inr (inl h)) = absurd (no-from s.source h)
  to-rule (a_select outer s) (inr (inr h)) = absurd (no-order s.order h)
  to-rule (a_combination c) (inl h) =
      λ e. h (ap element_types (statement-typed c.left) ∙ e ∙ sym (ap element_types (statement-typed c.right)))
  to-rule (a_combination c) (inr h) = absurd (no-positions c.order h)

  of-rule : (p : Part) → PartBreaks rule.TypeMismatch schema d p → PartIll p
  of-rule (a_select outer s) (inl h) =
      elim (any-either IsIllTypedClause ClauseIll Selects (λ c. of-clause c.place c.view c.expr) (clauses outer s) h) [
        | inl p ↦ inl (inl p)
        | inr q ↦ inl
            (inr
            (inl
            (subst HasUntyped (sym (selected s)) (of-selection (λ e. HasUntyped (given e)) outer s q))))
      ]
  of-rule (a_select outer s) (inr h) = inl (inr (inr h))
  of-rule (a_combination c) h =
      inl (λ e. h (sym (ap element_types (statement-typed c.left)) ∙ e ∙ ap element_types (statement-typed c.right)))

pub mismatched : (s : Statement) (nodes : List FlatNode) (b : Bool) → nodes ≡ flat_list.flat_of s
    → b ≡ any_ill_from 0 nodes
    → (schema : Declarations) (d : Dialect) → Decides b (Broken rule.TypeMismatch schema d s)
mismatched s nodes b is h schema d =
    decides-rule IsMisfit IsIllClause Never Never IsIllSelect SidesDiffer NoSource
    (PartBreaks rule.TypeMismatch schema d)
    (to-rule schema d) (of-rule schema d) (parts [] s) b
    (decides-backward IsMisfit IsIllClause Never Never IsIllSelect SidesDiffer NoSource ill ill-decides s nodes b is h)
