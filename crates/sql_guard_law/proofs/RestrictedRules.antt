-- A select statement with the predicates of its own leaves breaks no rule that the statement does not break.
use Rattle.std.proofs.Common.{◌≡◌, true, ◌&&◌, ◌||◌, List, [], ◌∷◌, ◌++◌, map, Option, Some, None, refl, sym, ap, ap₂, subst, ◌∙◌, inl, inr, if◌then◌else◌, IsTrue}
use Rattle.std.specs.List.{list_any}
use Rattle.std.specs.Option.{is_none}
use Rattle.std.proofs.lemmas.Bool.{false≢true}
use Rattle.sql_schema.specs.Declarations.{Declarations}
use Rattle.sql_schema.specs.declared.declaration.TableDecl.{TableDecl}
use Rattle.sql_schema.specs.declared.types.Base.TheVariants as base
use Rattle.sql_schema.specs.declared.types.SqlType.{SqlType}
use Rattle.sql_schema.proofs.ExactTypes.{exact-base}
use Rattle.sql_dialect.specs.declared.backend.Dialect.{Dialect}
use Rattle.sql_leaf.specs.declared.table_source.JoinKind.TheVariants.{Inner, LeftOuter}
use Rattle.sql_leaf.specs.declared.operator.Logic.{Logic}
use Rattle.sql_leaf.specs.declared.operator.Logic.TheVariants.{And}
use Rattle.sql_node.specs.Tree.{Origin, Expr, joined, MaybeExpr, no_expr, an_expr, Source, of_table, of_alias, join, From, no_source, from}
use Rattle.sql_origin.specs.Leaves.{Leaf, is_padded}
use Rattle.sql_rules.specs.Lists.{AnyOf, AnyPair, Each}
use Rattle.sql_rules.specs.Rules.{SelectBreaks, IsTable, IsUnknownColumn, IsOutOfScope, IsIllTyped, IsIllTypedClause, IsEmptyList, IsBool, IsSelected, LacksOn, FromLacksOn, Present, LacksNullable, CountsAggregate, HasAggregate, HasTableMarks, FromHasMarks, bare}
use Rattle.sql_rules.specs.Scope.{View, Select, Clause, Place, in_selection, in_distinct_on, in_on, in_where, in_group_by, in_having, in_order_by, clauses, own, leaves_of, ons_of, nodes, widest, maybe_clause, distinct_clause, order_clauses}
use Rattle.sql_rules.specs.Types.{type_of, bool_type, joined_type}
use Rattle.sql_rules.specs.Verdicts.{is_aggregate}
use Rattle.sql_rules.specs.declared.rule.Rule.{Rule}
use Rattle.sql_rules.specs.declared.rule.Rule.TheVariants as R
use Rattle.sql_rules.specs.inside.Misfits.{misfit}
use Rattle.sql_rules.proofs.Loops.{any-decides}
use Rattle.sql_rules.proofs.TypeLaws.{ill_typed-decides}
use Rattle.sql_rows_meaning.proofs.Kept.{known_tables, in_widest}
use Rattle.sql_guard_law.specs.Restricted.{predicates, predicates_from, with_all, restricted_source, restricted_from}
use Rattle.sql_guard_law.specs.Tenant.{IsPredicate}
use Rattle.sql_guard_law.proofs.Evaluate.{IsTest, aimed, aimed-test}
use Rattle.sql_guard_law.proofs.Plain.{free_left, free_right, IsBoolean, IsBooleanMaybe, IsPlainFrom, from-plain, where-plain, predicate-fit}
use Rattle.sql_guard_law.proofs.RestrictedClauses.{neither, none_of, IsAimed, aimed-nodes, IsGood, unaggregated-aimed, known-aimed, seen-aimed, uncounted-aimed, fitting-aimed, IsGuardedPlace, Guarded, leaves-same, own-same, widest-same, guarded_select, open_from, predicates_from-aimed, where-good, guarded-maybe, guarded-clauses}

-- ---- each rule

abbrev Counts : Expr → Type 0
Counts e = is_aggregate e ≡ true

-- typed, of Bool
abbrev Fine : Expr → Type 0
Fine e = (¬ AnyOf IsIllTyped (nodes e)) × IsBoolean e

some_none : {X : Type 0} (x : X) → Some x ≡ None → ⊥
some_none x e = cc

test-bool : (e : Expr) → IsBoolean e → IsBool (type_of e)
test-bool e h = subst IsBool (sym h.1) (exact-base h.0.base base.Bool h.2)

and-boolean : (a b : Expr) → IsBoolean a → IsBoolean b → IsBoolean (joined And a b)
and-boolean a b h k = (
  record { base = base.Bool; nullable = h.0.nullable || k.0.nullable },
  ap₂ joined_type h.1 k.1 ∙ ap (λ x. if x then bool_type (h.0.nullable || k.0.nullable) else None) (ap₂ ◌&&◌ h.2 k.2),
  refl,
)

fine-both : (a b : Expr) → Fine a → Fine b → Fine (joined And a b)
fine-both a b h k = (ill, and-boolean a b h.1 k.1)
  where
    ill : ¬ AnyOf IsIllTyped (nodes (joined And a b))
    ill (inl e) = some_none ((and-boolean a b h.1 k.1).0) (sym ((and-boolean a b h.1 k.1).1) ∙ e)
    ill (inr i) = neither IsIllTyped (nodes a) (nodes b) h.0 k.0 i

fine-into : (place : Place) → IsGuardedPlace place → (v : View) (e : Expr) → IsBoolean e
    → ¬ IsIllTypedClause (record { place = place; view = v; expr = e }) → Fine e
fine-into in_on at v e h n = (λ i. n (inl (inl i)), h)
fine-into in_where at v e h n = (λ i. n (inl (inl i)), h)
fine-into in_selection at v e h n = absurd at
fine-into in_distinct_on at v e h n = absurd at
fine-into in_group_by at v e h n = absurd at
fine-into in_having at v e h n = absurd at
fine-into in_order_by at v e h n = absurd at

one_top : (e : Expr) → Fine e → ¬ AnyOf (λ x. AnyOf IsIllTyped (nodes x)) (e ∷ [])
one_top e h (inl i) = h.0 i
one_top e h (inr i) = i

fine-out : (place : Place) → IsGuardedPlace place → (v : View) (e : Expr) → Fine e
    → ¬ IsIllTypedClause (record { place = place; view = v; expr = e })
fine-out in_on at v e h (inl i) = one_top e h i
fine-out in_on at v e h (inr b) = b.1 (test-bool e h.1)
fine-out in_where at v e h (inl i) = one_top e h i
fine-out in_where at v e h (inr b) = b.1 (test-bool e h.1)
fine-out in_selection at v e h n = absurd at
fine-out in_distinct_on at v e h n = absurd at
fine-out in_group_by at v e h n = absurd at
fine-out in_having at v e h n = absurd at
fine-out in_order_by at v e h n = absurd at

no_list : (place : Place) → IsGuardedPlace place → (v : View) (e : Expr)
    → ¬ IsEmptyList (record { place = place; view = v; expr = e })
no_list in_on at v e h = h.0
no_list in_where at v e h = h.0
no_list in_selection at v e h = absurd at
no_list in_distinct_on at v e h = absurd at
no_list in_group_by at v e h = absurd at
no_list in_having at v e h = absurd at
no_list in_order_by at v e h = absurd at

not_selected : (s : Select) (place : Place) → IsGuardedPlace place → (v : View) (e : Expr)
    → ¬ LacksNullable s (record { place = place; view = v; expr = e })
not_selected s in_on at v e h = h.0
not_selected s in_where at v e h = h.0
not_selected s in_selection at v e h = absurd at
not_selected s in_distinct_on at v e h = absurd at
not_selected s in_group_by at v e h = absurd at
not_selected s in_having at v e h = absurd at
not_selected s in_order_by at v e h = absurd at

still_present : (ps : List Expr) (c : MaybeExpr) → Present c → Present (with_all ps c)
still_present [] c h = h
still_present (p ∷ ps) no_expr h = absurd h
still_present (p ∷ ps) (an_expr e) h = still_present ps (an_expr (joined And e p)) tt

related : (t : TableDecl) (p : Expr) (s : Source) → LacksOn (restricted_source t p s) → LacksOn s
related t p (of_table u only sample) h = h
related t p (of_alias a u) h = h
related t p (join Inner l r on) (inl n) = inl n
related t p (join Inner l r on) (inr (inl h)) = inr (inl (related t p l h))
related t p (join Inner l r on) (inr (inr h)) = inr (inr (related t p r h))
related t p (join LeftOuter l r on) (inl n) = inl (λ h. n (still_present (predicates t p r) on h))
related t p (join LeftOuter l r on) (inr (inl h)) = inr (inl (related t p l h))
related t p (join LeftOuter l r on) (inr (inr h)) = inr (inr (related t p r h))

related-from : (t : TableDecl) (p : Expr) (f : From) → FromLacksOn (restricted_from t p f) → FromLacksOn f
related-from t p no_source h = h
related-from t p (from s) h = related t p s h

marked : (t : TableDecl) (p : Expr) (s : Source) → HasTableMarks (restricted_source t p s) → HasTableMarks s
marked t p (of_table u only sample) h = h
marked t p (of_alias a u) h = h
marked t p (join Inner l r on) (inl h) = inl (marked t p l h)
marked t p (join Inner l r on) (inr h) = inr (marked t p r h)
marked t p (join LeftOuter l r on) (inl h) = inl (marked t p l h)
marked t p (join LeftOuter l r on) (inr h) = inr (marked t p r h)

marked-from : (t : TableDecl) (p : Expr) (f : From) → FromHasMarks (restricted_from t p f) → FromHasMarks f
marked-from t p no_source h = h
marked-from t p (from s) h = marked t p s h

-- what the rule on outer joins asks of a clause, by the leaves
abbrev LacksAmong : List Leaf → Clause → Type 0
LacksAmong ls c =
    IsSelected c.place
    × AnyOf (λ o. AnyOf (λ l. (l.origin ≡ o) × IsTrue (is_padded l)) ls
    × ¬ AnyPair (λ a b. (a ≡ o) × (b ≡ o)) (map (λ l. l.origin) ls)) (bare c.expr)

module _ (schema : Declarations) (d : Dialect) (t : TableDecl) (p : Expr) (predicate : IsPredicate t p) where
  -- a rule on each node of an expression, which AND does not break
  node-guard : (Q : View → Expr → Type 0) → ((v : View) (by : Logic) (a b : Expr) → ¬ Q v (joined by a b))
      → ((v : View) (o : Origin) → IsGood schema t v o → (e : Expr) → IsAimed t o e → ¬ Q v e)
      → Guarded schema t p (λ c. AnyOf (Q c.view) (nodes c.expr)) (λ v e. ¬ AnyOf (Q v) (nodes e))
  node-guard Q not_joined not_aimed = record {
    into = λ place at v e h n. n;
    out = λ place at v e n. n;
    leaf = λ v o g. none_of (Q v) (IsAimed t o) (not_aimed v o g) (nodes (aimed p o)) (aimed-nodes t o p predicate.own);
    both = λ v a b h k. split v a b h k;
  }
    where
      split : (v : View) (a b : Expr) → ¬ AnyOf (Q v) (nodes a) → ¬ AnyOf (Q v) (nodes b)
          → ¬ AnyOf (Q v) (nodes (joined And a b))
      split v a b h k (inl q) = not_joined v And a b q
      split v a b h k (inr i) = neither (Q v) (nodes a) (nodes b) h k i

  -- a rule that looks at other places alone
  other-guard : (P : Clause → Type 0) →
      ((place : Place) → IsGuardedPlace place → (v : View) (e : Expr)
      → ¬ P (record { place = place; view = v; expr = e }))
      → Guarded schema t p P (λ v e. Unit {0})
  other-guard P never = record {
    into = λ place at v e h n. tt;
    out = λ place at v e n. never place at v e;
    leaf = λ v o g. tt;
    both = λ v a b h k. tt;
  }

  fine-predicate : (o : Origin) → Fine (aimed p o)
  fine-predicate o = (
    well_typed (aimed-test p o (predicate-fit t p predicate).test),
    (aimed-test p o (predicate-fit t p predicate).test).1,
  )
    where
      no_misfit : list_any misfit (nodes (aimed p o)) ≡ true → ⊥
      no_misfit h =
          none_of (λ x. misfit x ≡ true) (IsAimed t o) (fitting-aimed t o) (nodes (aimed p o))
          (aimed-nodes t o p predicate.own)
          ((any-decides (λ x. misfit x ≡ true) misfit (λ x. (λ q. q, λ q. q)) (nodes (aimed p o))).0 h)

      well_typed : IsTest (aimed p o) → ¬ AnyOf IsIllTyped (nodes (aimed p o))
      well_typed test i = by (type_of (aimed p o)) test.1.1 ((ill_typed-decides (aimed p o)).1 i)
        where
          by : (ty : Option SqlType) → ty ≡ Some test.1.0 → (is_none ty || list_any misfit (nodes (aimed p o))) ≡ true
              → ⊥
          by None e h = some_none test.1.0 (sym e)
          by (Some u) e h = no_misfit h

  fine-guard : Guarded schema t p IsIllTypedClause (λ v e. Fine e)
  fine-guard = record {
    into = fine-into;
    out = fine-out;
    leaf = λ v o g. fine-predicate o;
    both = λ v a b h k. fine-both a b h k;
  }

  pub select-kept : (outer : View) (s : Select) → ((r : Rule) → ¬ SelectBreaks r schema d outer s) → (r : Rule)
      → ¬ SelectBreaks r schema d outer (guarded_select t p s)
  select-kept outer s h r = by r
    where
      known : Each (λ l. IsTable schema l.origin.table) (leaves_of s.source)
      known = known_tables schema (leaves_of s.source) (λ i. h R.UnknownName (inl i))

      k1 : ¬ AnyOf IsIllTypedClause (record { place = in_selection; view = own s; expr = s.selection }
          ∷ (ons_of s.source ++ (maybe_clause in_where (widest s.form s.source outer) s.where_by
          ++ (maybe_clause in_group_by (own s) s.group_by
          ++ (maybe_clause in_having (own s) s.having_by ++ order_clauses (own s) s.order)))))
      k1 = free_right IsIllTypedClause (distinct_clause (own s) s.distinctness) _ (λ i. h R.TypeMismatch (inl i))

      source : IsPlainFrom s.source
      source =
          from-plain s.source (free_left IsIllTypedClause (ons_of s.source) _ (λ i. k1 (inr i)))
          (λ i. h R.Ambiguous (in_widest (λ a b. a ≡ b) s.form s.source outer i))

      condition : IsBooleanMaybe s.where_by
      condition =
          where-plain (widest s.form s.source outer) s.where_by
          (free_left IsIllTypedClause (maybe_clause in_where (widest s.form s.source outer) s.where_by) _
          (free_right IsIllTypedClause (ons_of s.source) _ (λ i. k1 (inr i))))

      views : (Q : Origin → Origin → Type 0) → ¬ AnyPair Q (widest s.form s.source outer)
          → ¬ AnyPair Q (widest s.form (restricted_from t p s.source) outer)
      views Q n = subst (λ v. ¬ AnyPair Q v) (sym (widest-same t p s.form s.source outer)) n

      -- WHERE has no aggregate, and the predicates have none
      no_aggregate : (c : MaybeExpr) → ¬ HasAggregate c
          → ¬ AnyOf (λ x. AnyOf Counts (nodes x.expr)) (maybe_clause in_where (widest s.form s.source outer) c)
      no_aggregate no_expr n i = i
      no_aggregate (an_expr e) n (inl i) = n ((any-decides Counts is_aggregate (λ x. (λ q. q, λ q. q)) (nodes e)).1 i)
      no_aggregate (an_expr e) n (inr i) = i

      has_aggregate : (c : MaybeExpr) → HasAggregate c
          → AnyOf (λ x. AnyOf Counts (nodes x.expr)) (maybe_clause in_where (widest s.form s.source outer) c)
      has_aggregate no_expr a = a
      has_aggregate (an_expr e) a = inl ((any-decides Counts is_aggregate (λ x. (λ q. q, λ q. q)) (nodes e)).0 a)

      uncounted_where : ¬ HasAggregate (with_all (predicates_from t p s.source) s.where_by)
      uncounted_where a =
          guarded-maybe schema t p predicate.own (λ c. AnyOf Counts (nodes c.expr)) (λ v e. ¬ AnyOf Counts (nodes e))
          (node-guard (λ v. Counts) (λ v by a b q. false≢true q) (unaggregated-aimed schema t)) in_where tt
          (widest s.form s.source outer) (open_from t s.source) (where-good schema t s.form s.source outer known)
          s.where_by condition (no_aggregate s.where_by (λ x. h R.Grouping (inr (inl (inl x)))))
          (subst (λ ps. AnyOf (λ x. AnyOf Counts (nodes x.expr))
          (maybe_clause in_where (widest s.form s.source outer) (with_all ps s.where_by)))
          (predicates_from-aimed t p predicate.own s.source)
          (has_aggregate (with_all (predicates_from t p s.source) s.where_by) a))

      by : (q : Rule) → ¬ SelectBreaks q schema d outer (guarded_select t p s)
      by R.UnknownName (inl i) =
          h R.UnknownName (inl (subst (AnyOf (λ o. ¬ IsTable schema o.table)) (own-same t p s.source) i))
      by R.UnknownName (inr i) =
          guarded-clauses schema t p predicate.own (λ c. AnyOf (IsUnknownColumn schema) (nodes c.expr))
          (λ v e. ¬ AnyOf (IsUnknownColumn schema) (nodes e))
          (node-guard (λ v. IsUnknownColumn schema) (λ v by a b q. q)
          (known-aimed schema t)) outer s source condition known
          (λ j. h R.UnknownName (inr j)) i
      by R.Incompatible i = h R.Incompatible i
      by R.EmptyList (inl i) =
          guarded-clauses schema t p predicate.own IsEmptyList (λ v e. Unit {0})
          (other-guard IsEmptyList no_list) outer s source condition known (λ j. h R.EmptyList (inl j)) i
      by R.EmptyList (inr i) = h R.EmptyList (inr i)
      by R.NoRelation i = h R.NoRelation (related-from t p s.source i)
      by R.Ambiguous i = views _ (h R.Ambiguous) i
      by R.NotTogether i = views _ (h R.NotTogether) i
      by R.NameClash i = views _ (h R.NameClash) i
      by R.NotInScope i =
          guarded-clauses schema t p predicate.own (λ c. AnyOf (IsOutOfScope c.view) (nodes c.expr))
          (λ v e. ¬ AnyOf (IsOutOfScope v) (nodes e))
          (node-guard IsOutOfScope (λ v by a b q. q) (seen-aimed schema t)) outer s source condition known
          (h R.NotInScope) i
      by R.TypeMismatch (inl i) =
          guarded-clauses schema t p predicate.own IsIllTypedClause
          (λ v e. Fine e) fine-guard outer s source condition known
          (λ j. h R.TypeMismatch (inl j)) i
      by R.TypeMismatch (inr i) = h R.TypeMismatch (inr i)
      by R.NeedsNullable i =
          guarded-clauses schema t p predicate.own (LacksNullable s) (λ v e. Unit {0})
          (other-guard (LacksNullable s) (not_selected s)) outer s source condition known (h R.NeedsNullable)
          (subst (λ ls. AnyOf (LacksAmong ls) (clauses outer (guarded_select t p s))) (leaves-same t p s.source) i)
      by R.Grouping (inl i) =
          guarded-clauses schema t p predicate.own (λ c. AnyOf CountsAggregate (nodes c.expr))
          (λ v e. ¬ AnyOf CountsAggregate (nodes e))
          (node-guard (λ v. CountsAggregate) (λ v by a b q. q) (uncounted-aimed schema t)) outer s source condition known
          (λ j. h R.Grouping (inl j)) i
      by R.Grouping (inr (inl (inl a))) = uncounted_where a
      by R.Grouping (inr (inl (inr a))) = h R.Grouping (inr (inl (inr a)))
      by R.Grouping (inr (inr a)) = h R.Grouping (inr (inr a))
      by R.InvalidDistinctOrder i = h R.InvalidDistinctOrder i
      by R.Unsupported (inl (n, inl i)) = h R.Unsupported (inl (n, inl i))
      by R.Unsupported (inl (n, inr i)) = h R.Unsupported (inl (n, inr (marked-from t p s.source i)))
      by R.Unsupported (inr i) = h R.Unsupported (inr i)
      by R.TooManyBinds i = i
