-- A statement that breaks no rule has conditions of Bool, and names no leaf twice.
use Rattle.std.proofs.Common.{◌≡◌, Bool, true, false, List, [], ◌∷◌, ◌++◌, Option, Some, None, refl, sym, ap, subst, ◌∙◌, inl, inr, if◌then◌else◌}
use Rattle.sql_schema.specs.Declarations.{Declarations}
use Rattle.sql_schema.specs.declared.declaration.TableDecl.{TableDecl}
use Rattle.sql_schema.specs.declared.types.Base.TheVariants as base
use Rattle.sql_schema.specs.declared.types.SqlType.{SqlType}
use Rattle.sql_dialect.specs.declared.backend.Dialect.{Dialect}
use Rattle.sql_node.specs.Tree.{Origin, Expr, MaybeExpr, no_expr, an_expr, Source, of_table, of_alias, join, From, no_source, from, Statement}
use Rattle.sql_schema.specs.Refusals.{same_base}
use Rattle.sql_origin.specs.Origins.{same_origin}
use Rattle.sql_origin.proofs.OriginLaws.{exact-origin}
use Rattle.sql_rules.specs.Lists.{AnyOf, AnyPair, Each}
use Rattle.sql_rules.specs.Rules.{IsBool, IsIllTypedClause}
use Rattle.sql_rules.specs.Scope.{View, parts, origins, origins_of, ons, ons_of, in_on, in_where, maybe_clause, nodes}
use Rattle.sql_rules.specs.Types.{is_bool, type_of}
use Rattle.sql_rules.specs.declared.rule.Rule.TheVariants as R
use Rattle.sql_rules.proofs.Lists.{any_left, any_right}
use Rattle.sql_guard_law.specs.Tenant.{BreaksAtMostTooManyBinds, IsPredicate}
use Rattle.sql_rows_meaning.proofs.Kept.{Clean, not_counted, pair_left}
use Rattle.sql_guard_law.proofs.Evaluate.{is-flat, own-free}
use Rattle.sql_guard_law.proofs.Leaves.{IsFit, is_among, source_leaves, leaves-source_leaves}
use Rattle.sql_guard_law.proofs.Filters.{Each-always}

abbrev pub IsBoolean : Expr → Type 0
IsBoolean e = (t : SqlType) × (type_of e ≡ Some t) × (is_bool t ≡ true)

abbrev pub IsBooleanMaybe : MaybeExpr → Type 0
IsBooleanMaybe no_expr = Unit {0}
IsBooleanMaybe (an_expr e) = IsBoolean e

-- what the laws ask of a source: ONs of Bool, and no leaf twice
abbrev pub IsPlainSource : Source → Type 0
IsPlainSource (of_table t only sample) = Unit {0}
IsPlainSource (of_alias a t) = Unit {0}
IsPlainSource (join kind l r on) =
    IsPlainSource l × IsPlainSource r × IsBooleanMaybe on
    × Each (λ o. is_among o (source_leaves l) ≡ false) (source_leaves r)

abbrev pub IsPlainFrom : From → Type 0
IsPlainFrom no_source = Unit {0}
IsPlainFrom (from s) = IsPlainSource s

-- ---- one clause

pub free_left : {X : Type 0} (P : X → Type 0) (xs ys : List X) → ¬ AnyOf P (xs ++ ys) → ¬ AnyOf P xs
free_left P xs ys h i = h (any_left P xs ys i)

pub free_right : {X : Type 0} (P : X → Type 0) (xs ys : List X) → ¬ AnyOf P (xs ++ ys) → ¬ AnyOf P ys
free_right P xs ys h i = h (any_right P xs ys i)

pub bool-of : (o : Option SqlType) → ¬ ¬ IsBool o → (t : SqlType) × (o ≡ Some t) × (is_bool t ≡ true)
bool-of None n = absurd (n (λ b. b))
bool-of (Some t) n = go (is_bool t) refl
  where
    go : (b : Bool) → is_bool t ≡ b → (u : SqlType) × (Some t ≡ Some u) × (is_bool u ≡ true)
    go true e = (t, refl, e)
    go false e = absurd (n (λ q. no (sym e ∙ ap (λ x. same_base x base.Bool) q)))
      where
        no : false ≡ true → ⊥
        no p = cc

pub predicate-fit : (t : TableDecl) (p : Expr) → IsPredicate t p → IsFit t p
predicate-fit t p h =
    record { test = (is-flat p (own-free t (nodes p) h.own), bool-of (type_of p) (λ n. n h.is_bool)); own = h.own }

on-plain : (v : View) (on : MaybeExpr) → ¬ AnyOf IsIllTypedClause (maybe_clause in_on v on) → IsBooleanMaybe on
on-plain v no_expr k = tt
on-plain v (an_expr e) k = bool-of (type_of e) (λ n. k (inl (inr (tt, n))))

pub where-plain : (v : View) (w : MaybeExpr) → ¬ AnyOf IsIllTypedClause (maybe_clause in_where v w) → IsBooleanMaybe w
where-plain v no_expr k = tt
where-plain v (an_expr e) k = bool-of (type_of e) (λ n. k (inl (inr (tt, n))))

-- ---- sources

pair_right : {X : Type 0} (R : X → X → Type 0) (xs ys : List X) → AnyPair R ys → AnyPair R (xs ++ ys)
pair_right R [] ys h = h
pair_right R (x ∷ xs) ys h = inr (pair_right R xs ys h)

one_more : (x : Origin) (xs ys : List Origin) → ¬ AnyOf (λ b. x ≡ b) ys → Each (λ o. is_among o xs ≡ false) ys
    → Each (λ o. is_among o (x ∷ xs) ≡ false) ys
one_more x xs [] n h = tt
one_more x xs (o ∷ ys) n h = (go (same_origin o x) refl, one_more x xs ys (λ i. n (inr i)) h.1)
  where
    go : (b : Bool) → same_origin o x ≡ b → (if b then true else is_among o xs) ≡ false
    go true e = absurd (n (inl (sym (exact-origin o x e))))
    go false e = h.0

across : (xs ys : List Origin) → ¬ AnyPair (λ a b. a ≡ b) (xs ++ ys) → Each (λ o. is_among o xs ≡ false) ys
across [] ys n = Each-always _ (λ o. refl) ys
across (x ∷ xs) ys n = one_more x xs ys (λ i. n (inl (any_right (λ b. x ≡ b) xs ys i))) (across xs ys (λ i. n (inr i)))

source-plain : (s : Source) → ¬ AnyOf IsIllTypedClause (ons s) → ¬ AnyPair (λ a b. a ≡ b) (source_leaves s)
    → IsPlainSource s
source-plain (of_table t only sample) k n = tt
source-plain (of_alias a t) k n = tt
source-plain (join kind l r on) k n =
    let rest = ons r ++ maybe_clause in_on (origins l ++ origins r) on in (
      source-plain l (free_left IsIllTypedClause (ons l) rest k)
          (λ p. n (pair_left (λ a b. a ≡ b) (source_leaves l) (source_leaves r) p)),
      source-plain r (free_left IsIllTypedClause (ons r) _ (free_right IsIllTypedClause (ons l) rest k))
          (λ p. n (pair_right (λ a b. a ≡ b) (source_leaves l) (source_leaves r) p)),
      on-plain (origins l ++ origins r) on
          (free_right IsIllTypedClause (ons r) _ (free_right IsIllTypedClause (ons l) rest k)),
      across (source_leaves l) (source_leaves r) n,
    )

pub from-plain : (f : From) → ¬ AnyOf IsIllTypedClause (ons_of f) → ¬ AnyPair (λ a b. a ≡ b) (origins_of f)
    → IsPlainFrom f
from-plain no_source k n = tt
from-plain (from s) k n = source-plain s k (subst (λ os. ¬ AnyPair (λ a b. a ≡ b) os) (leaves-source_leaves s) n)

-- ---- statements

-- TooManyBinds is of the whole, so no statement inside breaks it
pub at_most-clean : (schema : Declarations) (d : Dialect) (s : Statement) → BreaksAtMostTooManyBinds schema d s
    → Clean schema d (parts [] s)
at_most-clean schema d s h R.UnknownName = h R.UnknownName (λ e. cc)
at_most-clean schema d s h R.Incompatible = h R.Incompatible (λ e. cc)
at_most-clean schema d s h R.EmptyList = h R.EmptyList (λ e. cc)
at_most-clean schema d s h R.NoRelation = h R.NoRelation (λ e. cc)
at_most-clean schema d s h R.Ambiguous = h R.Ambiguous (λ e. cc)
at_most-clean schema d s h R.NotTogether = h R.NotTogether (λ e. cc)
at_most-clean schema d s h R.NameClash = h R.NameClash (λ e. cc)
at_most-clean schema d s h R.NotInScope = h R.NotInScope (λ e. cc)
at_most-clean schema d s h R.TypeMismatch = h R.TypeMismatch (λ e. cc)
at_most-clean schema d s h R.NeedsNullable = h R.NeedsNullable (λ e. cc)
at_most-clean schema d s h R.Grouping = h R.Grouping (λ e. cc)
at_most-clean schema d s h R.InvalidDistinctOrder = h R.InvalidDistinctOrder (λ e. cc)
at_most-clean schema d s h R.Unsupported = h R.Unsupported (λ e. cc)
at_most-clean schema d s h R.TooManyBinds = not_counted schema d (parts [] s)
