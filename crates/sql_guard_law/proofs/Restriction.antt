-- A statement without subselects is guarded by restricting it alone.
use Rattle.std.proofs.Common.{◌≡◌, List, [], ◌∷◌, ◌++◌, map, refl, sym, ap, ap₂, subst, inl, inr}
use Rattle.sql_schema.specs.Declarations.{Declarations}
use Rattle.sql_schema.specs.declared.declaration.TableDecl.{TableDecl}
use Rattle.sql_dialect.specs.declared.backend.Dialect.{Dialect}
use Rattle.sql_leaf.specs.declared.operator.Logic.TheVariants.{And}
use Rattle.sql_leaf.specs.declared.table_source.JoinKind.TheVariants.{Inner, LeftOuter}
use Rattle.sql_node.specs.Tree.{Origin, Expr, column, value, list, count_star, nullable, unary, count, compared, joined, exists, single, among_values, among_rows, Exprs, no_exprs, more_exprs, Items, no_items, more_items, MaybeExpr, no_expr, an_expr, Source, of_table, of_alias, join, From, no_source, from, Distinct, every, distinct, distinct_on, Order, no_order, order_by, Statement, select, combination}
use Rattle.sql_rules.specs.Lists.{AnyOf}
use Rattle.sql_rules.specs.Scope.{View, Part, a_select, a_combination, Clause, Place, in_selection, parts, origins, origins_of, ons, ons_of, in_on, in_where, in_group_by, in_having, nodes, nodes_of, widest, maybe_clause, distinct_clause, item_clauses, order_clauses, clauses}
use Rattle.sql_rules.proofs.Lists.{any_left, any_right}
use Rattle.sql_rules.proofs.Loops.{any_each}
use Rattle.sql_guard_law.specs.Guarded.{guarded_expr, guarded_exprs, guarded_items, guarded_maybe, guarded_source, guarded_from, guarded_distinct, guarded_order, guarded}
use Rattle.sql_guard_law.specs.Restricted.{predicates, predicates_from, with_all, restricted_source, restricted_from, restricted}
use Rattle.sql_guard_law.specs.Tenant.{AnswersAsCut, BreaksAtMostTooManyBinds, IsBeyond, IsBlindToOthers, IsOutOfKind, IsPredicate, IsSubselect, HoldsSubselect}
use Rattle.sql_guard_law.proofs.Evaluate.{IsFlat, AreFlat, aimed, aimed-flat}
use Rattle.sql_guard_law.proofs.Exactness.{guard-exact}
use Rattle.sql_guard_law.proofs.GuardedRules.{guard-kept}
use Rattle.sql_guard_law.proofs.Leaves.{IsFit, predicates-aimed}
use Rattle.sql_guard_law.proofs.Plain.{free_left, free_right}
use Rattle.sql_guard_law.proofs.RestrictedClauses.{open_from, predicates_from-aimed}

-- ---- expressions without subselects

abbrev mutual
  IsAlone : Expr → Type 0
  IsAlone (column o c) = Unit {0}
  IsAlone (value t x) = Unit {0}
  IsAlone (list es) = AreAlone es
  IsAlone count_star = Unit {0}
  IsAlone (nullable e) = IsAlone e
  IsAlone (unary n e) = IsAlone e
  IsAlone (count e) = IsAlone e
  IsAlone (compared by a b) = IsAlone a × IsAlone b
  IsAlone (joined by a b) = IsAlone a × IsAlone b
  IsAlone (exists q) = ⊥
  IsAlone (single q) = ⊥
  IsAlone (among_values n e t xs) = IsAlone e
  IsAlone (among_rows n e q) = ⊥

  AreAlone : Exprs → Type 0
  AreAlone no_exprs = Unit {0}
  AreAlone (more_exprs e es) = IsAlone e × AreAlone es

abbrev IsAloneMaybe : MaybeExpr → Type 0
IsAloneMaybe no_expr = Unit {0}
IsAloneMaybe (an_expr e) = IsAlone e

abbrev IsAloneSource : Source → Type 0
IsAloneSource (of_table t only sample) = Unit {0}
IsAloneSource (of_alias a t) = Unit {0}
IsAloneSource (join kind l r on) = IsAloneSource l × IsAloneSource r × IsAloneMaybe on

abbrev IsAloneFrom : From → Type 0
IsAloneFrom no_source = Unit {0}
IsAloneFrom (from s) = IsAloneSource s

abbrev IsAloneKey : Distinct → Type 0
IsAloneKey every = Unit {0}
IsAloneKey distinct = Unit {0}
IsAloneKey (distinct_on e) = IsAlone e

abbrev AreAloneItems : Items → Type 0
AreAloneItems no_items = Unit {0}
AreAloneItems (more_items e by is) = IsAlone e × AreAloneItems is

abbrev IsAloneOrder : Order → Type 0
IsAloneOrder no_order = Unit {0}
IsAloneOrder (order_by is) = AreAloneItems is

abbrev pub HasNoSubselect : Statement → Type 0
HasNoSubselect (select default e f u w o rows g h form marks) =
    IsAlone e × IsAloneFrom f × IsAloneKey u × IsAloneMaybe w × IsAloneOrder o × IsAloneMaybe g × IsAloneMaybe h
HasNoSubselect (combination by all a b o rows) = HasNoSubselect a × HasNoSubselect b

mutual
  is-alone : (e : Expr) → ¬ AnyOf IsSubselect (nodes e) → IsAlone e
  is-alone (column o c) h = tt
  is-alone (value t x) h = tt
  is-alone (list es) h = are-alone es (λ i. h (inr i))
  is-alone count_star h = tt
  is-alone (nullable e) h = is-alone e (λ i. h (inr i))
  is-alone (unary n e) h = is-alone e (λ i. h (inr i))
  is-alone (count e) h = is-alone e (λ i. h (inr i))
  is-alone (compared by a b) h = (
    is-alone a (λ i. h (inr (any_left IsSubselect (nodes a) (nodes b) i))),
    is-alone b (λ i. h (inr (any_right IsSubselect (nodes a) (nodes b) i))),
  )
  is-alone (joined by a b) h = (
    is-alone a (λ i. h (inr (any_left IsSubselect (nodes a) (nodes b) i))),
    is-alone b (λ i. h (inr (any_right IsSubselect (nodes a) (nodes b) i))),
  )
  is-alone (exists q) h = h (inl tt)
  is-alone (single q) h = h (inl tt)
  is-alone (among_values n e t xs) h = is-alone e (λ i. h (inr i))
  is-alone (among_rows n e q) h = h (inl tt)

  are-alone : (es : Exprs) → ¬ AnyOf IsSubselect (nodes_of es) → AreAlone es
  are-alone no_exprs h = tt
  are-alone (more_exprs e es) h = (
    is-alone e (λ i. h (any_left IsSubselect (nodes e) (nodes_of es) i)),
    are-alone es (λ i. h (any_right IsSubselect (nodes e) (nodes_of es) i)),
  )

abbrev Holds : Clause → Type 0
Holds c = AnyOf IsSubselect (nodes c.expr)

maybe-alone : (place : Place) (v : View) (c : MaybeExpr) → ¬ AnyOf Holds (maybe_clause place v c) → IsAloneMaybe c
maybe-alone place v no_expr n = tt
maybe-alone place v (an_expr e) n = is-alone e (λ i. n (inl i))

source-alone : (s : Source) → ¬ AnyOf Holds (ons s) → IsAloneSource s
source-alone (of_table t only sample) n = tt
source-alone (of_alias a t) n = tt
source-alone (join kind l r on) n =
    let here = maybe_clause in_on (origins l ++ origins r) on in
    let after = free_right Holds (ons l) (ons r ++ here) n in (
      source-alone l (free_left Holds (ons l) (ons r ++ here) n),
      source-alone r (free_left Holds (ons r) here after),
      maybe-alone in_on (origins l ++ origins r) on (free_right Holds (ons r) here after),
    )

from-alone : (f : From) → ¬ AnyOf Holds (ons_of f) → IsAloneFrom f
from-alone no_source n = tt
from-alone (from s) n = source-alone s n

key-alone : (v : View) (u : Distinct) → ¬ AnyOf Holds (distinct_clause v u) → IsAloneKey u
key-alone v every n = tt
key-alone v distinct n = tt
key-alone v (distinct_on e) n = is-alone e (λ i. n (inl i))

items-alone : (v : View) (is : Items) → ¬ AnyOf Holds (item_clauses v is) → AreAloneItems is
items-alone v no_items n = tt
items-alone v (more_items e by is) n = (is-alone e (λ i. n (inl i)), items-alone v is (λ i. n (inr i)))

order-alone : (v : View) (o : Order) → ¬ AnyOf Holds (order_clauses v o) → IsAloneOrder o
order-alone v no_order n = tt
order-alone v (order_by is) n = items-alone v is n

pub no-subselect : (v : View) (s : Statement) → ¬ AnyOf HoldsSubselect (parts v s) → HasNoSubselect s
no-subselect v (select default e f u w o rows g h form marks) n =
    let own = origins_of f in
    let wide = widest form f v in
    let n0 : ¬ AnyOf Holds
    (distinct_clause own u ++ (record { place = in_selection; view = own; expr = e } ∷ (ons_of f
    ++ (maybe_clause in_where wide w ++ (maybe_clause in_group_by own g ++ (maybe_clause in_having own h
    ++ order_clauses own o)))))) = λ i. n (inl i) in
    let n1 = free_right Holds (distinct_clause own u) _ n0 in
    let n2 = free_right Holds (ons_of f) _ (λ i. n1 (inr i)) in
    let n3 = free_right Holds (maybe_clause in_where wide w) _ n2 in
    let n4 = free_right Holds (maybe_clause in_group_by own g) _ n3 in (
      is-alone e (λ i. n1 (inl i)),
      from-alone f (free_left Holds (ons_of f) _ (λ i. n1 (inr i))),
      key-alone own u (free_left Holds (distinct_clause own u) _ n0),
      maybe-alone in_where wide w (free_left Holds (maybe_clause in_where wide w) _ n2),
      order-alone own o (free_right Holds (maybe_clause in_having own h) (order_clauses own o) n4),
      maybe-alone in_group_by own g (free_left Holds (maybe_clause in_group_by own g) _ n3),
      maybe-alone in_having own h (free_left Holds (maybe_clause in_having own h) (order_clauses own o) n4),
    )
no-subselect v (combination by all a b o rows) n = (
  no-subselect v a (free_left HoldsSubselect (parts v a) (parts v b) (λ i. n (inr i))),
  no-subselect v b (free_right HoldsSubselect (parts v a) (parts v b) (λ i. n (inr i))),
)

-- ---- nothing inside them is guarded

module _ (t : TableDecl) (p : Expr) where
  mutual
    expr-stays : (e : Expr) → IsAlone e → guarded_expr t p e ≡ e
    expr-stays (column o c) h = refl
    expr-stays (value ty x) h = refl
    expr-stays (list es) h = ap list (exprs-stay es h)
    expr-stays count_star h = refl
    expr-stays (nullable e) h = ap nullable (expr-stays e h)
    expr-stays (unary u e) h = ap (unary u) (expr-stays e h)
    expr-stays (count e) h = ap count (expr-stays e h)
    expr-stays (compared by a b) h = ap₂ (compared by) (expr-stays a h.0) (expr-stays b h.1)
    expr-stays (joined by a b) h = ap₂ (joined by) (expr-stays a h.0) (expr-stays b h.1)
    expr-stays (exists q) h = absurd h
    expr-stays (single q) h = absurd h
    expr-stays (among_values n e ty xs) h = ap (λ x. among_values n x ty xs) (expr-stays e h)
    expr-stays (among_rows n e q) h = absurd h

    exprs-stay : (es : Exprs) → AreAlone es → guarded_exprs t p es ≡ es
    exprs-stay no_exprs h = refl
    exprs-stay (more_exprs e es) h = ap₂ more_exprs (expr-stays e h.0) (exprs-stay es h.1)

  maybe-stays : (c : MaybeExpr) → IsAloneMaybe c → guarded_maybe t p c ≡ c
  maybe-stays no_expr h = refl
  maybe-stays (an_expr e) h = ap an_expr (expr-stays e h)

  items-stay : (is : Items) → AreAloneItems is → guarded_items t p is ≡ is
  items-stay no_items h = refl
  items-stay (more_items e by is) h = ap₂ (λ x l. more_items x by l) (expr-stays e h.0) (items-stay is h.1)

  order-stays : (o : Order) → IsAloneOrder o → guarded_order t p o ≡ o
  order-stays no_order h = refl
  order-stays (order_by is) h = ap order_by (items-stay is h)

  key-stays : (u : Distinct) → IsAloneKey u → guarded_distinct t p u ≡ u
  key-stays every h = refl
  key-stays distinct h = refl
  key-stays (distinct_on e) h = ap distinct_on (expr-stays e h)

  source-stays : (s : Source) → IsAloneSource s → guarded_source t p s ≡ restricted_source t p s
  source-stays (of_table u only sample) h = refl
  source-stays (of_alias a u) h = refl
  source-stays (join Inner l r on) h = λ i.
      join Inner (source-stays l h.0 i) (source-stays r h.1 i) (maybe-stays on h.2 i)
  source-stays (join LeftOuter l r on) h = λ i.
      join LeftOuter (source-stays l h.0 i) (source-stays r h.1 i) (with_all (predicates t p r) (maybe-stays on h.2 i))

  from-stays : (f : From) → IsAloneFrom f → guarded_from t p f ≡ restricted_from t p f
  from-stays no_source h = refl
  from-stays (from s) h = ap from (source-stays s h)

  pub guarded-restricted : (s : Statement) → HasNoSubselect s → guarded t p s ≡ restricted t p s
  guarded-restricted (select default e f u w o rows g h form marks) k = λ i.
      select default (expr-stays e k.0 i) (from-stays f k.1 i) (key-stays u k.2 i)
      (with_all (predicates_from t p f) (maybe-stays w k.3 i)) (order-stays o k.4 i) rows (maybe-stays g k.5 i)
      (maybe-stays h k.6 i) form marks
  guarded-restricted (combination by all a b o rows) k =
      ap₂ (λ l r. combination by all l r o rows) (guarded-restricted a k.0) (guarded-restricted b k.1)

-- ---- a restricted statement has none either

mutual
  flat-alone : (e : Expr) → IsFlat e → IsAlone e
  flat-alone (column o c) h = tt
  flat-alone (value t x) h = tt
  flat-alone (list es) h = all_flat-alone es h
  flat-alone count_star h = tt
  flat-alone (nullable e) h = flat-alone e h
  flat-alone (unary n e) h = flat-alone e h
  flat-alone (count e) h = absurd h
  flat-alone (compared by a b) h = (flat-alone a h.0, flat-alone b h.1)
  flat-alone (joined by a b) h = (flat-alone a h.0, flat-alone b h.1)
  flat-alone (exists q) h = h
  flat-alone (single q) h = h
  flat-alone (among_values n e t xs) h = flat-alone e h
  flat-alone (among_rows n e q) h = h

  all_flat-alone : (es : Exprs) → AreFlat es → AreAlone es
  all_flat-alone no_exprs h = tt
  all_flat-alone (more_exprs e es) h = (flat-alone e h.0, all_flat-alone es h.1)

module _ (t : TableDecl) (p : Expr) (fit : IsFit t p) where
  added-alone : (os : List Origin) (c : MaybeExpr) → IsAloneMaybe c
      → IsAloneMaybe (with_all (map (λ o. aimed p o) os) c)
  added-alone [] c h = h
  added-alone (o ∷ os) no_expr h =
      added-alone os (an_expr (aimed p o)) (flat-alone (aimed p o) (aimed-flat p o fit.test.0))
  added-alone (o ∷ os) (an_expr e) h =
      added-alone os (an_expr (joined And e (aimed p o))) (h, flat-alone (aimed p o) (aimed-flat p o fit.test.0))

  source-restricted : (s : Source) → IsAloneSource s → IsAloneSource (restricted_source t p s)
  source-restricted (of_table u only sample) h = h
  source-restricted (of_alias a u) h = h
  source-restricted (join Inner l r on) h = (source-restricted l h.0, source-restricted r h.1, h.2)
  source-restricted (join LeftOuter l r on) h = (
    source-restricted l h.0,
    source-restricted r h.1,
    subst (λ ps. IsAloneMaybe (with_all ps on)) (sym (predicates-aimed t p fit.own r)) (added-alone _ on h.2),
  )

  from-restricted : (f : From) → IsAloneFrom f → IsAloneFrom (restricted_from t p f)
  from-restricted no_source h = h
  from-restricted (from s) h = source-restricted s h

  pub restricted-alone : (s : Statement) → HasNoSubselect s → HasNoSubselect (restricted t p s)
  restricted-alone (select default e f u w o rows g h form marks) k = (
    k.0,
    from-restricted f k.1,
    k.2,
    subst (λ ps. IsAloneMaybe (with_all ps w)) (sym (predicates_from-aimed t p fit.own f))
        (added-alone (open_from t f) w k.3),
    k.4,
    k.5,
    k.6,
  )
  restricted-alone (combination by all a b o rows) k = (restricted-alone a k.0, restricted-alone b k.1)

-- ---- the laws

subselect-beyond : (e : Expr) → IsSubselect e → IsBeyond e
subselect-beyond (exists q) h = tt
subselect-beyond (single q) h = tt
subselect-beyond (among_rows n e q) h = tt
subselect-beyond (column o c) h = absurd h
subselect-beyond (value t x) h = absurd h
subselect-beyond (list es) h = absurd h
subselect-beyond count_star h = absurd h
subselect-beyond (nullable e) h = absurd h
subselect-beyond (unary n e) h = absurd h
subselect-beyond (count e) h = absurd h
subselect-beyond (compared by a b) h = absurd h
subselect-beyond (joined by a b) h = absurd h
subselect-beyond (among_values n e t xs) h = absurd h

part-beyond : (x : Part) → HoldsSubselect x → IsOutOfKind x
part-beyond (a_select outer s) h =
    inl (any_each Holds (λ c. AnyOf IsBeyond (nodes c.expr))
    (λ c i. any_each IsSubselect IsBeyond subselect-beyond (nodes c.expr) i) (clauses outer s) h)
part-beyond (a_combination c) h = absurd h

kind-alone : (s : Statement) → ¬ AnyOf IsOutOfKind (parts [] s) → HasNoSubselect s
kind-alone s k =
    no-subselect [] s (λ i. k (any_each HoldsSubselect IsOutOfKind part-beyond (parts [] s) i))

pub restriction : (schema : Declarations) (d : Dialect) (s : Statement) (t : TableDecl) (p : Expr)
    → BreaksAtMostTooManyBinds schema d s → ¬ AnyOf IsOutOfKind (parts [] s) → IsPredicate t p
    → AnswersAsCut (restricted t p s) s t p
restriction schema d s t p h k predicate =
    subst (λ r. AnswersAsCut r s t p) (guarded-restricted t p s (kind-alone s k)) (guard-exact schema d s t p h predicate)

pub restriction-kept : (schema : Declarations) (d : Dialect) (s : Statement) (t : TableDecl) (p : Expr)
    → BreaksAtMostTooManyBinds schema d s → ¬ AnyOf IsOutOfKind (parts [] s) → IsPredicate t p
    → BreaksAtMostTooManyBinds schema d (restricted t p s)
restriction-kept schema d s t p h k predicate =
    subst (BreaksAtMostTooManyBinds schema d) (guarded-restricted t p s (kind-alone s k))
    (guard-kept schema d s t p h predicate)

pub guard-blind : (schema : Declarations) (d : Dialect) (s : Statement) (t : TableDecl) (p : Expr)
    → BreaksAtMostTooManyBinds schema d s → IsPredicate t p → IsBlindToOthers (guarded t p s) t p
guard-blind schema d s t p h predicate places db db' cut c c' answer =
    let one = guard-exact schema d s t p h predicate places db cut c answer in
    let other = guard-exact schema d s t p h predicate places db' cut c' answer in
    (λ a. other.1 (one.0 a), λ a. one.1 (other.0 a))
