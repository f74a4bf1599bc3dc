-- What the rules say of the clauses of a restricted statement.
use Rattle.std.proofs.Common.{◌≡◌, true, not, List, [], ◌∷◌, ◌++◌, map, refl, sym, ap, ap₂, subst, ◌∙◌, inl, inr}
use Rattle.std.proofs.lemmas.Bool.{false≢true}
use Rattle.sql_schema.specs.Declarations.{Declarations}
use Rattle.sql_schema.specs.declared.declaration.TableDecl.{TableDecl}
use Rattle.sql_leaf.specs.declared.table_source.JoinKind.TheVariants.{Inner, LeftOuter}
use Rattle.sql_leaf.specs.declared.operator.Logic.TheVariants.{And}
use Rattle.sql_node.specs.Tree.{Origin, Form, unboxed, boxed, Expr, column, value, list, count_star, nullable, unary, count, compared, joined, exists, single, among_values, among_rows, Exprs, no_exprs, more_exprs, MaybeExpr, no_expr, an_expr, Source, of_table, of_alias, join, From, no_source, from}
use Rattle.sql_origin.specs.Leaves.{leaves, in_right_side}
use Rattle.sql_rules.specs.Lists.{AnyOf, Each}
use Rattle.sql_rules.specs.Rules.{IsTable, IsColumn, IsSeen, IsUnknownColumn, IsOutOfScope, CountsAggregate}
use Rattle.sql_rules.specs.Scope.{View, Part, Select, Clause, Place, in_selection, in_on, in_where, in_group_by, in_having, clauses, clauses_by, own, origins, origins_of, leaves_of, ons, ons_of, maybe_clause, distinct_clause, order_clauses, nodes, nodes_of, widest, in_expr, in_exprs, in_maybe}
use Rattle.sql_rules.specs.Types.{fits}
use Rattle.sql_rules.specs.Verdicts.{is_aggregate}
use Rattle.sql_rules.proofs.Lists.{any_left, any_right}
use Rattle.sql_rules.specs.inside.Misfits.{misfit}
use Rattle.sql_rules.proofs.Loops.{any_split}
use Rattle.sql_guard_law.specs.Restricted.{predicates, predicates_from, with_all, open_leaves, restricted_source, restricted_from}
use Rattle.sql_guard_law.specs.Tenant.{IsBeyond, IsOwn}
use Rattle.sql_rows_meaning.proofs.Lists.{Each-append, Each-front, Each-end, Each-map, Each-weaken}
use Rattle.sql_guard_law.proofs.Evaluate.{IsFlat, AreFlat, aimed, aimed_all, aimed-flat}
use Rattle.sql_guard_law.proofs.Leaves.{source_leaves, leaves-source_leaves, Each-open, open-table, predicates-aimed}
use Rattle.sql_guard_law.proofs.Plain.{free_left, free_right, IsBoolean, IsBooleanMaybe, IsPlainSource, IsPlainFrom}

-- ---- lists

pub neither : {X : Type 0} (P : X → Type 0) (xs ys : List X) → ¬ AnyOf P xs → ¬ AnyOf P ys → ¬ AnyOf P (xs ++ ys)
neither P xs ys h k i = elim (any_split P xs ys i) [ inl a ↦ h a | inr b ↦ k b ]

pub none_of : {X : Type 0} (P Q : X → Type 0) → ((x : X) → Q x → ¬ P x) → (xs : List X) → Each Q xs → ¬ AnyOf P xs
none_of P Q f [] h i = i
none_of P Q f (x ∷ xs) h (inl p) = f x h.0 p
none_of P Q f (x ∷ xs) h (inr i) = none_of P Q f xs h.1 i

-- ---- nothing stands inside flat expressions

mutual
  pub no_inside : (P : Part → Type 0) (v : View) (e : Expr) → IsFlat e → ¬ AnyOf P (in_expr v e)
  no_inside P v (column o c) h i = i
  no_inside P v (value t x) h i = i
  no_inside P v (list es) h i = none_inside P v es h i
  no_inside P v count_star h i = i
  no_inside P v (nullable e) h i = no_inside P v e h i
  no_inside P v (unary n e) h i = no_inside P v e h i
  no_inside P v (count e) h i = absurd h
  no_inside P v (compared by a b) h i =
      neither P (in_expr v a) (in_expr v b) (no_inside P v a h.0) (no_inside P v b h.1) i
  no_inside P v (joined by a b) h i =
      neither P (in_expr v a) (in_expr v b) (no_inside P v a h.0) (no_inside P v b h.1) i
  no_inside P v (exists q) h i = absurd h
  no_inside P v (single q) h i = absurd h
  no_inside P v (among_values n e t xs) h i = no_inside P v e h i
  no_inside P v (among_rows n e q) h i = absurd h

  none_inside : (P : Part → Type 0) (v : View) (es : Exprs) → AreFlat es → ¬ AnyOf P (in_exprs v es)
  none_inside P v no_exprs h i = i
  none_inside P v (more_exprs e es) h i =
      neither P (in_expr v e) (in_exprs v es) (no_inside P v e h.0) (none_inside P v es h.1) i

-- nor inside predicates
pub no_inside_added : (P : Part → Type 0) (v : View) (p : Expr) → IsFlat p → (os : List Origin) (c : MaybeExpr)
    → ¬ AnyOf P (in_maybe v c) → ¬ AnyOf P (in_maybe v (with_all (map (λ o. aimed p o) os) c))
no_inside_added P v p flat [] c h = h
no_inside_added P v p flat (o ∷ os) no_expr h =
    no_inside_added P v p flat os (an_expr (aimed p o)) (no_inside P v (aimed p o) (aimed-flat p o flat))
no_inside_added P v p flat (o ∷ os) (an_expr e) h =
    no_inside_added P v p flat os (an_expr (joined And e (aimed p o)))
    (neither P (in_expr v e) (in_expr v (aimed p o)) h (no_inside P v (aimed p o) (aimed-flat p o flat)))

aggregate-beyond : (e : Expr) → ¬ IsBeyond e → is_aggregate e ≡ true → ⊥
aggregate-beyond count_star n h = n tt
aggregate-beyond (count e) n h = n tt
aggregate-beyond (column o c) n h = false≢true h
aggregate-beyond (value t x) n h = false≢true h
aggregate-beyond (list es) n h = false≢true h
aggregate-beyond (nullable e) n h = false≢true h
aggregate-beyond (unary m e) n h = false≢true h
aggregate-beyond (compared by a b) n h = false≢true h
aggregate-beyond (joined by a b) n h = false≢true h
aggregate-beyond (exists q) n h = false≢true h
aggregate-beyond (single q) n h = false≢true h
aggregate-beyond (among_values m e t xs) n h = false≢true h
aggregate-beyond (among_rows m e q) n h = false≢true h

-- ---- the predicate at a leaf

-- each column is that leaf's, and one of the table's, and each value fits
abbrev pub IsAimed : TableDecl → Origin → Expr → Type 0
IsAimed t o (column k c) = (k ≡ o) × IsColumn t c
IsAimed t o (value ty x) = fits ty x ≡ true
IsAimed t o e = ¬ IsBeyond e

mutual
  pub aimed-nodes : (t : TableDecl) (o : Origin) (e : Expr) → Each (IsOwn t) (nodes e)
      → Each (IsAimed t o) (nodes (aimed e o))
  aimed-nodes t o (column k c) h = ((refl, h.0.1), tt)
  aimed-nodes t o (value ty x) h = h
  aimed-nodes t o (list es) h = (λ b. b, aimed_all-nodes t o es h.1)
  aimed-nodes t o count_star h = h
  aimed-nodes t o (nullable e) h = (λ b. b, aimed-nodes t o e h.1)
  aimed-nodes t o (unary n e) h = (λ b. b, aimed-nodes t o e h.1)
  aimed-nodes t o (count e) h = absurd (h.0 tt)
  aimed-nodes t o (compared by a b) h = (
    λ x. x,
    Each-append _ (nodes (aimed a o)) (nodes (aimed b o))
        (aimed-nodes t o a (Each-front _ (nodes a) (nodes b) h.1))
        (aimed-nodes t o b (Each-end _ (nodes a) (nodes b) h.1)),
  )
  aimed-nodes t o (joined by a b) h = (
    λ x. x,
    Each-append _ (nodes (aimed a o)) (nodes (aimed b o))
        (aimed-nodes t o a (Each-front _ (nodes a) (nodes b) h.1))
        (aimed-nodes t o b (Each-end _ (nodes a) (nodes b) h.1)),
  )
  aimed-nodes t o (exists q) h = absurd (h.0 tt)
  aimed-nodes t o (single q) h = absurd (h.0 tt)
  aimed-nodes t o (among_values n e ty xs) h = (λ b. b, aimed-nodes t o e h.1)
  aimed-nodes t o (among_rows n e q) h = absurd (h.0 tt)

  aimed_all-nodes : (t : TableDecl) (o : Origin) (es : Exprs) → Each (IsOwn t) (nodes_of es)
      → Each (IsAimed t o) (nodes_of (aimed_all es o))
  aimed_all-nodes t o no_exprs h = tt
  aimed_all-nodes t o (more_exprs e es) h =
      Each-append _ (nodes (aimed e o)) (nodes_of (aimed_all es o))
      (aimed-nodes t o e (Each-front _ (nodes e) (nodes_of es) h))
      (aimed_all-nodes t o es (Each-end _ (nodes e) (nodes_of es) h))

-- a leaf of the table that the view sees
abbrev pub IsGood : Declarations → TableDecl → View → Origin → Type 0
IsGood schema t v o = IsTable schema o.table × (t ≡ o.table) × IsSeen v o

plain-aimed : (schema : Declarations) (t : TableDecl) (v : View) (o : Origin) → IsGood schema t v o → (e : Expr)
    → IsAimed t o e → ¬ IsBeyond e
plain-aimed schema t v o g (column k c) h n = n
plain-aimed schema t v o g (value ty x) h n = n
plain-aimed schema t v o g (list es) h n = n
plain-aimed schema t v o g (nullable e) h n = n
plain-aimed schema t v o g (unary m e) h n = n
plain-aimed schema t v o g (compared by a b) h n = n
plain-aimed schema t v o g (joined by a b) h n = n
plain-aimed schema t v o g (among_values m e ty xs) h n = n
plain-aimed schema t v o g count_star h n = h n
plain-aimed schema t v o g (count e) h n = h n
plain-aimed schema t v o g (exists q) h n = h n
plain-aimed schema t v o g (single q) h n = h n
plain-aimed schema t v o g (among_rows m e q) h n = h n

pub unaggregated-aimed : (schema : Declarations) (t : TableDecl) (v : View) (o : Origin) → IsGood schema t v o
    → (e : Expr)
    → IsAimed t o e → ¬ (is_aggregate e ≡ true)
unaggregated-aimed schema t v o g e h = aggregate-beyond e (plain-aimed schema t v o g e h)

pub known-aimed : (schema : Declarations) (t : TableDecl) (v : View) (o : Origin) → IsGood schema t v o → (e : Expr)
    → IsAimed t o e → ¬ IsUnknownColumn schema e
known-aimed schema t v o g (column k c) h n =
    n (subst (λ x. IsTable schema x.table × IsColumn x.table c) (sym h.0) (g.0, subst (λ u. IsColumn u c) g.1 h.1))
known-aimed schema t v o g (value ty x) h n = n
known-aimed schema t v o g (list es) h n = n
known-aimed schema t v o g count_star h n = n
known-aimed schema t v o g (nullable e) h n = n
known-aimed schema t v o g (unary m e) h n = n
known-aimed schema t v o g (count e) h n = n
known-aimed schema t v o g (compared by a b) h n = n
known-aimed schema t v o g (joined by a b) h n = n
known-aimed schema t v o g (exists q) h n = n
known-aimed schema t v o g (single q) h n = n
known-aimed schema t v o g (among_values m e ty xs) h n = n
known-aimed schema t v o g (among_rows m e q) h n = n

pub seen-aimed : (schema : Declarations) (t : TableDecl) (v : View) (o : Origin) → IsGood schema t v o → (e : Expr)
    → IsAimed t o e → ¬ IsOutOfScope v e
seen-aimed schema t v o g (column k c) h n = n (subst (IsSeen v) (sym h.0) g.2)
seen-aimed schema t v o g (value ty x) h n = n
seen-aimed schema t v o g (list es) h n = n
seen-aimed schema t v o g count_star h n = n
seen-aimed schema t v o g (nullable e) h n = n
seen-aimed schema t v o g (unary m e) h n = n
seen-aimed schema t v o g (count e) h n = n
seen-aimed schema t v o g (compared by a b) h n = n
seen-aimed schema t v o g (joined by a b) h n = n
seen-aimed schema t v o g (exists q) h n = n
seen-aimed schema t v o g (single q) h n = n
seen-aimed schema t v o g (among_values m e ty xs) h n = n
seen-aimed schema t v o g (among_rows m e q) h n = n

pub uncounted-aimed : (schema : Declarations) (t : TableDecl) (v : View) (o : Origin) → IsGood schema t v o → (e : Expr)
    → IsAimed t o e → ¬ CountsAggregate e
uncounted-aimed schema t v o g (count e) h n = h tt
uncounted-aimed schema t v o g (column k c) h n = n
uncounted-aimed schema t v o g (value ty x) h n = n
uncounted-aimed schema t v o g (list es) h n = n
uncounted-aimed schema t v o g count_star h n = n
uncounted-aimed schema t v o g (nullable e) h n = n
uncounted-aimed schema t v o g (unary m e) h n = n
uncounted-aimed schema t v o g (compared by a b) h n = n
uncounted-aimed schema t v o g (joined by a b) h n = n
uncounted-aimed schema t v o g (exists q) h n = n
uncounted-aimed schema t v o g (single q) h n = n
uncounted-aimed schema t v o g (among_values m e ty xs) h n = n
uncounted-aimed schema t v o g (among_rows m e q) h n = n

pub fitting-aimed : (t : TableDecl) (o : Origin) (e : Expr) → IsAimed t o e → misfit e ≡ true → ⊥
fitting-aimed t o (value ty x) h n = false≢true (sym (ap not h) ∙ n)
fitting-aimed t o (column k c) h n = false≢true n
fitting-aimed t o (list es) h n = false≢true n
fitting-aimed t o count_star h n = false≢true n
fitting-aimed t o (nullable e) h n = false≢true n
fitting-aimed t o (unary m e) h n = false≢true n
fitting-aimed t o (count e) h n = false≢true n
fitting-aimed t o (compared by a b) h n = false≢true n
fitting-aimed t o (joined by a b) h n = false≢true n
fitting-aimed t o (exists q) h n = false≢true n
fitting-aimed t o (single q) h n = false≢true n
fitting-aimed t o (among_values m e ty xs) h n = false≢true n
fitting-aimed t o (among_rows m e q) h n = false≢true n

-- ---- rules on clauses

-- a place where predicates are put
abbrev pub IsGuardedPlace : Place → Type 0
IsGuardedPlace in_on = Unit {0}
IsGuardedPlace in_where = Unit {0}
IsGuardedPlace _ = ⊥

-- What breaks a rule at a clause, and what an expression is there that breaks none: the predicate at a leaf is so, and
-- AND keeps it.
pub record Guarded (schema : Declarations) (t : TableDecl) (p : Expr) (P : Clause → Type 0)
    (Inv : View → Expr → Type 0) : Type 0 where
  pub into : (place : Place) → IsGuardedPlace place → (v : View) (e : Expr) → IsBoolean e
      → ¬ P (record { place = place; view = v; expr = e }) → Inv v e
  pub out : (place : Place) → IsGuardedPlace place → (v : View) (e : Expr) → Inv v e
      → ¬ P (record { place = place; view = v; expr = e })
  pub leaf : (v : View) (o : Origin) → IsGood schema t v o → Inv v (aimed p o)
  pub both : (v : View) (a b : Expr) → Inv v a → Inv v b → Inv v (joined And a b)

each-seen : (xs : List Origin) → Each (λ o. AnyOf (λ l. l ≡ o) xs) xs
each-seen [] = tt
each-seen (x ∷ xs) = (
  inl refl,
  Each-weaken (λ o. AnyOf (λ l. l ≡ o) xs) (λ o. AnyOf (λ l. l ≡ o) (x ∷ xs)) (λ o h. inr h) xs
      (each-seen xs),
)

three : {X : Type 0} (P Q S : X → Type 0) (xs : List X) → Each P xs → Each Q xs → Each S xs
    → Each (λ x. P x × Q x × S x) xs
three P Q S [] h k l = tt
three P Q S (x ∷ xs) h k l = ((h.0, k.0, l.0), three P Q S xs h.1 k.1 l.1)

open-good : (schema : Declarations) (t : TableDecl) (s : Source) (v : View)
    → Each (λ o. IsTable schema o.table) (source_leaves s)
    → Each (IsSeen v) (source_leaves s) → Each (IsGood schema t v) (open_leaves t s)
open-good schema t s v known seen =
    three (λ o. IsTable schema o.table) (λ o. t ≡ o.table) (IsSeen v) (open_leaves t s)
    (Each-open (λ o. IsTable schema o.table) t s known) (open-table t s) (Each-open (IsSeen v) t s seen)

own-seen : (s : Source) → Each (IsSeen (origins s)) (source_leaves s)
own-seen s =
    subst (λ os. Each (IsSeen os) (source_leaves s)) (sym (leaves-source_leaves s)) (each-seen (source_leaves s))

-- the leaves of the restricted source are the same
restricted-leaves : (t : TableDecl) (p : Expr) (s : Source) → leaves (restricted_source t p s) ≡ leaves s
restricted-leaves t p (of_table u only sample) = refl
restricted-leaves t p (of_alias a u) = refl
restricted-leaves t p (join kind l r on) =
    ap₂ (λ xs ys. xs ++ map (in_right_side kind) ys) (restricted-leaves t p l) (restricted-leaves t p r)

origins-same : (t : TableDecl) (p : Expr) (s : Source) → origins (restricted_source t p s) ≡ origins s
origins-same t p s = ap (map (λ l. l.origin)) (restricted-leaves t p s)

pub leaves-same : (t : TableDecl) (p : Expr) (f : From) → leaves_of (restricted_from t p f) ≡ leaves_of f
leaves-same t p no_source = refl
leaves-same t p (from s) = restricted-leaves t p s

pub own-same : (t : TableDecl) (p : Expr) (f : From) → origins_of (restricted_from t p f) ≡ origins_of f
own-same t p f = ap (map (λ l. l.origin)) (leaves-same t p f)

pub widest-same : (t : TableDecl) (p : Expr) (form : Form) (f : From) (outer : View)
    → widest form (restricted_from t p f) outer ≡ widest form f outer
widest-same t p (unboxed l) no_source outer = refl
widest-same t p (unboxed l) (from s) outer = ap (λ os. os ++ outer) (origins-same t p s)
widest-same t p (boxed d n) f outer = own-same t p f

abbrev pub guarded_select : TableDecl → Expr → Select → Select
guarded_select t p s =
    record s { source = restricted_from t p s.source; where_by = with_all (predicates_from t p s.source) s.where_by }

abbrev pub open_from : TableDecl → From → List Origin
open_from t no_source = []
open_from t (from s) = open_leaves t s

pub predicates_from-aimed : (t : TableDecl) (p : Expr) → Each (IsOwn t) (nodes p) → (f : From) → predicates_from t p f
    ≡ map (λ o. aimed p o) (open_from t f)
predicates_from-aimed t p own no_source = refl
predicates_from-aimed t p own (from s) = predicates-aimed t p own s

source-known : (schema : Declarations) (s : Source) → Each (λ x. IsTable schema x.origin.table) (leaves s)
    → Each (λ o. IsTable schema o.table) (source_leaves s)
source-known schema s k =
    subst (Each (λ o. IsTable schema o.table)) (leaves-source_leaves s)
    (Each-map (λ x. IsTable schema x.origin.table) (λ o. IsTable schema o.table) (λ x. x.origin) (λ x h. h)
    (leaves s) k)

pub where-good : (schema : Declarations) (t : TableDecl) (form : Form) (f : From) (outer : View)
    → Each (λ l. IsTable schema l.origin.table) (leaves_of f)
    → Each (IsGood schema t (widest form f outer)) (open_from t f)
where-good schema t form no_source outer known = tt
where-good schema t (unboxed l) (from s) outer known =
    open-good schema t s (origins s ++ outer) (source-known schema s known)
    (Each-weaken (IsSeen (origins s)) (IsSeen (origins s ++ outer)) (λ o h. any_left (λ x. x ≡ o) (origins s) outer h)
    (source_leaves s) (own-seen s))
where-good schema t (boxed d n) (from s) outer known =
    open-good schema t s (origins s) (source-known schema s known) (own-seen s)

module _ (schema : Declarations) (t : TableDecl) (p : Expr) (own' : Each (IsOwn t) (nodes p)) (P : Clause → Type 0)
    (Inv : View → Expr → Type 0) (guard : Guarded schema t p P Inv) where
  abbrev MaybeInv : View → MaybeExpr → Type 0
  MaybeInv v no_expr = Unit {0}
  MaybeInv v (an_expr e) = Inv v e

  all-inv : (v : View) (os : List Origin) → Each (IsGood schema t v) os → (c : MaybeExpr) → MaybeInv v c
      → MaybeInv v (with_all (map (λ o. aimed p o) os) c)
  all-inv v [] g c h = h
  all-inv v (o ∷ os) g no_expr h = all-inv v os g.1 (an_expr (aimed p o)) (guard.leaf v o g.0)
  all-inv v (o ∷ os) g (an_expr e) h =
      all-inv v os g.1 (an_expr (joined And e (aimed p o))) (guard.both v e (aimed p o) h (guard.leaf v o g.0))

  to-inv : (place : Place) → IsGuardedPlace place → (v : View) (c : MaybeExpr) → IsBooleanMaybe c
      → ¬ AnyOf P (maybe_clause place v c) → MaybeInv v c
  to-inv place at v no_expr h k = tt
  to-inv place at v (an_expr e) h k = guard.into place at v e h (λ q. k (inl q))

  of-inv : (place : Place) → IsGuardedPlace place → (v : View) (c : MaybeExpr) → MaybeInv v c
      → ¬ AnyOf P (maybe_clause place v c)
  of-inv place at v no_expr h i = i
  of-inv place at v (an_expr e) h (inl q) = guard.out place at v e h q
  of-inv place at v (an_expr e) h (inr i) = i

  pub guarded-maybe : (place : Place) → IsGuardedPlace place → (v : View) (os : List Origin) → Each (IsGood schema t v) os
      → (c : MaybeExpr)
      → IsBooleanMaybe c → ¬ AnyOf P (maybe_clause place v c)
      → ¬ AnyOf P (maybe_clause place v (with_all (map (λ o. aimed p o) os) c))
  guarded-maybe place at v os g c h k =
      of-inv place at v (with_all (map (λ o. aimed p o) os) c) (all-inv v os g c (to-inv place at v c h k))

  guarded-source : (s : Source) → IsPlainSource s → Each (λ o. IsTable schema o.table) (source_leaves s)
      → ¬ AnyOf P (ons s)
      → ¬ AnyOf P (ons (restricted_source t p s))
  guarded-source (of_table u only sample) h known k = k
  guarded-source (of_alias a u) h known k = k
  guarded-source (join Inner l r on) h known k =
      let rest = ons r ++ maybe_clause in_on (origins l ++ origins r) on in
      let k1 = free_right P (ons l) rest k in
      let same = ap₂ ◌++◌ (origins-same t p l) (origins-same t p r) in
      let on' = maybe_clause in_on (origins (restricted_source t p l) ++ origins (restricted_source t p r)) on in
      neither P (ons (restricted_source t p l)) (ons (restricted_source t p r) ++ on')
      (guarded-source l h.0 (Each-front (λ o. IsTable schema o.table) (source_leaves l) (source_leaves r) known)
      (free_left P (ons l) rest k))
      (neither P (ons (restricted_source t p r)) on'
      (guarded-source r h.1 (Each-end (λ o. IsTable schema o.table) (source_leaves l) (source_leaves r) known)
      (free_left P (ons r) (maybe_clause in_on (origins l ++ origins r) on) k1))
      (subst (λ v. ¬ AnyOf P (maybe_clause in_on v on)) (sym same)
      (free_right P (ons r) (maybe_clause in_on (origins l ++ origins r) on) k1)))
  guarded-source (join LeftOuter l r on) h known k =
      let rest = ons r ++ maybe_clause in_on (origins l ++ origins r) on in
      let k1 = free_right P (ons l) rest k in
      let same = ap₂ ◌++◌ (origins-same t p l) (origins-same t p r) in
      let known_r = Each-end (λ o. IsTable schema o.table) (source_leaves l) (source_leaves r) known in
      let good = open-good schema t r (origins l ++ origins r) known_r
      (Each-weaken (IsSeen (origins r)) (IsSeen (origins l ++ origins r))
      (λ o x. any_right (λ y. y ≡ o) (origins l) (origins r) x) (source_leaves r) (own-seen r)) in
      let on' = maybe_clause in_on (origins (restricted_source t p l) ++ origins (restricted_source t p r))
      (with_all (predicates t p r) on) in
      neither P (ons (restricted_source t p l)) (ons (restricted_source t p r) ++ on')
      (guarded-source l h.0 (Each-front (λ o. IsTable schema o.table) (source_leaves l) (source_leaves r) known)
      (free_left P (ons l) rest k))
      (neither P (ons (restricted_source t p r)) on'
      (guarded-source r h.1 known_r (free_left P (ons r) (maybe_clause in_on (origins l ++ origins r) on) k1))
      (subst (λ v. ¬ AnyOf P (maybe_clause in_on v (with_all (predicates t p r) on))) (sym same)
      (subst (λ ps. ¬ AnyOf P (maybe_clause in_on (origins l ++ origins r) (with_all ps on)))
      (sym (predicates-aimed t p own' r))
      (guarded-maybe in_on tt (origins l ++ origins r) (open_leaves t r) good on h.2
      (free_right P (ons r) (maybe_clause in_on (origins l ++ origins r) on) k1)))))

  guarded-from : (f : From) → IsPlainFrom f → Each (λ l. IsTable schema l.origin.table) (leaves_of f)
      → ¬ AnyOf P (ons_of f)
      → ¬ AnyOf P (ons_of (restricted_from t p f))
  guarded-from no_source h known k = k
  guarded-from (from s) h known k = guarded-source s h (source-known schema s known) k

  pub guarded-clauses : (outer : View) (s : Select) → IsPlainFrom s.source → IsBooleanMaybe s.where_by
      → Each (λ l. IsTable schema l.origin.table) (leaves_of s.source) → ¬ AnyOf P (clauses outer s)
      → ¬ AnyOf P (clauses outer (guarded_select t p s))
  guarded-clauses outer s source condition known k =
      subst (λ v. ¬ AnyOf P (clauses_by v (widest s.form (restricted_from t p s.source) outer) (guarded_select t p s)))
      (sym (own-same t p s.source))
      (subst (λ x. ¬ AnyOf P (clauses_by (own s) x (guarded_select t p s)))
      (sym (widest-same t p s.form s.source outer)) base)
    where
      k1 : ¬ AnyOf P (record { place = in_selection; view = own s; expr = s.selection }
          ∷ (ons_of s.source ++ (maybe_clause in_where (widest s.form s.source outer) s.where_by
          ++ (maybe_clause in_group_by (own s) s.group_by
          ++ (maybe_clause in_having (own s) s.having_by ++ order_clauses (own s) s.order)))))
      k1 = free_right P (distinct_clause (own s) s.distinctness) _ k

      k2 : ¬ AnyOf P (maybe_clause in_where (widest s.form s.source outer) s.where_by
          ++ (maybe_clause in_group_by (own s) s.group_by
          ++ (maybe_clause in_having (own s) s.having_by ++ order_clauses (own s) s.order)))
      k2 = free_right P (ons_of s.source) _ (λ i. k1 (inr i))

      where' : ¬ AnyOf P (maybe_clause in_where (widest s.form s.source outer)
          (with_all (predicates_from t p s.source) s.where_by))
      where' =
          subst (λ ps. ¬ AnyOf P (maybe_clause in_where (widest s.form s.source outer) (with_all ps s.where_by)))
          (sym (predicates_from-aimed t p own' s.source))
          (guarded-maybe in_where tt (widest s.form s.source outer) (open_from t s.source)
          (where-good schema t s.form s.source outer known) s.where_by condition
          (free_left P (maybe_clause in_where (widest s.form s.source outer) s.where_by) _ k2))

      rest : ¬ AnyOf P (record { place = in_selection; view = own s; expr = s.selection }
          ∷ (ons_of (restricted_from t p s.source)
          ++ (maybe_clause in_where (widest s.form s.source outer) (with_all (predicates_from t p s.source) s.where_by)
          ++ (maybe_clause in_group_by (own s) s.group_by
          ++ (maybe_clause in_having (own s) s.having_by ++ order_clauses (own s) s.order)))))
      rest (inl q) = k1 (inl q)
      rest (inr i) =
          neither P (ons_of (restricted_from t p s.source)) _
          (guarded-from s.source source known (free_left P (ons_of s.source) _ (λ j. k1 (inr j))))
          (neither P (maybe_clause in_where (widest s.form s.source outer)
          (with_all (predicates_from t p s.source) s.where_by)) _ where'
          (free_right P (maybe_clause in_where (widest s.form s.source outer) s.where_by) _ k2)) i

      base : ¬ AnyOf P (clauses_by (own s) (widest s.form s.source outer)
          (record s {
            source = restricted_from t p s.source;
            where_by = with_all
                (predicates_from t p s.source) s.where_by;
          }))
      base =
          neither P (distinct_clause (own s) s.distinctness) _
          (free_left P (distinct_clause (own s) s.distinctness) _ k) rest
