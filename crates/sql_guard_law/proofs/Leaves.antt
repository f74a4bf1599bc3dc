-- Which leaf's row a predicate reads.
use Rattle.std.proofs.Common.{◌≡◌, Bool, true, false, ◌&&◌, ◌||◌, List, [], ◌∷◌, ◌++◌, map, refl, sym, ap, ap₂, ◌∙◌, subst, inl, inr, ◌⊎◌, arith, if◌then◌else◌}
use Rattle.std.proofs.lemmas.List.{map-append}
use Rattle.sql_schema.specs.Equality.{same_table}
use Rattle.sql_schema.specs.declared.declaration.TableDecl.{TableDecl}
use Rattle.sql_pass.specs.declared.value.Value.{Value}
use Rattle.sql_pass.specs.declared.value.Value.TheVariants as V
use Rattle.sql_leaf.specs.declared.table_source.JoinKind.{JoinKind}
use Rattle.sql_leaf.specs.declared.table_source.JoinKind.TheVariants.{Inner, LeftOuter}
use Rattle.sql_node.specs.Tree.{Origin, Expr, joined, MaybeExpr, no_expr, an_expr, Source, of_table, of_alias, join}
use Rattle.sql_leaf.specs.declared.operator.Logic.TheVariants.{And}
use Rattle.sql_origin.specs.Leaves.{Leaf, leaves, in_right_side}
use Rattle.sql_origin.specs.Origins.{a_table, an_alias, same_origin}
use Rattle.sql_schema.proofs.EqualityLaws.{exact-table}
use Rattle.sql_origin.proofs.OriginLaws.{same-origin_itself}
use Rattle.sql_rules.specs.Lists.{Each}
use Rattle.sql_rules.specs.Scope.{nodes}
use Rattle.sql_rows_meaning.specs.Answers.{SourceRows, Holds, rows_as, is_partial, first_value}
use Rattle.sql_rows_meaning.specs.Frames.{Database, Frame, row_of, nulls}
use Rattle.sql_guard_law.specs.Restricted.{predicates, predicate_of, with_all, open_leaves, if_same}
use Rattle.sql_guard_law.specs.Tenant.{IsOwn}
use Rattle.sql_rows_meaning.specs.Groups.{Group, one_row}
use Rattle.sql_rows_meaning.specs.Rows.{Row, NullPlaces}
use Rattle.sql_rows_meaning.specs.Values.{is_null, is_true, is_false, joined_value}
use Rattle.sql_rows_meaning.proofs.Facts.{or_true}
use Rattle.sql_rows_meaning.proofs.Lists.{Each-append, Each-front, Each-end, Each-weaken, IsPart-each, Joined-each}
use Rattle.sql_guard_law.proofs.Evaluate.{true_at, holds-true, true-holds, IsTest, aimed, aimed-eval, aimed-test, predicate-aimed}

abbrev pub names : Frame → List Origin
names f = map (λ entry. entry.0) f

abbrev pub is_among : Origin → List Origin → Bool
is_among o [] = false
is_among o (k ∷ ks) = if same_origin o k then true else is_among o ks

abbrev pub source_leaves : Source → List Origin
source_leaves (of_table t only sample) = a_table t ∷ []
source_leaves (of_alias a t) = an_alias a t ∷ []
source_leaves (join kind l r on) = source_leaves l ++ source_leaves r

pub row_of-left : (o : Origin) (x y : Frame) → is_among o (names x) ≡ true → row_of o (x ++ y) ≡ row_of o x
row_of-left o [] y h = absurd (grind arith)
row_of-left o (e ∷ x) y h = go (same_origin o e.0) h (row_of-left o x y)
  where
    go : (b : Bool) → (if b then true else is_among o (names x)) ≡ true
        → (is_among o (names x) ≡ true → row_of o (x ++ y) ≡ row_of o x)
        → (if b then e.1 else row_of o (x ++ y)) ≡ (if b then e.1 else row_of o x)
    go true k r = refl
    go false k r = r k

pub row_of-right : (o : Origin) (x y : Frame) → is_among o (names x) ≡ false → row_of o (x ++ y) ≡ row_of o y
row_of-right o [] y h = refl
row_of-right o (e ∷ x) y h = go (same_origin o e.0) h (row_of-right o x y)
  where
    go : (b : Bool) → (if b then true else is_among o (names x)) ≡ false
        → (is_among o (names x) ≡ false → row_of o (x ++ y) ≡ row_of o y)
        → (if b then e.1 else row_of o (x ++ y)) ≡ row_of o y
    go true k r = absurd (grind arith)
    go false k r = r k

-- ---- the rows of a source name its leaves

names-append : (x y : Frame) → names (x ++ y) ≡ names x ++ names y
names-append [] y = refl
names-append (e ∷ x) y = ap (λ ls. e.0 ∷ ls) (names-append x y)

names-nulls : (ls : List Leaf) → names (nulls ls) ≡ map (λ l. l.origin) ls
names-nulls [] = refl
names-nulls (l ∷ ls) = ap (λ os. l.origin ∷ os) (names-nulls ls)

right-origin : (kind : JoinKind) (l : Leaf) → (in_right_side kind l).origin ≡ l.origin
right-origin Inner l = refl
right-origin LeftOuter l = refl

right-origins : (kind : JoinKind) (ls : List Leaf) → map (λ l. l.origin) (map (in_right_side kind) ls)
    ≡ map (λ l. l.origin) ls
right-origins kind [] = refl
right-origins kind (l ∷ ls) = ap₂ ◌∷◌ (right-origin kind l) (right-origins kind ls)

pub leaves-source_leaves : (s : Source) → map (λ l. l.origin) (leaves s) ≡ source_leaves s
leaves-source_leaves (of_table t only sample) = refl
leaves-source_leaves (of_alias a t) = refl
leaves-source_leaves (join kind l r on) =
    map-append (λ x. x.origin) (leaves l) (map (in_right_side kind) (leaves r))
    ∙ ap₂ ◌++◌ (leaves-source_leaves l) (right-origins kind (leaves r) ∙ leaves-source_leaves r)

abbrev pub Named : Source → Frame → Type 0
Named s f = names f ≡ source_leaves s

pub padding-named : (s : Source) → Named s (nulls (leaves s))
padding-named s = names-nulls (leaves s) ∙ leaves-source_leaves s

pub pair-named : (a b : Source) (x y : Frame) → Named a x → Named b y → names (x ++ y) ≡ source_leaves a
    ++ source_leaves b
pair-named a b x y h k = names-append x y ∙ ap₂ ◌++◌ h k

leaf-named : (s : Source) (o : Origin) → source_leaves s ≡ o ∷ [] → (rows : List Row) → Each (Named s) (rows_as o rows)
leaf-named s o e [] = tt
leaf-named s o e (row ∷ rows) = (sym e, leaf-named s o e rows)

pub rows-named : (places : NullPlaces) (db : Database) (s : Source) (rows : List Frame)
    → SourceRows places s db rows → Each (Named s) rows
rows-named places db (of_table t only sample) rows g =
    IsPart-each (Named (of_table t only sample)) (is_partial only sample) _ rows g
    (leaf-named (of_table t only sample) (a_table t) refl (db t))
rows-named places db (of_alias a t) rows g =
    IsPart-each (Named (of_alias a t)) false _ rows g (leaf-named (of_alias a t) (an_alias a t) refl (db t))
rows-named places db (join kind a b on) rows g =
    Joined-each (Named a) (Named b) (Named (join kind a b on)) kind (nulls (leaves b)) g.1
    (λ x y h k. pair-named a b x y h k)
    (λ x outer h. pair-named a b x (nulls (leaves b)) h (padding-named b)) (rows-named places db b g.1 g.3) g.4
    (rows-named places db a g.0 g.2)

among-append_right : (o : Origin) (ls ms : List Origin) → is_among o ms ≡ true → is_among o (ls ++ ms) ≡ true
among-append_right o [] ms h = h
among-append_right o (k ∷ ls) ms h = go (same_origin o k) (among-append_right o ls ms h)
  where
    go : (b : Bool) → is_among o (ls ++ ms) ≡ true → (if b then true else is_among o (ls ++ ms)) ≡ true
    go true r = refl
    go false r = r

-- ---- the open leaves

if_same-each : (P : Origin → Type 0) (t u : TableDecl) (o : Origin) → (same_table t u ≡ true → P o)
    → Each P (if_same t u o)
if_same-each P t u o h = go (same_table t u) h
  where
    go : (b : Bool) → (b ≡ true → P o) → Each P (if b then o ∷ [] else [])
    go true k = (k refl, tt)
    go false k = tt

-- what holds of each leaf of a source holds of the open ones
pub Each-open : (P : Origin → Type 0) (t : TableDecl) (s : Source) → Each P (source_leaves s) → Each P (open_leaves t s)
Each-open P t (of_table u only sample) h = if_same-each P t u (a_table u) (λ e. h.0)
Each-open P t (of_alias a u) h = if_same-each P t u (an_alias a u) (λ e. h.0)
Each-open P t (join Inner a b on) h =
    Each-append P _ _ (Each-open P t a (Each-front P (source_leaves a) (source_leaves b) h))
    (Each-open P t b (Each-end P (source_leaves a) (source_leaves b) h))
Each-open P t (join LeftOuter a b on) h = Each-open P t a (Each-front P (source_leaves a) (source_leaves b) h)

pub open-table : (t : TableDecl) (s : Source) → Each (λ o. t ≡ o.table) (open_leaves t s)
open-table t (of_table u only sample) = if_same-each _ t u (a_table u) (λ e. exact-table t u e)
open-table t (of_alias a u) = if_same-each _ t u (an_alias a u) (λ e. exact-table t u e)
open-table t (join Inner a b on) = Each-append _ (open_leaves t a) (open_leaves t b) (open-table t a) (open-table t b)
open-table t (join LeftOuter a b on) = open-table t a

among-self : (ls : List Origin) → Each (λ o. is_among o ls ≡ true) ls
among-self [] = tt
among-self (l ∷ ls) = (
  rw (same-origin_itself l) refl,
  Each-weaken (λ k. is_among k ls ≡ true) (λ k. is_among k (l ∷ ls) ≡ true)
      (λ k h. among-append_right k (l ∷ []) ls h) ls (among-self ls),
)

pub open-among : (t : TableDecl) (s : Source) → Each (λ o. is_among o (source_leaves s) ≡ true) (open_leaves t s)
open-among t s = Each-open (λ o. is_among o (source_leaves s) ≡ true) t s (among-self (source_leaves s))

mapped : (t : TableDecl) (p : Expr) → Each (IsOwn t) (nodes p) → (os : List Origin) → Each (λ o. t ≡ o.table) os
    → map (predicate_of p) os ≡ map (λ o. aimed p o) os
mapped t p own [] h = refl
mapped t p own (o ∷ os) h = ap₂ ◌∷◌ (predicate-aimed t p own o h.0) (mapped t p own os h.1)

pub predicates-aimed : (t : TableDecl) (p : Expr) → Each (IsOwn t) (nodes p) → (s : Source) → predicates t p s
    ≡ map (λ o. aimed p o) (open_leaves t s)
predicates-aimed t p own s = mapped t p own (open_leaves t s) (open-table t s)

-- ---- whether the predicate is true at the row of each of some leaves

abbrev pub pass : Expr → List Origin → Frame → Bool
pass p [] f = true
pass p (o ∷ os) f = true_at (an_expr (aimed p o)) f && pass p os f

pub pass-append : (p : Expr) (ls ms : List Origin) (f : Frame) → pass p (ls ++ ms) f ≡ (pass p ls f && pass p ms f)
pass-append p [] ms f = refl
pass-append p (l ∷ ls) ms f = go (true_at (an_expr (aimed p l)) f) (pass-append p ls ms f)
  where
    go : (b : Bool) → pass p (ls ++ ms) f ≡ (pass p ls f && pass p ms f) → (b && pass p (ls ++ ms) f)
        ≡ ((b && pass p ls f) && pass p ms f)
    go true e = e
    go false e = refl

pass-same : (p : Expr) (ls : List Origin) (f f' : Frame) → Each (λ o. row_of o f ≡ row_of o f') ls → pass p ls f
    ≡ pass p ls f'
pass-same p [] f f' h = refl
pass-same p (l ∷ ls) f f' h =
    ap₂ ◌&&◌ (ap (λ vs. is_true (first_value vs)) (aimed-eval p l l f f' refl h.0)) (pass-same p ls f f' h.1)

pub pass-left : (p : Expr) (ls : List Origin) (x y : Frame) (ms : List Origin) → names x ≡ ms
    → Each (λ o. is_among o ms ≡ true) ls
    → pass p ls (x ++ y) ≡ pass p ls x
pass-left p ls x y ms e h =
    pass-same p ls (x ++ y) x
    (Each-weaken (λ o. is_among o ms ≡ true) (λ o. row_of o (x ++ y) ≡ row_of o x)
    (λ o k. row_of-left o x y (ap (is_among o) e ∙ k)) ls h)

pub pass-right : (p : Expr) (ls : List Origin) (x y : Frame) (ms : List Origin) → names x ≡ ms
    → Each (λ o. is_among o ms ≡ false) ls
    → pass p ls (x ++ y) ≡ pass p ls y
pass-right p ls x y ms e h =
    pass-same p ls (x ++ y) y
    (Each-weaken (λ o. is_among o ms ≡ false) (λ o. row_of o (x ++ y) ≡ row_of o y)
    (λ o k. row_of-right o x y (ap (is_among o) e ∙ k)) ls h)

-- ---- a condition AND predicates is true where it and they are

null-not_true : (x : Value) → is_null x ≡ true → is_true x ≡ false
null-not_true V.Null h = refl
null-not_true _ h = absurd (grind arith)

false-not_true : (x : Value) → is_false x ≡ true → is_true x ≡ false
false-not_true (V.Bool false) h = refl
false-not_true (V.Bool true) h = absurd (grind arith)
false-not_true _ h = absurd (grind arith)

and_false : (a : Bool) → (a && false) ≡ false
and_false true = refl
and_false false = refl

pub and_yes : (a : Bool) → (a && true) ≡ a
and_yes true = refl
and_yes false = refl

and_assoc : (a b c : Bool) → ((a && b) && c) ≡ (a && (b && c))
and_assoc true b c = refl
and_assoc false b c = refl

either-not_true : (x y : Value) (test : Value → Bool) → ((z : Value) → test z ≡ true → is_true z ≡ false)
    → (test x || test y) ≡ true
    → false ≡ (is_true x && is_true y)
either-not_true x y test no_truth h = go (or_true (test x) (test y) h)
  where
    go : (test x ≡ true) ⊎ (test y ≡ true) → false ≡ (is_true x && is_true y)
    go (inl e) = rw (no_truth x e) refl
    go (inr e) = rw (no_truth y e) (sym (and_false (is_true x)))

and_value_true : (x y : Value) (f c : Bool) → (is_false x || is_false y) ≡ f → (is_null x || is_null y) ≡ c
    → is_true (joined_value And x y) ≡ (is_true x && is_true y)
unfolding joined_value
and_value_true x y true c d e = rw d (either-not_true x y is_false false-not_true d)
and_value_true x y false true d e = rw (d, e) (either-not_true x y is_null null-not_true e)
and_value_true x y false false d e = rw (d, e) refl

and_value-true : (x y : Value) → is_true (joined_value And x y) ≡ (is_true x && is_true y)
and_value-true x y = and_value_true x y _ _ refl refl

-- a predicate of the table's own columns
pub record IsFit (t : TableDecl) (p : Expr) : Type 0 where
  pub test : IsTest p
  pub own : Each (IsOwn t) (nodes p)

module _ (places : NullPlaces) (p : Expr) (test : IsTest p) (db : Database) (rows : Group) where
  -- the condition with the predicates at some leaves is true where it is, and they are
  with_all-of : (os : List Origin) (c : MaybeExpr) (b : Bool)
      → Holds places (with_all (map (λ o. aimed p o) os) c) db rows b
      → (a : Bool) × Holds places c db rows a × (b ≡ (a && pass p os (one_row rows)))
  with_all-of [] c b h = (b, h, sym (and_yes b))
  with_all-of (o ∷ os) no_expr b h =
      let (a, held, is) = with_all-of os (an_expr (aimed p o)) b h in (
        true,
        refl,
        is ∙ ap (λ x. x && pass p os (one_row rows))
            (holds-true places (an_expr (aimed p o)) db rows a (aimed-test p o test) held),
      )
  with_all-of (o ∷ os) (an_expr e) b h =
      let (a, (v, (x, y, gx, gy, v_is), a_is), is) = with_all-of os (an_expr (joined And e (aimed p o))) b h in (
        is_true x,
        (x, gx, refl),
        is ∙ (ap (λ z. z && pass p os (one_row rows))
            (a_is ∙ (ap (λ vs. is_true (first_value vs)) v_is ∙ (and_value-true x y ∙ ap (λ z. is_true x && z)
            (holds-true places (an_expr (aimed p o)) db rows (is_true y) (aimed-test p o test) (y, gy, refl)))))
            ∙ and_assoc (is_true x) (true_at (an_expr (aimed p o)) (one_row rows)) (pass p os (one_row rows))),
      )

  with_all-to : (os : List Origin) (c : MaybeExpr) (a : Bool) → Holds places c db rows a
      → Holds places (with_all (map (λ o. aimed p o) os) c) db rows (a && pass p os (one_row rows))
  with_all-to [] c a h = subst (λ b. Holds places c db rows b) (sym (and_yes a)) h
  with_all-to (o ∷ os) no_expr a h =
      subst (λ b. Holds places (with_all (map (λ k. aimed p k) os) (an_expr (aimed p o))) db rows b)
      (sym (ap (λ z. z && pass p (o ∷ os) (one_row rows)) h))
      (with_all-to os (an_expr (aimed p o)) (true_at (an_expr (aimed p o)) (one_row rows))
      (true-holds places (an_expr (aimed p o)) db rows (aimed-test p o test)))
  with_all-to (o ∷ os) (an_expr e) a (x, gx, a_is) =
      let (y, gy, t_is) = true-holds places (an_expr (aimed p o)) db rows (aimed-test p o test) in
      subst (λ b. Holds places (with_all (map (λ k. aimed p k) os) (an_expr (joined And e (aimed p o)))) db rows b)
      (ap (λ z. z && pass p os (one_row rows))
      (and_value-true x y ∙ ap₂ ◌&&◌ (sym a_is) (sym t_is))
      ∙ and_assoc a (true_at (an_expr (aimed p o)) (one_row rows)) (pass p os (one_row rows)))
      (with_all-to os (an_expr (joined And e (aimed p o))) (is_true (joined_value And x y))
      (joined_value And x y, (x, y, gx, gy, refl), refl))

  pub added-of : (t : TableDecl) → Each (IsOwn t) (nodes p) → (s : Source) (c : MaybeExpr) (b : Bool)
      → Holds places (with_all (predicates t p s) c) db rows b
      → (a : Bool) × Holds places c db rows a × (b ≡ (a && pass p (open_leaves t s) (one_row rows)))
  added-of t own s c b h =
      with_all-of (open_leaves t s) c b
      (subst (λ ps. Holds places (with_all ps c) db rows b) (predicates-aimed t p own s) h)

  pub added-to : (t : TableDecl) → Each (IsOwn t) (nodes p) → (s : Source) (c : MaybeExpr) (a : Bool)
      → Holds places c db rows a
      → Holds places (with_all (predicates t p s) c) db rows (a && pass p (open_leaves t s) (one_row rows))
  added-to t own s c a h =
      subst (λ ps. Holds places (with_all ps c) db rows (a && pass p (open_leaves t s) (one_row rows)))
      (sym (predicates-aimed t p own s)) (with_all-to (open_leaves t s) c a h)
