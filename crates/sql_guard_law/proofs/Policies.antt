-- A statement guarded by policies answers what the statement answers over the database cut by all of them.
use Rattle.std.proofs.Common.{◌≡◌, ◌≢◌, ◌↔◌, Bool, true, false, ◌&&◌, List, [], ◌∷◌, refl, sym, ap, ap₂, subst, ◌∙◌, if◌then◌else◌, filter}
use Rattle.sql_schema.specs.Declarations.{Declarations}
use Rattle.sql_schema.specs.declared.declaration.TableDecl.{TableDecl}
use Rattle.sql_dialect.specs.declared.backend.Dialect.{Dialect}
use Rattle.sql_node.specs.Tree.{Expr, MaybeExpr, no_expr, an_expr, Statement}
use Rattle.sql_schema.specs.Equality.{same_table}
use Rattle.sql_origin.specs.Origins.{a_table}
use Rattle.sql_origin.proofs.OriginLaws.{table-decides}
use Rattle.sql_rules.specs.Lists.{AnyOf, Each}
use Rattle.sql_rules.specs.Scope.{parts}
use Rattle.sql_rows_meaning.specs.Answers.{Answers, Holds}
use Rattle.sql_rows_meaning.specs.Frames.{Database, Frame}
use Rattle.sql_rows_meaning.specs.Groups.{alone}
use Rattle.sql_rows_meaning.specs.Rows.{Row, NullPlaces, Filtered}
use Rattle.sql_rows_meaning.proofs.Existence.{answers-some}
use Rattle.sql_rows_meaning.proofs.Functional.{Filtered-is, is-Filtered}
use Rattle.sql_guard_law.specs.Policies.{Policy, IsMaybePredicate, IsPolicy, restricted_maybe, restricted_all, guarded_maybe_by, guarded_all, predicates_on, AllHold, IsCutBy, AnswersAsCutBy, LacksPolicy, SeesOnlyBy}
use Rattle.sql_guard_law.specs.Tenant.{BreaksAtMostTooManyBinds, IsCut, IsPredicate, HoldsSubselect}
use Rattle.sql_guard_law.proofs.Agreement.{answers-agree}
use Rattle.sql_guard_law.proofs.Evaluate.{IsPlainCondition, true_at, holds-true, true-holds}
use Rattle.sql_guard_law.proofs.Exactness.{guard-exact}
use Rattle.sql_guard_law.proofs.Filters.{filter-same, filter-both, filter-all, Each-always}
use Rattle.sql_guard_law.proofs.GuardedRules.{guard-kept}
use Rattle.sql_guard_law.proofs.Plain.{at_most-clean, predicate-fit}
use Rattle.sql_guard_law.proofs.Restriction.{HasNoSubselect, no-subselect, guarded-restricted, restricted-alone}

-- ---- the rows that all predicates of a table let be seen

abbrev all_true : List MaybeExpr → Frame → Bool
all_true [] f = true
all_true (c ∷ cs) f = true_at c f && all_true cs f

maybe-plain : (t : TableDecl) (c : MaybeExpr) → IsMaybePredicate t c → IsPlainCondition c
maybe-plain t no_expr h = tt
maybe-plain t (an_expr p) h = (predicate-fit t p h).test

are-plain : (t : TableDecl) (qs : List Policy) → Each IsPolicy qs → Each IsPlainCondition (predicates_on t qs)
are-plain t [] h = tt
are-plain t (q ∷ qs) h = go (same_table q.table t) (are-plain t qs h.1)
  where
    go : (b : Bool) → Each IsPlainCondition (predicates_on t qs)
        → Each IsPlainCondition (if b then q.predicate ∷ predicates_on t qs else predicates_on t qs)
    go true r = (maybe-plain q.table q.predicate h.0, r)
    go false r = r

all_hold-true : (places : NullPlaces) (cs : List MaybeExpr) (db : Database) (f : Frame) (b : Bool)
    → Each IsPlainCondition cs → AllHold places cs db (alone f) b → b ≡ all_true cs f
all_hold-true places [] db f b h g = g
all_hold-true places (c ∷ cs) db f b h g =
    g.4 ∙ ap₂ ◌&&◌ (holds-true places c db (alone f) g.0 h.0 g.2) (all_hold-true places cs db f g.1 h.1 g.3)

true-all_hold : (places : NullPlaces) (cs : List MaybeExpr) (db : Database) (f : Frame) → Each IsPlainCondition cs
    → AllHold places cs db (alone f) (all_true cs f)
true-all_hold places [] db f h = refl
true-all_hold places (c ∷ cs) db f h =
    (true_at c f, all_true cs f, true-holds places c db (alone f) h.0, true-all_hold places cs db f h.1, refl)

abbrev seen : List Policy → TableDecl → Row → Bool
seen qs t row = all_true (predicates_on t qs) ((a_table t, row) ∷ [])

cut-is : (places : NullPlaces) (qs : List Policy) → Each IsPolicy qs → (db cut : Database) → IsCutBy places qs db cut
    → (t : TableDecl) → cut t ≡ filter (seen qs t) (db t)
cut-is places qs h db cut c t =
    Filtered-is (λ row b. AllHold places (predicates_on t qs) db (alone ((a_table t, row) ∷ [])) b) (seen qs t)
    (λ row b g. all_hold-true places (predicates_on t qs) db ((a_table t, row) ∷ []) b (are-plain t qs h) g) (c t)

-- ---- one policy after the others

-- what the others leave
abbrev between : List Policy → Database → Database
between qs db t = filter (seen qs t) (db t)

is-between : (places : NullPlaces) (qs : List Policy) → Each IsPolicy qs → (db : Database)
    → IsCutBy places qs db (between qs db)
is-between places qs h db t =
    is-Filtered (λ row b. AllHold places (predicates_on t qs) db (alone ((a_table t, row) ∷ [])) b) (seen qs t)
    (λ row. true-all_hold places (predicates_on t qs) db ((a_table t, row) ∷ []) (are-plain t qs h)) (db t)

abbrev policy : TableDecl → MaybeExpr → Policy
policy t c = record { table = t; predicate = c }

and_comm : (a b : Bool) → (a && b) ≡ (b && a)
and_comm true true = refl
and_comm true false = refl
and_comm false true = refl
and_comm false false = refl

seen-own : (t : TableDecl) (c : MaybeExpr) (qs : List Policy) (row : Row)
    → seen (policy t c ∷ qs) t row ≡ (seen qs t row && true_at c ((a_table t, row) ∷ []))
seen-own t c qs row =
    ap (λ b. all_true (if b then c ∷ predicates_on t qs else predicates_on t qs) ((a_table t, row) ∷ []))
    ((table-decides t t).1 refl)
    ∙ and_comm (true_at c ((a_table t, row) ∷ [])) (seen qs t row)

different : (t u : TableDecl) → t ≢ u → same_table t u ≡ false
different t u n = go (same_table t u) (table-decides t u).0
  where
    go : (b : Bool) → (b ≡ true → t ≡ u) → b ≡ false
    go true e = absurd (n (e refl))
    go false e = refl

seen-other : (t u : TableDecl) (c : MaybeExpr) (qs : List Policy) (row : Row) → t ≢ u
    → seen (policy t c ∷ qs) u row ≡ seen qs u row
seen-other t u c qs row n =
    ap (λ b. all_true (if b then c ∷ predicates_on u qs else predicates_on u qs) ((a_table u, row) ∷ []))
    (different t u n)

-- no predicate takes nothing away
seen-all : (t u : TableDecl) (qs : List Policy) (row : Row) → seen (policy t no_expr ∷ qs) u row ≡ seen qs u row
seen-all t u qs row = go (same_table t u)
  where
    go : (b : Bool)
        → all_true (if b then no_expr ∷ predicates_on u qs else predicates_on u qs) ((a_table u, row) ∷ [])
        ≡ seen qs u row
    go true = refl
    go false = refl

last-cut : (places : NullPlaces) (t : TableDecl) (p : Expr) (qs : List Policy) → IsPredicate t p → (db cut : Database)
    → ((u : TableDecl) → cut u ≡ filter (seen (policy t (an_expr p) ∷ qs) u) (db u))
    → IsCut places t p (between qs db) cut
last-cut places t p qs predicate db cut e = record {
  kept =
      subst (λ rows. Filtered (λ row b. Holds places (an_expr p) (between qs db) (alone ((a_table t, row) ∷ [])) b)
      (between qs db t) rows)
      (sym own)
      (is-Filtered (λ row b. Holds places (an_expr p) (between qs db) (alone ((a_table t, row) ∷ [])) b)
      (λ row. true_at (an_expr p) ((a_table t, row) ∷ []))
      (λ row. true-holds places (an_expr p) (between qs db) (alone ((a_table t, row) ∷ []))
      (predicate-fit t p predicate).test)
      (between qs db t));
  others = λ u n. e u
      ∙ filter-same _ (seen qs u) (db u) (Each-always _ (λ row. seen-other t u (an_expr p) qs row n) (db u));
}
  where
    own : cut t ≡ filter (λ row. true_at (an_expr p) ((a_table t, row) ∷ [])) (between qs db t)
    own =
        e t
        ∙ (filter-same _ (λ row. seen qs t row && true_at (an_expr p) ((a_table t, row) ∷ [])) (db t)
        (Each-always _ (λ row. seen-own t (an_expr p) qs row) (db t))
        ∙ sym (filter-both (λ row. true_at (an_expr p) ((a_table t, row) ∷ [])) (seen qs t) (db t)))

-- ---- the laws

maybe-kept : (schema : Declarations) (d : Dialect) (s : Statement) (t : TableDecl) (c : MaybeExpr)
    → BreaksAtMostTooManyBinds schema d s → IsMaybePredicate t c
    → BreaksAtMostTooManyBinds schema d (guarded_maybe_by t c s)
maybe-kept schema d s t no_expr h q = h
maybe-kept schema d s t (an_expr p) h q = guard-kept schema d s t p h q

pub all-kept : (schema : Declarations) (d : Dialect) (s : Statement) (qs : List Policy)
    → BreaksAtMostTooManyBinds schema d s → Each IsPolicy qs → BreaksAtMostTooManyBinds schema d (guarded_all qs s)
all-kept schema d s [] h q = h
all-kept schema d s (x ∷ qs) h q =
    all-kept schema d (guarded_maybe_by x.table x.predicate s) qs (maybe-kept schema d s x.table x.predicate h q.0) q.1

same-database : (db cut : Database) → ((t : TableDecl) → cut t ≡ db t) → cut ≡ db
same-database db cut e = λ i t. e t i

pub all-exact : (schema : Declarations) (d : Dialect) (s : Statement) (qs : List Policy)
    → BreaksAtMostTooManyBinds schema d s → Each IsPolicy qs → AnswersAsCutBy (guarded_all qs s) s qs
all-exact schema d s [] h q places db cut c answer =
    let same = same-database db cut
    (λ t. cut-is places [] tt db cut c t ∙ filter-all (λ row. true) (db t) (Each-always _ (λ row. refl) (db t))) in
    (λ a. subst (λ x. Answers places s x [] answer) (sym same) a, λ a. subst (λ x. Answers places s x [] answer) same a)
all-exact schema d s (x ∷ qs) h q places db cut c answer =
    let rest = all-exact schema d (guarded_maybe_by x.table x.predicate s) qs
    (maybe-kept schema d s x.table x.predicate h q.0) q.1 places db (between qs db)
    (is-between places qs q.1 db) answer in
    let last = by_one x.table x.predicate q.0 (cut-is places (x ∷ qs) q db cut c) in
    (λ a. last.0 (rest.0 a), λ a. rest.1 (last.1 a))
  where
    by_one : (t : TableDecl) (p : MaybeExpr) → IsMaybePredicate t p
        → ((u : TableDecl) → cut u ≡ filter (seen (policy t p ∷ qs) u) (db u))
        → Answers places (guarded_maybe_by t p s) (between qs db) [] answer ↔ Answers places s cut [] answer
    by_one t no_expr m e =
        let same = same-database (between qs db) cut
        (λ u. e u ∙ filter-same _ (seen qs u) (db u) (Each-always _ (λ row. seen-all t u qs row) (db u))) in (
          λ a. subst (λ y. Answers places s y [] answer) (sym same) a,
          λ a. subst (λ y. Answers places s y [] answer) same a,
        )
    by_one t (an_expr p) m e =
        guard-exact schema d s t p h m places (between qs db) cut (last-cut places t p qs m db cut e) answer

pub all-blind : (schema : Declarations) (d : Dialect) (s : Statement) (qs : List Policy)
    → BreaksAtMostTooManyBinds schema d s → Each IsPolicy qs → ¬ AnyOf (LacksPolicy qs) (parts [] s)
    → SeesOnlyBy qs (guarded_all qs s)
all-blind schema d s qs h q n places db db' cut cut' c c' same answer =
    let whole = all-exact schema d s qs h q places db cut c answer in
    let other = all-exact schema d s qs h q places db' cut' c' answer in (
      λ a. other.1 (answers-agree places qs cut cut' same s [] n [] answer (whole.0 a)),
      λ a. whole.1 (answers-agree places qs cut' cut (λ t m. sym (same t m)) s [] n [] answer (other.0 a)),
    )

-- ---- statements without subselects

maybe-alone : (s : Statement) (t : TableDecl) (c : MaybeExpr) → IsMaybePredicate t c → HasNoSubselect s
    → HasNoSubselect (restricted_maybe t c s)
maybe-alone s t no_expr q k = k
maybe-alone s t (an_expr p) q k = restricted-alone t p (predicate-fit t p q) s k

maybe-same : (s : Statement) (t : TableDecl) (c : MaybeExpr) → HasNoSubselect s
    → guarded_maybe_by t c s ≡ restricted_maybe t c s
maybe-same s t no_expr k = refl
maybe-same s t (an_expr p) k = guarded-restricted t p s k

all-same : (s : Statement) (qs : List Policy) → Each IsPolicy qs → HasNoSubselect s
    → guarded_all qs s ≡ restricted_all qs s
all-same s [] q k = refl
all-same s (x ∷ qs) q k =
    ap (guarded_all qs) (maybe-same s x.table x.predicate k)
    ∙ all-same (restricted_maybe x.table x.predicate s) qs q.1 (maybe-alone s x.table x.predicate q.0 k)

pub restricted-same : (s : Statement) (qs : List Policy) → Each IsPolicy qs → ¬ AnyOf HoldsSubselect (parts [] s)
    → guarded_all qs s ≡ restricted_all qs s
restricted-same s qs q k = all-same s qs q (no-subselect [] s k)

-- ---- answers exist

pub guarded-answers : (schema : Declarations) (d : Dialect) (s : Statement) (qs : List Policy)
    → BreaksAtMostTooManyBinds schema d s → Each IsPolicy qs → (places : NullPlaces) (db : Database)
    → (answer : List Row) × Answers places (guarded_all qs s) db [] answer
guarded-answers schema d s qs h q places db =
    answers-some places schema d db (guarded_all qs s) []
    (at_most-clean schema d (guarded_all qs s) (all-kept schema d s qs h q)) []
