-- Several tables at once: each has a policy, and of each the rows are kept for which its predicates are true (PostgreSQL, Row
-- Security Policies).
use Rattle.std.specs.Prelude.{◌≡◌, ◌↔◌, Bool, true, ◌&&◌, List, [], ◌∷◌, if◌then◌else◌}
use Rattle.sql_schema.specs.Equality.{same_table}
use Rattle.sql_schema.specs.declared.declaration.TableDecl.{TableDecl}
use Rattle.sql_node.specs.Tree.{MaybeExpr, no_expr, an_expr, Statement}
use Rattle.sql_origin.specs.Origins.{a_table}
use Rattle.sql_rules.specs.Lists.{AnyOf}
use Rattle.sql_rules.specs.Scope.{Part, a_select, a_combination, own}
use Rattle.sql_rows_meaning.specs.Answers.{Answers, Holds}
use Rattle.sql_rows_meaning.specs.Frames.{Database}
use Rattle.sql_rows_meaning.specs.Groups.{Group, alone}
use Rattle.sql_rows_meaning.specs.Rows.{Row, NullPlaces, Filtered}
use Rattle.sql_guard_law.specs.Guarded.{guarded}
use Rattle.sql_guard_law.specs.Restricted.{restricted}
use Rattle.sql_guard_law.specs.Tenant.{IsPredicate}

-- A table and the predicate on its rows. Without a predicate all rows are seen: so a table that tenants share is named too.
pub record Policy : Type 0 where
  pub table : TableDecl
  pub predicate : MaybeExpr

abbrev pub IsMaybePredicate : TableDecl → MaybeExpr → Type 0
IsMaybePredicate t no_expr = Unit {0}
IsMaybePredicate t (an_expr p) = IsPredicate t p

abbrev pub IsPolicy : Policy → Type 0
IsPolicy q = IsMaybePredicate q.table q.predicate

-- ---- the statement

abbrev pub restricted_maybe : TableDecl → MaybeExpr → Statement → Statement
restricted_maybe t no_expr s = s
restricted_maybe t (an_expr p) s = restricted t p s

-- by each policy in turn, but no subselect
abbrev pub restricted_all : List Policy → Statement → Statement
restricted_all [] s = s
restricted_all (q ∷ qs) s = restricted_all qs (restricted_maybe q.table q.predicate s)

abbrev pub guarded_maybe_by : TableDecl → MaybeExpr → Statement → Statement
guarded_maybe_by t no_expr s = s
guarded_maybe_by t (an_expr p) s = guarded t p s

-- by each policy in turn, at every depth
abbrev pub guarded_all : List Policy → Statement → Statement
guarded_all [] s = s
guarded_all (q ∷ qs) s = guarded_all qs (guarded_maybe_by q.table q.predicate s)

-- ---- the database

abbrev pub predicates_on : TableDecl → List Policy → List MaybeExpr
predicates_on t [] = []
predicates_on t (q ∷ qs) = if same_table q.table t then q.predicate ∷ predicates_on t qs else predicates_on t qs

-- whether all of them are true
abbrev pub AllHold : NullPlaces → List MaybeExpr → Database → Group → Bool → Type 0
AllHold places [] db rows b = b ≡ true
AllHold places (c ∷ cs) db rows b =
    (x y : Bool) × Holds places c db rows x × AllHold places cs db rows y × (b ≡ (x && y))

-- Each table keeps the rows for which all its predicates are true, at once and whatever the order of the policies.
abbrev pub IsCutBy : NullPlaces → List Policy → Database → Database → Type 0
IsCutBy places qs db cut =
    (t : TableDecl)
    → Filtered (λ row b. AllHold places (predicates_on t qs) db (alone ((a_table t, row) ∷ [])) b) (db t) (cut t)

-- ---- the laws

-- The first statement answers over the whole database exactly what the second answers over the cut one.
abbrev pub AnswersAsCutBy : Statement → Statement → List Policy → Type 0
AnswersAsCutBy r s qs =
    (places : NullPlaces) (db cut : Database) → IsCutBy places qs db cut → (answer : List Row)
    → Answers places r db [] answer ↔ Answers places s cut [] answer

abbrev pub HasPolicy : List Policy → TableDecl → Type 0
HasPolicy qs t = AnyOf (λ q. q.table ≡ t) qs

-- The statement reads a table that has no policy. Such a statement is to be refused: of that table it would see all rows.
abbrev pub LacksPolicy : List Policy → Part → Type 0
LacksPolicy qs (a_select outer s) = AnyOf (λ o. ¬ HasPolicy qs o.table) (own s)
LacksPolicy qs (a_combination c) = ⊥

-- Only rows that the policies let be seen matter: over two databases that have the same ones the statement answers the same,
-- whatever else is in them, in these tables or in any other.
abbrev pub SeesOnlyBy : List Policy → Statement → Type 0
SeesOnlyBy qs r =
    (places : NullPlaces) (db db' cut cut' : Database) → IsCutBy places qs db cut → IsCutBy places qs db' cut'
    → ((t : TableDecl) → HasPolicy qs t → cut t ≡ cut' t)
    → (answer : List Row) → Answers places r db [] answer ↔ Answers places r db' [] answer
