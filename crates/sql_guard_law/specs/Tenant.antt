-- Which statements can be restricted, by which predicates, and the database of one tenant, whose table has only the rows for which
-- the predicate is true (PostgreSQL, Row Security Policies: other rows are as if they were not there).
use Rattle.std.specs.Prelude.{◌≡◌, ◌≢◌, ◌↔◌, ◌⊎◌, true, List, [], ◌∷◌}
use Rattle.sql_schema.specs.Declarations.{Declarations}
use Rattle.sql_schema.specs.declared.declaration.TableDecl.{TableDecl}
use Rattle.sql_dialect.specs.declared.backend.Dialect.{Dialect}
use Rattle.sql_node.specs.Tree.{Expr, column, value, count_star, count, exists, single, among_rows, an_expr, Statement}
use Rattle.sql_origin.specs.Origins.{a_table}
use Rattle.sql_rules.specs.Lists.{Each}
use Rattle.sql_rules.specs.Rules.{Broken, FromLacksOn, IsBool, IsColumn, Present}
use Rattle.sql_rules.specs.Scope.{Part, a_select, a_combination, nodes, AnyExpr}
use Rattle.sql_rules.specs.Types.{fits, type_of}
use Rattle.sql_rules.specs.declared.rule.Rule.{Rule}
use Rattle.sql_rules.specs.declared.rule.Rule.TheVariants.{TooManyBinds}
use Rattle.sql_rows_meaning.specs.Answers.{Answers, Holds}
use Rattle.sql_rows_meaning.specs.Frames.{Database}
use Rattle.sql_rows_meaning.specs.Groups.{alone}
use Rattle.sql_rows_meaning.specs.Rows.{Row, NullPlaces, Filtered}

-- ---- what is restricted, and by what

-- an aggregate or a subselect
abbrev pub IsBeyond : Expr → Type 0
IsBeyond count_star = Unit {0}
IsBeyond (count e) = Unit {0}
IsBeyond (exists q) = Unit {0}
IsBeyond (single q) = Unit {0}
IsBeyond (among_rows n e q) = Unit {0}
IsBeyond _ = ⊥

abbrev pub IsSubselect : Expr → Type 0
IsSubselect (exists q) = Unit {0}
IsSubselect (single q) = Unit {0}
IsSubselect (among_rows n e q) = Unit {0}
IsSubselect _ = ⊥

-- a subselect stands in it
abbrev pub HoldsSubselect : Part → Type 0
HoldsSubselect (a_select outer s) = AnyExpr (λ v. IsSubselect) outer s
HoldsSubselect (a_combination c) = ⊥

-- an aggregate, a subselect or a GROUP BY stands in it
abbrev pub IsOutOfKind : Part → Type 0
IsOutOfKind (a_select outer s) = AnyExpr (λ v. IsBeyond) outer s ⊎ Present s.group_by
IsOutOfKind (a_combination c) = ⊥

-- a join has no condition
abbrev pub LacksRelation : Part → Type 0
LacksRelation (a_select outer s) = FromLacksOn s.source
LacksRelation (a_combination c) = ⊥

-- a column is the table's own, and a value fits its type
abbrev pub IsOwn : TableDecl → Expr → Type 0
IsOwn t (column o c) = (o ≡ a_table t) × IsColumn t c
IsOwn t (value ty x) = fits ty x ≡ true
IsOwn t e = ¬ IsBeyond e

-- The predicate is a condition on the rows of the table alone.
pub record IsPredicate (t : TableDecl) (p : Expr) : Type 0 where
  pub is_bool : IsBool (type_of p)
  pub own : Each (IsOwn t) (nodes p)

-- ---- the database of one tenant

-- The table keeps the rows for which the predicate is true, all other tables keep all of theirs.
pub record IsCut (places : NullPlaces) (t : TableDecl) (p : Expr) (db cut : Database) : Type 0 where
  pub kept : Filtered (λ row b. Holds places (an_expr p) db (alone ((a_table t, row) ∷ [])) b) (db t) (cut t)
  pub others : (u : TableDecl) → t ≢ u → cut u ≡ db u

-- ---- the laws

-- The first statement answers over the whole database exactly what the second answers over the cut one.
abbrev pub AnswersAsCut : Statement → Statement → TableDecl → Expr → Type 0
AnswersAsCut r s t p =
    (places : NullPlaces) (db cut : Database) → IsCut places t p db cut → (answer : List Row)
    → Answers places r db [] answer ↔ Answers places s cut [] answer

-- Of two databases whose cuts are one database the statement answers the same: the rows that are cut away do not matter.
abbrev pub IsBlindToOthers : Statement → TableDecl → Expr → Type 0
IsBlindToOthers r t p =
    (places : NullPlaces) (db db' cut : Database) → IsCut places t p db cut → IsCut places t p db' cut
    → (answer : List Row)
    → Answers places r db [] answer ↔ Answers places r db' [] answer

-- no rule is broken, but that the values may be too many
abbrev pub BreaksAtMostTooManyBinds : Declarations → Dialect → Statement → Type 0
BreaksAtMostTooManyBinds schema d s = (r : Rule) → r ≢ TooManyBinds → ¬ Broken r schema d s
