-- A statement restricted to the rows of a table for which a predicate is true: the predicate stands beside each leaf of that table
-- (PostgreSQL, Row Security Policies: a policy's expression is one more condition on the rows of its table).
use Rattle.std.specs.Prelude.{ℕ, List, [], ◌∷◌, ◌++◌, map, Option, None, Some, if◌then◌else◌}
use Rattle.sql_schema.specs.Equality.{same_table}
use Rattle.sql_schema.specs.declared.declaration.TableDecl.{TableDecl}
use Rattle.sql_leaf.specs.declared.table_source.JoinKind.{JoinKind}
use Rattle.sql_leaf.specs.declared.table_source.JoinKind.TheVariants.{Inner, LeftOuter}
use Rattle.sql_node.specs.Tree.{Origin, Expr, joined, MaybeExpr, no_expr, an_expr, Source, of_table, of_alias, join, From, no_source, from, Statement, select, combination}
use Rattle.sql_leaf.specs.declared.operator.Logic.TheVariants.{And}
use Rattle.sql_source.specs.Fields.{fields_in}
use Rattle.sql_origin.specs.Origins.{a_table, an_alias}

-- the predicate on the rows of the table, or of an alias of it, whose fields stand in place of the table's columns
abbrev pub predicate_under : Expr → Option (List ℕ) → TableDecl → Expr
predicate_under p None t = p
predicate_under p (Some a) t = fields_in a t p

abbrev pub predicate_of : Expr → Origin → Expr
predicate_of p o = predicate_under p o.alias o.table

abbrev pub if_same : TableDecl → TableDecl → Origin → List Origin
if_same t u o = if same_table t u then o ∷ [] else []

-- the leaves of the table that lie in no right side of a left outer join, from left to right
abbrev pub open_leaves : TableDecl → Source → List Origin
open_leaves t (of_table u only sample) = if_same t u (a_table u)
open_leaves t (of_alias a u) = if_same t u (an_alias a u)
open_leaves t (join Inner l r on) = open_leaves t l ++ open_leaves t r
open_leaves t (join LeftOuter l r on) = open_leaves t l

abbrev pub predicates : TableDecl → Expr → Source → List Expr
predicates t p s = map (predicate_of p) (open_leaves t s)

-- the condition AND each of the others in turn; where there is none the first stands alone
abbrev pub with_all : List Expr → MaybeExpr → MaybeExpr
with_all [] c = c
with_all (p ∷ ps) no_expr = with_all ps (an_expr p)
with_all (p ∷ ps) (an_expr c) = with_all ps (an_expr (joined And c p))

-- The predicate of a leaf in the right side of a left outer join stands in the ON of the innermost of them: in WHERE it would drop
-- left rows that are paired with NULLs.
abbrev pub restricted_on : TableDecl → Expr → JoinKind → Source → MaybeExpr → MaybeExpr
restricted_on t p Inner r on = on
restricted_on t p LeftOuter r on = with_all (predicates t p r) on

abbrev pub restricted_source : TableDecl → Expr → Source → Source
restricted_source t p (of_table u only sample) = of_table u only sample
restricted_source t p (of_alias a u) = of_alias a u
restricted_source t p (join kind l r on) =
    join kind (restricted_source t p l) (restricted_source t p r) (restricted_on t p kind r on)

abbrev pub restricted_from : TableDecl → Expr → From → From
restricted_from t p no_source = no_source
restricted_from t p (from s) = from (restricted_source t p s)

abbrev pub predicates_from : TableDecl → Expr → From → List Expr
predicates_from t p no_source = []
predicates_from t p (from s) = predicates t p s

-- Those of all other leaves stand in WHERE. Of a combination both sides are restricted. All else stays.
abbrev pub restricted : TableDecl → Expr → Statement → Statement
restricted t p (select default e f u w o rows g h form marks) =
    select default e (restricted_from t p f) u (with_all (predicates_from t p f) w) o rows g h form marks
restricted t p (combination by all a b o rows) = combination by all (restricted t p a) (restricted t p b) o rows
