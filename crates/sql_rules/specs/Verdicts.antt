-- Whether an expression has one value in each group (PostgreSQL, SELECT, GROUP BY Clause; diesel, `ValidGrouping`,
-- `MixedAggregates`).
use Rattle.std.specs.Prelude.{ℕ, List, [], ◌∷◌, ◌++◌, Bool, true, false, ◌&&◌, ◌||◌, if◌then◌else◌}
use Rattle.std.specs.List.{list_any, list_all}
use Rattle.std.specs.Str.{bytes_eq}
use Rattle.sql_schema.specs.declared.declaration.ColumnDecl.{ColumnDecl}
use Rattle.sql_node.specs.Tree.{Origin, Expr, column, value, list, count_star, nullable, unary, count, compared, joined, exists, single, among_values, among_rows, Exprs, no_exprs, more_exprs, MaybeExpr, no_expr, an_expr}
use Rattle.sql_origin.specs.Origins.{same_origin}
use Rattle.sql_rules.specs.Scope.{nodes}

abbrev pub is_aggregate : Expr → Bool
is_aggregate count_star = true
is_aggregate (count e) = true
is_aggregate _ = false

-- an aggregate stands in it, outside subselects
abbrev pub holds_aggregate : Expr → Bool
holds_aggregate e = list_any is_aggregate (nodes e)

-- a column and what it is a column of
abbrev pub Field : Type 0
Field = Origin × ColumnDecl

-- the columns that stand in a list for themselves, or under nullables
abbrev mutual
  pub fields : Expr → List Field
  fields (column o c) = (o, c) ∷ []
  fields (list es) = fields_of es
  fields (nullable e) = fields e
  fields _ = []

  pub fields_of : Exprs → List Field
  fields_of no_exprs = []
  fields_of (more_exprs e es) = fields e ++ fields_of es

-- the list has the column of that name of the source; a table has no two of one name
abbrev pub holds_column : List Field → Origin → List ℕ → Bool
holds_column group o name = list_any (λ f. same_origin f.0 o && bytes_eq f.1.name name) group

-- the list has the whole primary key of the source
abbrev pub holds_key : List Field → Origin → Bool
holds_key group o = list_all (holds_column group o) o.table.primary_key

-- a value for each row, one for each group, either, or neither
pub data Verdict : Type 0 where
  No : Verdict
  Yes : Verdict
  Never : Verdict
  NoVerdict : Verdict

-- Never gives way to the other; the rows' with the groups' is none, and none stays
abbrev pub mix : Verdict → Verdict → Verdict
mix No No = No
mix No Yes = NoVerdict
mix No Never = No
mix No NoVerdict = NoVerdict
mix Yes No = NoVerdict
mix Yes Yes = Yes
mix Yes Never = Yes
mix Yes NoVerdict = NoVerdict
mix Never v = v
mix NoVerdict v = NoVerdict

-- of a column, by the group by list: that list has the column itself, or the whole primary key of its source
abbrev pub column_verdict : MaybeExpr → Origin → ColumnDecl → Verdict
column_verdict no_expr o c = No
column_verdict (an_expr group) o c =
    if holds_column (fields group) o c.name || holds_key (fields group) o then Yes else NoVerdict

-- of an expression, and of a list the mix of its elements'
abbrev mutual
  pub verdict : MaybeExpr → Expr → Verdict
  verdict g (column o c) = column_verdict g o c
  verdict g (value t x) = Never
  verdict g (list es) = verdict_of g es
  verdict g count_star = Yes
  verdict g (nullable e) = verdict g e
  verdict g (unary n e) = verdict g e
  verdict g (count e) = if holds_aggregate e then NoVerdict else Yes
  verdict g (compared by a b) = mix (verdict g a) (verdict g b)
  verdict g (joined by a b) = mix (verdict g a) (verdict g b)
  verdict g (exists q) = Never
  verdict g (single q) = Never
  verdict g (among_values n e t xs) = verdict g e
  verdict g (among_rows n e q) = verdict g e

  pub verdict_of : MaybeExpr → Exprs → Verdict
  verdict_of g no_exprs = Never
  verdict_of g (more_exprs e es) = mix (verdict g e) (verdict_of g es)
