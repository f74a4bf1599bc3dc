-- Why the promise on types leaves out what counts beside its columns: a boxed statement that breaks no rule, and an answer that does
-- not fit its types.
use Rattle.std.specs.Prelude.{◌≡◌, false, List, [], ◌∷◌, None, Some, map}
use Rattle.sql_schema.specs.declared.types.Base.TheVariants as base
use Rattle.sql_schema.specs.declared.types.SqlType.{SqlType}
use Rattle.sql_dialect.specs.declared.backend.Dialect.{Dialect}
use Rattle.sql_pass.specs.declared.value.Value.TheVariants as V
use Rattle.sql_leaf.specs.Marking.{unmarked}
use Rattle.sql_leaf.specs.declared.position.Direction.TheVariants as direction
use Rattle.sql_node.specs.Tree.{boxed, count_star, more_items, no_items, no_expr, of_table, from, every, order_by, Statement, select}
use Rattle.sql_rules.specs.Lists.{Each}
use Rattle.sql_rules.specs.Rules.{Accepted}
use Rattle.sql_rules.specs.Types.{columns}
use Rattle.sql_rows_meaning.specs.Answers.{Answers}
use Rattle.sql_rows_meaning.specs.Example.{id, users, blog, of_users}
use Rattle.sql_rows_meaning.specs.Fitting.{RowFits, Conforms}
use Rattle.sql_rows_meaning.specs.Frames.{Database}
use Rattle.sql_rows_meaning.specs.Rows.{Row, NullPlaces}

-- `SELECT users.id FROM users ORDER BY COUNT(*)`, boxed
abbrev pub counted_beside : Dialect → Statement
counted_beside d =
    select false (of_users id) (from (of_table users false None)) every no_expr
    (order_by (more_items count_star direction.None no_items)) (record { limit_clause = None; offset_clause = None })
    no_expr no_expr (boxed d false) unmarked

-- every table is empty
abbrev pub empty : Database
empty t = []

abbrev pub integer : List SqlType
integer = record { base = base.Integer; nullable = false } ∷ []

abbrev pub null_row : Row
null_row = V.Null ∷ []

-- It breaks no rule in its own dialect, and its column is an integer that is not nullable. Over no rows all rows are one group, whose
-- column is NULL.
pub record ExceptionIsNeeded : Type 0 where
  pub accepted : (d : Dialect) → Accepted blog d (counted_beside d)
  pub types : (d : Dialect) → map Some integer ≡ columns (counted_beside d)
  pub conforms : Conforms blog empty
  pub answer : (d : Dialect) (places : NullPlaces) → Answers places (counted_beside d) empty [] (null_row ∷ [])
  pub unfit : ¬ Each (RowFits integer) (null_row ∷ [])
