-- The change that a join makes to a statement (diesel, `JoinWithImplicitOnClause`, `InternalJoinDsl`).
use Rattle.std.specs.Prelude.{Bool, true, false}
use Rattle.sql_schema.specs.Declarations.{Declarations}
use Rattle.sql_leaf.specs.declared.marks.Marks.{Marks}
use Rattle.sql_leaf.specs.declared.table_source.JoinKind.{JoinKind}
use Rattle.sql_node.specs.Tree.{Statement, Expr, From, no_source, from, Form, unboxed, boxed, Source}
use Rattle.sql_expr.specs.Joining.{Side}
use Rattle.sql_source.specs.Joins.{alone, joined_by, joined_with}
use Rattle.sql_source.specs.Selections.{default_list}
use Rattle.sql_select.specs.Clauses.{Clauses, changed}

-- the source changed, where there is one
abbrev pub from_map : (Source → Source) → From → From
from_map f no_source = no_source
from_map f (from s) = from (f s)

-- a default selection is that of the new source; one that was given stays
abbrev pub default_over : From → Bool × Expr → Bool × Expr
default_over no_source selection = selection
default_over (from s) (true, e) = (true, default_list s)
default_over (from s) (false, e) = (false, e)

-- a boxed statement's selection stays
abbrev pub selection_over : Form → From → Bool × Expr → Bool × Expr
selection_over (unboxed l) s selection = default_over s selection
selection_over (boxed d n) s selection = selection

-- the mark, where there is no source to join with
abbrev pub mark_over : From → Marks → Marks
mark_over no_source m = record m { no_source = true }
mark_over (from s) m = m

abbrev pub resourced_by : From → Clauses → Clauses
resourced_by s c = record c { source = s; selection = selection_over c.form s c.selection; marks = mark_over s c.marks }

-- another source in place of the old one; without a source the mark alone
abbrev pub resourced : (Source → Source) → Statement → Statement
resourced f = changed (λ c. resourced_by (from_map f c.source) c)

-- a join with a side, on its own condition or on that of a relation of the schema
abbrev pub joined : Declarations → JoinKind → Side → Statement → Statement
joined s k right = resourced (λ left. (joined_by s k (alone left) right).source)

-- a join with a source on this condition, or on none
abbrev pub joined_on : JoinKind → Side → Statement → Statement
joined_on k right = resourced (λ left. joined_with k left right)
