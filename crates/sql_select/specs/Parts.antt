-- The clause that each accessor of a statement shows (diesel, `SelectStatementAccessor`). A combination has none of these clauses.
use Rattle.std.specs.Prelude.{Bool, Option, Some, None}
use Rattle.sql_leaf.specs.declared.limit_offset.LimitOffsetClause.{LimitOffsetClause}
use Rattle.sql_leaf.specs.declared.locking.LockingClause.{LockingClause}
use Rattle.sql_node.specs.Tree.{Statement, select, combination, Expr, From, Distinct, MaybeExpr, no_expr, Order, Form, unboxed, boxed}
use Rattle.sql_select.specs.Clauses.{Clauses}

abbrev pub clauses_of : Statement → Option Clauses
clauses_of (select d e s u w o r g h form m) =
    Some (record {
      selection = (d, e);
      source = s;
      distinct = u;
      condition = w;
      order = o;
      rows = r;
      group_by = g;
      having = h;
      form = form;
      marks = m;
    })
clauses_of (combination by all a b o r) = None

-- the condition, where there is one
abbrev pub condition_of : Statement → MaybeExpr
condition_of (select d e s u w o r g h form m) = w
condition_of (combination by all a b o r) = no_expr
