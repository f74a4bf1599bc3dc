-- The clauses of a select statement by their names, and a statement with some of them changed (diesel, `SelectStatement`).
use Rattle.std.specs.Prelude.{Bool, false, List, Option, Some, None}
use Rattle.sql_leaf.specs.Marking.{unmarked}
use Rattle.sql_leaf.specs.declared.limit_offset.LimitOffsetClause.{LimitOffsetClause}
use Rattle.sql_leaf.specs.declared.locking.LockingClause.TheVariants.{NoLockingClause}
use Rattle.sql_leaf.specs.declared.marks.Marks.{Marks}
use Rattle.sql_leaf.specs.declared.position.PositionalItem.{PositionalItem}
use Rattle.sql_node.specs.Tree.{Statement, select, combination, Expr, From, no_source, Distinct, every, MaybeExpr, no_expr, Order, no_order, Form, unboxed}

pub record Clauses : Type 0 where
  -- whether it is the default, and the selection
  pub selection : Bool × Expr
  pub source : From
  pub distinct : Distinct
  pub condition : MaybeExpr
  pub order : Order
  pub rows : LimitOffsetClause
  pub group_by : MaybeExpr
  pub having : MaybeExpr
  pub form : Form
  pub marks : Marks

abbrev pub statement_of : Clauses → Statement
statement_of c =
    select c.selection.0 c.selection.1 c.source c.distinct c.condition c.order c.rows c.group_by c.having c.form c.marks

-- A select statement with its clauses changed. A combination has none of them, and stays.
abbrev pub changed : (Clauses → Clauses) → Statement → Statement
changed f (select d e s u w o r g h form m) =
    statement_of (f (record {
      selection = (d, e);
      source = s;
      distinct = u;
      condition = w;
      order = o;
      rows = r;
      group_by = g;
      having = h;
      form = form;
      marks = m;
    }))
changed f (combination by all a b o r) = combination by all a b o r

-- Limit and offset changed, which a combination has as well.
abbrev pub rows_changed : (LimitOffsetClause → LimitOffsetClause) → Statement → Statement
rows_changed f (select d e s u w o r g h form m) = select d e s u w o (f r) g h form m
rows_changed f (combination by all a b o r) = combination by all a b o (f r)

-- The order of a combination's answer changed, by places alone.
abbrev pub positions_changed : Option (List PositionalItem) → Statement → Statement
positions_changed os (select d e s u w o r g h form m) = select d e s u w o r g h form m
positions_changed os (combination by all a b _ r) = combination by all a b os r

abbrev pub all_rows : LimitOffsetClause
all_rows = record { limit_clause = None; offset_clause = None }

-- a selection and a source, and no other clause
abbrev pub bare : Bool → Expr → From → Statement
bare default e f = select default e f every no_expr no_order all_rows no_expr no_expr (unboxed NoLockingClause) unmarked

-- an expression alone, without a source
abbrev pub only : Expr → Statement
only e = bare false e no_source
