-- Statements as plain trees: no pointer, no capacity, no allocator. All definitions on statements are made over them.
use Rattle.std.specs.Prelude.{ℕ, zero, suc, List, Option, Bool}
use Rattle.sql_schema.specs.declared.declaration.ColumnDecl.{ColumnDecl}
use Rattle.sql_schema.specs.declared.declaration.TableDecl.{TableDecl}
use Rattle.sql_schema.specs.declared.types.SqlType.{SqlType}
use Rattle.sql_dialect.specs.declared.backend.Dialect.{Dialect}
use Rattle.sql_dialect.specs.declared.combination.Combinator.{Combinator}
use Rattle.sql_dialect.specs.declared.combination.DuplicateRule.{DuplicateRule}
use Rattle.sql_pass.specs.declared.value.Value.{Value}
use Rattle.sql_leaf.specs.declared.limit_offset.LimitOffsetClause.{LimitOffsetClause}
use Rattle.sql_leaf.specs.declared.locking.LockingClause.{LockingClause}
use Rattle.sql_leaf.specs.declared.marks.Marks.{Marks}
use Rattle.sql_leaf.specs.declared.position.Direction.{Direction}
use Rattle.sql_leaf.specs.declared.position.PositionalItem.{PositionalItem}
use Rattle.sql_leaf.specs.declared.table_source.JoinKind.{JoinKind}
use Rattle.sql_leaf.specs.declared.table_source.Tablesample.{Tablesample}
use Rattle.sql_leaf.specs.declared.operator.Unary.{Unary}
use Rattle.sql_leaf.specs.declared.operator.Comparison.{Comparison}
use Rattle.sql_leaf.specs.declared.operator.Logic.{Logic}

-- The origin of a column: a table, or an alias of one. Two leaves of a source are one where their origins are equal.
pub record Origin : Type 0 where
  pub alias : Option (List ℕ)
  pub table : TableDecl

-- the form of a select statement: with its lock, or boxed for a dialect, all its columns nullable or not
pub data Form : Type 0 where
  unboxed : LockingClause → Form
  boxed : Dialect → Bool → Form

mutual
  pub data Expr : Type 0 where
    -- a column of a table, or a field of an alias
    column : Origin → ColumnDecl → Expr
    value : SqlType → Value → Expr
    list : Exprs → Expr
    count_star : Expr
    nullable : Expr → Expr
    unary : Unary → Expr → Expr
    count : Expr → Expr
    compared : Comparison → Expr → Expr → Expr
    joined : Logic → Expr → Expr → Expr
    exists : Statement → Expr
    single : Statement → Expr
    among_values : Bool → Expr → SqlType → List Value → Expr
    among_rows : Bool → Expr → Statement → Expr

  pub data Exprs : Type 0 where
    no_exprs : Exprs
    more_exprs : Expr → Exprs → Exprs

  pub data Items : Type 0 where
    no_items : Items
    more_items : Expr → Direction → Items → Items

  pub data MaybeExpr : Type 0 where
    no_expr : MaybeExpr
    an_expr : Expr → MaybeExpr

  pub data Source : Type 0 where
    -- whether without the tables that inherit from it, and the sample of it
    of_table : TableDecl → Bool → Option Tablesample → Source
    of_alias : List ℕ → TableDecl → Source
    join : JoinKind → Source → Source → MaybeExpr → Source

  pub data From : Type 0 where
    no_source : From
    from : Source → From

  pub data Distinct : Type 0 where
    every : Distinct
    distinct : Distinct
    distinct_on : Expr → Distinct

  pub data Order : Type 0 where
    no_order : Order
    order_by : Items → Order

  pub data Statement : Type 0 where
    -- whether the selection is the default, selection, source, distinct, WHERE, order, limit and offset, group by, HAVING
    select : Bool → Expr → From → Distinct → MaybeExpr → Order → LimitOffsetClause → MaybeExpr → MaybeExpr → Form
        → Marks → Statement
    combination : Combinator → DuplicateRule → Statement → Statement → Option (List PositionalItem) → LimitOffsetClause
        → Statement

-- an expression under so many nullables
abbrev pub under : ℕ → Expr → Expr
under zero e = e
under (suc n) e = nullable (under n e)
