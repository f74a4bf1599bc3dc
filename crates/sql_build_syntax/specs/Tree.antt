-- Queries as plain trees: no pointer, no capacity, no allocator. All definitions on queries are made over them.
use Rattle.std.specs.Prelude.{ℤ, List, Option}
use Rattle.sql_schema.specs.declared.types.SqlType.{SqlType}
use Rattle.sql_dialect.specs.declared.backend.Dialect.{Dialect}
use Rattle.sql_dialect.specs.declared.combination.Combinator.{Combinator}
use Rattle.sql_dialect.specs.declared.combination.DuplicateRule.{DuplicateRule}
use Rattle.sql_pass.specs.declared.value.Value.{Value}
use Rattle.sql_leaf.specs.declared.position.Direction.{Direction}
use Rattle.sql_leaf.specs.declared.position.PositionalItem.{PositionalItem}
use Rattle.sql_leaf.specs.declared.table_source.JoinKind.{JoinKind}
use Rattle.sql_build_syntax.specs.declared.call.ClauseCall.{ClauseCall}
use Rattle.sql_build_syntax.specs.declared.call.PlainCall.{PlainCall}
use Rattle.sql_build_syntax.specs.declared.expr.BinaryOperator.{BinaryOperator}
use Rattle.sql_build_syntax.specs.declared.expr.Quantified.{Quantified}
use Rattle.sql_build_syntax.specs.declared.expr.UnaryOperator.{UnaryOperator}
use Rattle.sql_build_syntax.specs.declared.name.AliasName.{AliasName}
use Rattle.sql_build_syntax.specs.declared.name.ColumnName.{ColumnName}
use Rattle.sql_build_syntax.specs.declared.name.FieldName.{FieldName}
use Rattle.sql_build_syntax.specs.declared.name.TableName.{TableName}

mutual
  pub data Expr : Type 0 where
    list : Exprs → Expr
    count_star : Expr
    column : ColumnName → Expr
    field : FieldName → Expr
    bind : SqlType → Value → Expr
    unary : UnaryOperator → Expr → Expr
    binary : BinaryOperator → Expr → Expr → Expr
    exists : Query → Expr
    single_value : Query → Expr
    quantified : Quantified → Expr → Membership → Expr

  pub data Exprs : Type 0 where
    no_exprs : Exprs
    more_exprs : Expr → Exprs → Exprs

  pub data MaybeExpr : Type 0 where
    no_expr : MaybeExpr
    an_expr : Expr → MaybeExpr

  pub data Membership : Type 0 where
    values : SqlType → List Value → Membership
    rows : Query → Membership

  pub data Items : Type 0 where
    no_items : Items
    more_items : Expr → Direction → Items → Items

  pub data Source : Type 0 where
    of_table : TableName → Source
    of_alias : AliasName → Source
    join : JoinKind → Source → Source → MaybeExpr → Source

  pub data Start : Type 0 where
    from : Source → Start
    select : Expr → Start

  pub data Query : Type 0 where
    query : Start → Calls → Query

  pub data Calls : Type 0 where
    no_calls : Calls
    more_calls : Call → Calls → Calls

  pub data Call : Type 0 where
    plain : PlainCall → Call
    clause : ClauseCall → Expr → Call
    join_with : JoinKind → Source → MaybeExpr → Call
    find : Exprs → Call
    order : Items → Call
    then_order_by : Items → Call
    limit : ℤ → Call
    offset : ℤ → Call
    -- for the dialect of the request, where none is given
    into_boxed : Option Dialect → Call
    combine : Combinator → DuplicateRule → Query → Call
    positional_order_by : List PositionalItem → Call
