-- The expressions that calls make (diesel, `ExpressionMethods`, `BoolExpressionMethods`, `WhereAnd`, `WhereOr`).
use Rattle.std.specs.Prelude.{ℕ, Option, Some, None, List, false}
use Rattle.sql_schema.specs.declared.types.Base.{Base}
use Rattle.sql_pass.specs.declared.value.Value.{Value}
use Rattle.sql_pass.specs.declared.value.Bound.{Bound}
use Rattle.sql_pass.specs.declared.value.Bound.TheVariants.{Value as OneValue, List as ManyValues}
use Rattle.sql_schema.specs.Columns.{DeclaredColumn, column_of}
use Rattle.sql_schema.specs.declared.declaration.ColumnDecl.{ColumnDecl}
use Rattle.sql_schema.specs.declared.declaration.TableDecl.{TableDecl}
use Rattle.sql_leaf.specs.declared.operator.Logic.{Logic}
use Rattle.sql_node.specs.Tree.{Expr, column, value, joined, MaybeExpr, no_expr, an_expr}

-- a condition beside one that may be there: the first stands alone
abbrev pub beside : Logic → MaybeExpr → Expr → Expr
beside by no_expr e = e
beside by (an_expr old) e = joined by old e

-- a single value is an expression, a list of them none
abbrev pub value_of : Bound → Option Expr
value_of (OneValue t v) = Some (value t v)
value_of (ManyValues t vs) = None

-- a value, to be bound under the type of that base which has no NULL
abbrev pub bound_as : Base → Value → Expr
bound_as base v = value (record { base = base; nullable = false }) v

abbrev pub of_table : Option (List ℕ) → TableDecl → ColumnDecl → Option DeclaredColumn
of_table None t c = Some (column_of t c)
of_table (Some a) t c = None

-- the column that an expression is, unless it is the field of an alias
abbrev pub bare_column : Expr → Option DeclaredColumn
bare_column (column o c) = of_table o.alias o.table c
bare_column _ = None
