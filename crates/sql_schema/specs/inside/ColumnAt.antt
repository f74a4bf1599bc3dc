-- The column at an index, as a `Column` keeps it.
use Rattle.std.specs.Prelude.{ℕ, [], None, false, get_or}
use Rattle.sql_schema.specs.declared.declaration.ColumnDecl.{ColumnDecl}
use Rattle.sql_schema.specs.declared.declaration.TableDecl.{TableDecl}
use Rattle.sql_schema.specs.declared.types.Base.TheVariants as Base
use Rattle.sql_schema.specs.Columns.{DeclaredColumn, column_of}

-- what an index past the last column gives
abbrev pub no_column : ColumnDecl
no_column = record { name = []; sql_name = []; ty = record { base = Base.SmallInt; nullable = false }; max_length = None }

abbrev pub column_at : TableDecl → ℕ → DeclaredColumn
column_at t i = column_of t (get_or t.columns i no_column)
