-- Columns with their tables.
use Rattle.std.specs.Prelude.{ℕ, List, Option, map, find, option_map}
use Rattle.std.specs.Str.{bytes_eq}
use Rattle.sql_schema.specs.declared.declaration.ColumnDecl.{ColumnDecl}
use Rattle.sql_schema.specs.declared.declaration.TableDecl.{TableDecl}

-- a column with the table that it is declared in
pub record DeclaredColumn : Type 0 where
  pub table : TableDecl
  pub decl : ColumnDecl

abbrev pub column_of : TableDecl → ColumnDecl → DeclaredColumn
column_of t c = record { table = t; decl = c }

-- the table of that name
abbrev pub table_named : List TableDecl → List ℕ → Option TableDecl
table_named tables name = find (λ t. bytes_eq t.name name) tables

-- the column of that name
abbrev pub column_named : List ColumnDecl → List ℕ → Option ColumnDecl
column_named columns name = find (λ c. bytes_eq c.name name) columns

abbrev pub column_in : TableDecl → List ℕ → Option DeclaredColumn
column_in t name = option_map (λ c. column_of t c) (column_named t.columns name)

-- all columns of a table, in order
abbrev pub columns_in : TableDecl → List DeclaredColumn
columns_in t = map (λ c. column_of t c) t.columns
