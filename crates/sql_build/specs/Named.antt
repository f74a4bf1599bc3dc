-- Names looked up in a schema.
use Rattle.std.specs.Prelude.{ℕ, List, Bool, true, false, Option, Some, None, option_and_then, option_map}
use Rattle.sql_schema.specs.Columns.{DeclaredColumn, table_named, column_in}
use Rattle.sql_schema.specs.declared.declaration.TableDecl.{TableDecl}
use Rattle.sql_node.specs.Tree.{Expr, Source, of_table as table_source, of_alias as alias_source}
use Rattle.sql_origin.specs.Origins.{column_under}
use Rattle.sql_build_syntax.specs.declared.name.AliasName.{AliasName}
use Rattle.sql_build_syntax.specs.declared.name.ColumnName.{ColumnName}
use Rattle.sql_build_syntax.specs.declared.name.FieldName.{FieldName}
use Rattle.sql_build_syntax.specs.declared.name.TableName.{TableName}

-- ---- none, where a name is not found

infixl 10 ◌>>=◌
abbrev pub ◌>>=◌ : {A B : Type 0} → Option A → (A → Option B) → Option B
o >>= f = option_and_then f o

-- of two things that may be there, where both are
abbrev pub both : {A B C : Type 0} → (A → B → C) → Option A → Option B → Option C
both f None b = None
both f (Some x) b = option_map (f x) b

-- a thing that may be there, where a condition holds
abbrev pub only_where : {A : Type 0} → Option A → Bool → Option A
only_where None b = None
only_where (Some x) true = Some x
only_where (Some x) false = None

-- ---- names

-- the column of that table, by both lookup names
unfoldable pub column_called : List TableDecl → List ℕ → List ℕ → Option DeclaredColumn
column_called tables table column = table_named tables table >>= λ t. column_in t column

abbrev pub named_column : List TableDecl → ColumnName → Option Expr
named_column tables n = option_map (column_under None) (column_called tables n.table n.column)

-- a column under the alias of its table
abbrev pub named_field : List TableDecl → FieldName → Option Expr
named_field tables n = option_map (column_under (Some n.alias)) (column_called tables n.table n.column)

abbrev pub named_table : List TableDecl → TableName → Option Source
named_table tables n = option_map (λ t. table_source t n.only n.sample) (table_named tables n.table)

abbrev pub named_alias : List TableDecl → AliasName → Option Source
named_alias tables n = option_map (λ t. alias_source n.alias t) (table_named tables n.of)
