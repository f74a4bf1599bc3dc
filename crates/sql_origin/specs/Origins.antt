-- The origins of rows: a table, or an alias of one (PostgreSQL, SELECT, FROM Clause; diesel, `QuerySource`, `Alias`).
use Rattle.std.specs.Prelude.{ℕ, List, [], ◌∷◌, Bool, ◌&&◌, Option, None, Some}
use Rattle.std.specs.Option.{option_eq}
use Rattle.std.specs.Str.{bytes_eq}
use Rattle.sql_schema.specs.Columns.{DeclaredColumn}
use Rattle.sql_schema.specs.Equality.{same_table}
use Rattle.sql_schema.specs.declared.declaration.ColumnDecl.{ColumnDecl}
use Rattle.sql_schema.specs.declared.declaration.TableDecl.{TableDecl}
use Rattle.sql_leaf.specs.declared.alias.AliasedField.{AliasedField}
use Rattle.sql_node.specs.Tree.{Origin, Expr, column}

abbrev pub a_table : TableDecl → Origin
a_table t = record { alias = None; table = t }

abbrev pub an_alias : List ℕ → TableDecl → Origin
an_alias a t = record { alias = Some a; table = t }

-- what a column is one of
abbrev pub column_origin : DeclaredColumn → Origin
column_origin c = a_table c.table

abbrev pub field_origin : AliasedField → Origin
field_origin f = an_alias f.alias f.column.table

-- a column of a table, or under its alias
abbrev pub column_under : Option (List ℕ) → DeclaredColumn → Expr
column_under alias c = column (record { alias = alias; table = c.table }) c.decl

abbrev pub same_origin : Origin → Origin → Bool
same_origin a b = option_eq bytes_eq a.alias b.alias && same_table a.table b.table

abbrev pub table_path : Option (List ℕ) → List ℕ → List (List ℕ)
table_path None name = name ∷ []
table_path (Some schema) name = schema ∷ (name ∷ [])

abbrev pub path_under : Option (List ℕ) → TableDecl → List (List ℕ)
path_under None t = table_path t.schema t.sql_name
path_under (Some alias) t = alias ∷ []

-- The names by which the rest of a statement knows it: the alias alone, or the schema where there is one and the name in
-- SQL.
abbrev pub exposed_path : Origin → List (List ℕ)
exposed_path o = path_under o.alias o.table
