-- How tables and columns are named (PostgreSQL, Value Expressions, Column References).
use Rattle.std.specs.Prelude.{ℕ, List, ◌++◌, Option, Some, None, codes}
use Rattle.sql_schema.specs.Columns.{DeclaredColumn}
use Rattle.sql_schema.specs.declared.declaration.TableDecl.{TableDecl}
use Rattle.sql_pass.specs.Pieces.{Piece, one, Text, Ident}

-- a name after a dot
abbrev pub dotted : List ℕ → List Piece
dotted name = one (Text (codes ".")) ++ one (Ident name)

-- a name, after its schema where it has one
abbrev pub path_pieces : Option (List ℕ) → List ℕ → List Piece
path_pieces None name = one (Ident name)
path_pieces (Some schema) name = one (Ident schema) ++ dotted name

-- `"users"`, or `"foo"."bars"` in the schema foo
abbrev pub table_pieces : TableDecl → List Piece
table_pieces t = path_pieces t.schema t.sql_name

-- `"users"."id"`
abbrev pub column_pieces : DeclaredColumn → List Piece
column_pieces c = table_pieces c.table ++ dotted c.decl.sql_name
