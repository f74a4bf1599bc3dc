-- Tables and aliases in FROM, and the fields of an alias (PostgreSQL, SELECT, FROM Clause).
use Rattle.std.specs.Prelude.{ℕ, ℤ, Bool, true, false, List, [], ◌++◌, Option, Some, None, codes}
use Rattle.sql_schema.specs.declared.declaration.ColumnDecl.{ColumnDecl}
use Rattle.sql_schema.specs.declared.declaration.TableDecl.{TableDecl}
use Rattle.sql_pass.specs.Parts.{pieces_of_option}
use Rattle.sql_pass.specs.Paths.{dotted, table_pieces}
use Rattle.sql_pass.specs.Pieces.{Piece, one, Text, Ident, Bind}
use Rattle.sql_pass.specs.Bounds.{of_i16, of_i32}
use Rattle.sql_leaf.specs.declared.table_source.JoinKind.{JoinKind}
use Rattle.sql_leaf.specs.declared.table_source.JoinKind.TheVariants.{Inner, LeftOuter}
use Rattle.sql_leaf.specs.declared.table_source.Tablesample.{Tablesample}
use Rattle.sql_leaf.specs.declared.table_source.TablesampleMethod.{TablesampleMethod}
use Rattle.sql_leaf.specs.declared.table_source.TablesampleMethod.TheVariants.{BernoulliMethod, SystemMethod}

-- `"users" AS "u2"`
abbrev pub alias_pieces : List ℕ → TableDecl → List Piece
alias_pieces name t = table_pieces t ++ (one (Text (codes " AS ")) ++ one (Ident name))

-- `"u2"."id"`
abbrev pub field_pieces : List ℕ → ColumnDecl → List Piece
field_pieces alias c = one (Ident alias) ++ dotted c.sql_name

abbrev pub only_pieces : Bool → List Piece
only_pieces false = []
only_pieces true = one (Text (codes " ONLY "))

-- a join without its word JOIN
abbrev pub join_kind_sql : JoinKind → List ℕ
join_kind_sql Inner = codes " INNER"
join_kind_sql LeftOuter = codes " LEFT OUTER"

abbrev pub method_sql : TablesampleMethod → List ℕ
method_sql BernoulliMethod = codes "BERNOULLI"
method_sql SystemMethod = codes "SYSTEM"

-- what stands before the portion
abbrev pub method_open : TablesampleMethod → List ℕ
method_open BernoulliMethod = codes " TABLESAMPLE BERNOULLI("
method_open SystemMethod = codes " TABLESAMPLE SYSTEM("

unfoldable pub repeatable : List ℕ
repeatable = codes " REPEATABLE("

abbrev pub seed_pieces : Option ℤ → List Piece
seed_pieces None = []
seed_pieces (Some n) = one (Text repeatable) ++ (one (Bind (of_i32 n)) ++ one (Text (codes ")")))

-- ` TABLESAMPLE SYSTEM($1) REPEATABLE($2)`
abbrev pub sample_pieces : Tablesample → List Piece
sample_pieces s =
    one (Text (method_open s.method))
    ++ (one (Bind (of_i16 s.portion)) ++ (one (Text (codes ")")) ++ seed_pieces s.seed))

-- a table as it is read from, with or without the tables that inherit from it, whole or a sample of it
abbrev pub table_source_pieces : TableDecl → Bool → Option Tablesample → List Piece
table_source_pieces t only sample = only_pieces only ++ (table_pieces t ++ pieces_of_option sample_pieces sample)
