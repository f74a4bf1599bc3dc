-- The pieces of what may be absent, and of a side.
use Rattle.std.specs.Prelude.{ℕ, List, [], ◌++◌, Option, Some, None, codes}
use Rattle.sql_dialect.specs.declared.backend.Dialect.{Dialect}
use Rattle.sql_dialect.specs.declared.backend.Dialect.TheVariants.{Pg, Mysql, Sqlite, Bracket}
use Rattle.sql_pass.specs.Pieces.{Piece, one, Text}

abbrev pub pieces_of_option : {T : Type 0} → (T → List Piece) → Option T → List Piece
pieces_of_option f None = []
pieces_of_option f (Some x) = f x

unfoldable pub from_open : List ℕ
from_open = codes "SELECT * FROM ("

-- The text before a query that is a side of a combination. SQLite takes no brackets there (SELECT, Compound Select
-- Statements): the query is read from as a table.
unfoldable pub side_open : Dialect → List ℕ
side_open Pg = codes "("
side_open Mysql = codes "("
side_open Sqlite = from_open
side_open Bracket = codes "("

-- a query as a side of a combination
abbrev pub side : Dialect → List Piece → List Piece
side d q = one (Text (side_open d)) ++ (q ++ one (Text (codes ")")))
