-- Raw queries to which text and values are appended (diesel, `BoxedSqlQuery`).
use Rattle.std.specs.Prelude.{ℕ, List, [], ◌∷◌, ◌++◌, string_bytes}
use Rattle.sql_pass.specs.Pieces.{Piece, one, Text, ValueOnly, Unsafe}
use Rattle.sql_pass.specs.declared.value.Bound.{Bound}
use Rattle.sql_raw.specs.declared.boxed.BoxedSqlQuery.{BoxedSqlQuery}

-- the query that was boxed
abbrev pub boxed_query : {DB Q : Type 0} → BoxedSqlQuery DB Q → Q
boxed_query b = b.query

-- the text and the values that were appended
abbrev pub appended : {DB Q : Type 0} → BoxedSqlQuery DB Q → List ℕ
appended b = string_bytes b.sql

abbrev pub boxed_values : {DB Q : Type 0} → BoxedSqlQuery DB Q → List Bound
boxed_values b = b.binds.items

-- values that write nothing
abbrev pub values_only : List Bound → List Piece
values_only [] = []
values_only (v ∷ vs) = one (ValueOnly v) ++ values_only vs

abbrev pub boxed_pieces : {DB Q : Type 0} → (Q → List Piece) → BoxedSqlQuery DB Q → List Piece
boxed_pieces query b =
    one Unsafe ++ (query (boxed_query b) ++ (one (Text (appended b)) ++ values_only (boxed_values b)))
