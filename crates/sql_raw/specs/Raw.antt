-- Raw queries: text that is written by hand, and values whose placeholders stand in it (diesel, `SqlQuery`, `UncheckedBind`).
use Rattle.std.specs.Prelude.{ℕ, List, ◌++◌, string_bytes}
use Rattle.sql_pass.specs.Pieces.{Piece, one, Text, ValueOnly, Unsafe}
use Rattle.sql_pass.specs.declared.value.Bound.{Bound}
use Rattle.sql_raw.specs.declared.raw.SqlQuery.{SqlQuery}
use Rattle.sql_raw.specs.declared.raw.UncheckedBind.{UncheckedBind}

-- what comes before the text
abbrev pub inner_part : {I : Type 0} → SqlQuery I → I
inner_part q = q.inner

abbrev pub query_text : {I : Type 0} → SqlQuery I → List ℕ
query_text q = string_bytes q.query

-- what a value is bound to
abbrev pub bound_query : {Q : Type 0} → UncheckedBind Q → Q
bound_query b = b.query

abbrev pub bound_value : {Q : Type 0} → UncheckedBind Q → Bound
bound_value b = b.value

-- the inner part and the text, never safe to cache
abbrev pub sql_pieces : {I : Type 0} → (I → List Piece) → SqlQuery I → List Piece
sql_pieces inner q = one Unsafe ++ (inner (inner_part q) ++ one (Text (query_text q)))

-- the query, and a value that writes nothing
abbrev pub bind_pieces : {Q : Type 0} → (Q → List Piece) → UncheckedBind Q → List Piece
bind_pieces query b = query (bound_query b) ++ one (ValueOnly (bound_value b))
