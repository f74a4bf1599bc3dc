-- LIMIT and OFFSET (PostgreSQL, SELECT, LIMIT Clause). SQLite and MySQL know no OFFSET without LIMIT (SQLite, SELECT, The
-- LIMIT clause; MySQL, SELECT Statement), and write a limit that leaves no row out before it. Bracket has the standard's
-- form (SQL:2016, 7.17 <query expression>, <result offset clause> and <fetch first clause>), where FETCH follows an OFFSET
-- always, as in SQL Server (ORDER BY Clause, Limiting the number of rows returned).
use Rattle.std.specs.Prelude.{ℕ, ℤ, Bool, true, false, List, [], ◌++◌, Option, Some, None, codes}
use Rattle.sql_dialect.specs.declared.backend.Dialect.{Dialect}
use Rattle.sql_dialect.specs.declared.backend.Dialect.TheVariants.{Pg, Mysql, Sqlite, Bracket}
use Rattle.sql_pass.specs.Pieces.{Piece, one, Text, Bind}
use Rattle.sql_pass.specs.Bounds.{of_i64}

unfoldable pub least_limit : List ℕ
least_limit = codes " LIMIT -1 "

unfoldable pub largest_limit : List ℕ
largest_limit = codes " LIMIT 18446744073709551615 "

unfoldable pub fetch_from_the_first : List ℕ
fetch_from_the_first = codes " OFFSET 0 ROWS FETCH NEXT "

unfoldable pub fetch_next : List ℕ
fetch_next = codes " FETCH NEXT "

unfoldable pub rows_only : List ℕ
rows_only = codes " ROWS ONLY"

-- ` LIMIT $1`
abbrev pub limit_pieces : ℤ → List Piece
limit_pieces n = one (Text (codes " LIMIT ")) ++ one (Bind (of_i64 n))

-- ` OFFSET $1`
abbrev pub offset_pieces : ℤ → List Piece
offset_pieces n = one (Text (codes " OFFSET ")) ++ one (Bind (of_i64 n))

-- ` OFFSET @p1 ROWS`
abbrev pub offset_rows_pieces : ℤ → List Piece
offset_rows_pieces n = one (Text (codes " OFFSET ")) ++ (one (Bind (of_i64 n)) ++ one (Text (codes " ROWS")))

-- a number of rows after those words: `@p1 ROWS ONLY`
abbrev pub fetch_pieces : List ℕ → ℤ → List Piece
fetch_pieces before n = one (Text before) ++ (one (Bind (of_i64 n)) ++ one (Text rows_only))

abbrev pub limit_alone : Dialect → ℤ → List Piece
limit_alone Pg l = limit_pieces l
limit_alone Mysql l = limit_pieces l
limit_alone Sqlite l = limit_pieces l
limit_alone Bracket l = fetch_pieces fetch_from_the_first l

-- MySQL has a limit before it in a boxed statement alone
abbrev pub offset_alone : Dialect → Bool → ℤ → List Piece
offset_alone Pg boxed o = offset_pieces o
offset_alone Mysql false o = offset_pieces o
offset_alone Mysql true o = one (Text largest_limit) ++ offset_pieces o
offset_alone Sqlite boxed o = one (Text least_limit) ++ offset_pieces o
offset_alone Bracket boxed o = offset_rows_pieces o

-- on Bracket the offset comes first
abbrev pub limit_and_offset : Dialect → ℤ → ℤ → List Piece
limit_and_offset Pg l o = limit_pieces l ++ offset_pieces o
limit_and_offset Mysql l o = limit_pieces l ++ offset_pieces o
limit_and_offset Sqlite l o = limit_pieces l ++ offset_pieces o
limit_and_offset Bracket l o = offset_rows_pieces o ++ fetch_pieces fetch_next l

-- the limit and the offset, in a boxed statement or not
abbrev pub limit_offset_pieces : Dialect → Bool → Option ℤ → Option ℤ → List Piece
limit_offset_pieces d boxed None None = []
limit_offset_pieces d boxed None (Some o) = offset_alone d boxed o
limit_offset_pieces d boxed (Some l) None = limit_alone d l
limit_offset_pieces d boxed (Some l) (Some o) = limit_and_offset d l o
