-- The values of the parts that have some of their own: rows that are left out or given, and samples.
use Rattle.std.specs.Prelude.{◌≡◌, true, ℤ, List, [], ◌∷◌, ◌++◌, Option, Some, None}
use Rattle.sql_dialect.specs.declared.backend.Dialect.{Dialect}
use Rattle.sql_dialect.specs.declared.backend.Dialect.TheVariants.{Pg, Mysql, Sqlite, Bracket}
use Rattle.sql_pass.specs.Bounds.{of_i16, of_i32, of_i64}
use Rattle.sql_pass.specs.Pieces.{Piece, values_of, is_safe}
use Rattle.sql_pass.specs.declared.value.Bound.{Bound}
use Rattle.sql_leaf.specs.declared.table_source.Tablesample.{Tablesample}

abbrev pub big_values : Option ℤ → List Bound
big_values None = []
big_values (Some n) = of_i64 n ∷ []

-- on Bracket the offset comes first
abbrev pub row_values : Dialect → Option ℤ → Option ℤ → List Bound
row_values Pg l o = big_values l ++ big_values o
row_values Mysql l o = big_values l ++ big_values o
row_values Sqlite l o = big_values l ++ big_values o
row_values Bracket l o = big_values o ++ big_values l

abbrev pub seed_values : Option ℤ → List Bound
seed_values None = []
seed_values (Some n) = of_i32 n ∷ []

abbrev pub sample_values : Option Tablesample → List Bound
sample_values None = []
sample_values (Some s) = of_i16 s.portion ∷ seed_values s.seed

-- pieces that bind nothing, none of them unsafe
abbrev pub IsPlain : List Piece → Type 0
IsPlain ps = (values_of ps ≡ []) × (is_safe ps ≡ true)
