-- Rows: which of a list are left, how they are ordered, cut and counted (PostgreSQL, SELECT: WHERE Clause, ORDER BY Clause,
-- LIMIT Clause; Combining Queries).
use Rattle.std.specs.Prelude.{◌≡◌, ℕ, zero, suc, ◌+◌, ◌-◌, min, ℤ, pos, Bool, true, false, not, ◌&&◌, ◌||◌, List, [], ◌∷◌, ◌++◌, get_or, take, drop, Option, Some, nat_eq, if◌then◌else◌, IsPermutation, IsSortedBy}
use Rattle.std.specs.Cmp.Lexicographic.{pointwise}
use Rattle.sql_dialect.specs.declared.backend.Dialect.{Dialect}
use Rattle.sql_dialect.specs.declared.backend.Dialect.TheVariants.{Pg, Mysql, Sqlite, Bracket}
use Rattle.sql_dialect.specs.declared.combination.Combinator.{Combinator}
use Rattle.sql_dialect.specs.declared.combination.Combinator.TheVariants.{Union, Intersect, Except}
use Rattle.sql_dialect.specs.declared.combination.DuplicateRule.{DuplicateRule}
use Rattle.sql_dialect.specs.declared.combination.DuplicateRule.TheVariants as duplicates
use Rattle.sql_pass.specs.declared.value.Value.{Value}
use Rattle.sql_pass.specs.declared.value.Value.TheVariants as V
use Rattle.sql_leaf.specs.declared.limit_offset.LimitOffsetClause.{LimitOffsetClause}
use Rattle.sql_leaf.specs.declared.position.Direction.{Direction}
use Rattle.sql_leaf.specs.declared.position.Direction.TheVariants as direction
use Rattle.sql_leaf.specs.declared.position.PositionalItem.{PositionalItem}
use Rattle.sql_rows_meaning.specs.Values.{same_value, is_below}

abbrev pub Row : Type 0
Row = List Value

-- the same values in the same order
abbrev pub same_row : Row → Row → Bool
same_row = pointwise same_value

-- ---- parts of a list

-- The second list is those of the first for which the test gives true, in order.
pub data Filtered {A : Type 0} (Test : A → Bool → Type 0) : List A → List A → Type 0 where
  none : Filtered Test [] []
  kept : {x : A} {xs out : List A} → Test x true → Filtered Test xs out → Filtered Test (x ∷ xs) (x ∷ out)
  dropped : {x : A} {xs out : List A} → Test x false → Filtered Test xs out → Filtered Test (x ∷ xs) out

-- ys is xs in any order, without some of them where it may lack some.
pub record IsPart {A : Type 0} (may_lack : Bool) (xs ys : List A) : Type 0 where
  -- those that it lacks
  pub rest : List A
  pub order : IsPermutation xs (ys ++ rest)
  pub whole : may_lack ≡ false → rest ≡ []

-- ---- ORDER BY (PostgreSQL, Sorting Rows)

abbrev pub descends : Direction → Bool
descends direction.None = false
descends direction.Asc = false
descends direction.Desc = true

-- Where NULL comes: whether it is first by an item that ascends, and by one that descends. It is a choice of the server.
pub record NullPlaces : Type 0 where
  pub ascending : Bool
  pub descending : Bool

abbrev pub as_greatest : NullPlaces
as_greatest = record { ascending = false; descending = true }

abbrev pub as_least : NullPlaces
as_least = record { ascending = true; descending = false }

-- PostgreSQL takes NULL for greater than every value (Sorting Rows), MySQL (Working with NULL Values), SQLite (SELECT, The ORDER
-- BY clause) and Bracket for less.
abbrev pub null_places : Dialect → NullPlaces
null_places Pg = as_greatest
null_places Mysql = as_least
null_places Sqlite = as_least
null_places Bracket = as_least

abbrev pub nulls_first : NullPlaces → Direction → Bool
nulls_first places by = if descends by then places.descending else places.ascending

-- whether x has to come before y by one item
abbrev pub comes_before : NullPlaces → Direction → Value → Value → Bool
comes_before places by V.Null V.Null = false
comes_before places by V.Null y = nulls_first places by
comes_before places by x V.Null = not (nulls_first places by)
comes_before places by x y = if descends by then is_below y x else is_below x y

-- the same of rows of order values, by the first item in which they differ
abbrev pub row_before : NullPlaces → List Direction → Row → Row → Bool
row_before places (by ∷ items) (x ∷ xs) (y ∷ ys) =
    comes_before places by x y
    || (not (comes_before places by y x) && row_before places items xs ys)
row_before places _ _ _ = false

-- no row has to come before its predecessor
abbrev pub IsOrdered : NullPlaces → List Direction → List Row → Type 0
IsOrdered places items keys = IsSortedBy (row_before places items) keys

-- the value of the n-th column, counted from 1; a number that is no column's gives the same for all rows, so it orders nothing
abbrev pub value_at : ℕ → Row → Value
value_at zero row = V.Null
value_at (suc n) row = get_or row n V.Null

abbrev pub values_at : List PositionalItem → Row → Row
values_at [] row = []
values_at (i ∷ is) row = value_at i.column.0 row ∷ values_at is row

-- ---- LIMIT and OFFSET (PostgreSQL, LIMIT and OFFSET)

abbrev pub skipped : Option ℤ → ℕ
skipped (Some (pos n)) = n
skipped _ = 0

abbrev pub limited : {A : Type 0} → Option ℤ → List A → List A
limited (Some (pos n)) xs = take n xs
limited _ xs = xs

-- OFFSET skips rows, and LIMIT takes of those after them. A negative limit takes all, a negative offset skips none, as SQLite
-- has them (SQLite, SELECT, The LIMIT clause).
abbrev pub page : {A : Type 0} → LimitOffsetClause → List A → List A
page c xs = limited c.limit_clause (drop (skipped c.offset_clause) xs)

-- ---- UNION, INTERSECT, EXCEPT (PostgreSQL, Combining Queries)

-- how often a list has a row
abbrev pub count_row : Row → List Row → ℕ
count_row row [] = 0
count_row row (x ∷ xs) = if same_row row x then suc (count_row row xs) else count_row row xs

-- how often a combination has a row that its sides have m and n times
abbrev pub combined : Combinator → DuplicateRule → ℕ → ℕ → ℕ
combined Union duplicates.All m n = m + n
combined Union duplicates.Distinct m n = min 1 (m + n)
combined Intersect duplicates.All m n = min m n
combined Intersect duplicates.Distinct m n = min 1 (min m n)
combined Except duplicates.All m n = m - n
combined Except duplicates.Distinct m n = if nat_eq n 0 then min 1 m else 0
