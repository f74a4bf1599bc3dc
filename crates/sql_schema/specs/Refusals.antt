-- When declarations can't stand together as a schema: what a database's CREATE TABLE would refuse (PostgreSQL, CREATE
-- TABLE; a table and its columns have one name each), or what leaves a look-up, a key or a relation without its column.
use Rattle.std.specs.Prelude.{List, [], ◌∷◌, ℕ, Bool, true, false, not, ◌&&◌, ◌||◌, Option, Some, None, if◌then◌else◌}
use Rattle.std.specs.List.{list_any}
use Rattle.std.specs.Option.{option_eq}
use Rattle.std.specs.Str.{bytes_eq}
use Rattle.sql_schema.specs.declared.declaration.ColumnDecl.{ColumnDecl}
use Rattle.sql_schema.specs.declared.declaration.TableDecl.{TableDecl}
use Rattle.sql_schema.specs.declared.declaration.JoinableDecl.{JoinableDecl}
use Rattle.sql_schema.specs.declared.types.Base.{Base}
use Rattle.sql_schema.specs.contracts.types.BasePartialEq.TheImpl as base_eq
use Rattle.sql_schema.specs.declared.error.SchemaError.{SchemaError}
use Rattle.sql_schema.specs.declared.error.SchemaError.TheVariants.{DuplicateTable, NoColumns, DuplicateColumn, UnknownKey, UnknownTable, BadJoinable}
use Rattle.sql_schema.specs.Columns.{table_named, column_named}
use Rattle.sql_schema.specs.Declarations.{Declarations}

-- two elements of the list, at different indexes, pass the test
abbrev pub any_two : {A : Type 0} → (A → A → Bool) → List A → Bool
any_two test [] = false
any_two test (x ∷ xs) = list_any (test x) xs || any_two test xs

abbrev pub is_empty : {A : Type 0} → List A → Bool
is_empty [] = true
is_empty (x ∷ xs) = false

-- ---- one: two tables of one name, or of one schema and SQL name

abbrev pub tables_clash : TableDecl → TableDecl → Bool
tables_clash a b = bytes_eq a.name b.name || (option_eq bytes_eq a.schema b.schema && bytes_eq a.sql_name b.sql_name)

abbrev pub has_duplicate_table : List TableDecl → Bool
has_duplicate_table tables = any_two tables_clash tables

-- ---- two: a table without columns

abbrev pub lacks_columns : TableDecl → Bool
lacks_columns t = is_empty t.columns

-- ---- three: two columns of a table with one name, or one SQL name

abbrev pub columns_clash : ColumnDecl → ColumnDecl → Bool
columns_clash a b = bytes_eq a.name b.name || bytes_eq a.sql_name b.sql_name

abbrev pub has_duplicate_column : TableDecl → Bool
has_duplicate_column t = any_two columns_clash t.columns

-- ---- four: a key that is empty, or names no column of its table

abbrev pub has_column : List ColumnDecl → List ℕ → Bool
has_column columns name = list_any (λ c. bytes_eq c.name name) columns

abbrev pub lacks_key : TableDecl → Bool
lacks_key t = is_empty t.primary_key || list_any (λ k. not (has_column t.columns k)) t.primary_key

-- ---- five: a relation, or a pair of tables allowed together, that names no table

abbrev pub has_table : List TableDecl → List ℕ → Bool
has_table tables name = list_any (λ t. bytes_eq t.name name) tables

abbrev pub lacks_table : List TableDecl → List ℕ → List ℕ → Bool
lacks_table tables a b = not (has_table tables a) || not (has_table tables b)

abbrev pub names_unknown_table : Declarations → Bool
names_unknown_table s =
    list_any (λ j. lacks_table s.tables j.child j.parent) s.joinables
    || list_any (λ p. lacks_table s.tables p.0 p.1) s.together

-- ---- six: a relation that can't stand

-- one table to the other, or the other to the one
abbrev pub relate_alike : JoinableDecl → JoinableDecl → Bool
relate_alike a b =
    (bytes_eq a.child b.child && bytes_eq a.parent b.parent) || (bytes_eq a.child b.parent && bytes_eq a.parent b.child)

abbrev pub same_base : Base → Base → Bool
same_base = (base_eq.ghosts).eq

-- the column of a key that has one alone
abbrev pub single_column : List (List ℕ) → List ColumnDecl → Option ColumnDecl
single_column [] columns = None
single_column (k ∷ []) columns = column_named columns k
single_column (k ∷ (l ∷ ks)) columns = None

-- there are a column and a key, of one base type
abbrev pub bases_agree : Option ColumnDecl → Option ColumnDecl → Bool
bases_agree None key = false
bases_agree (Some c) None = false
bases_agree (Some c) (Some k) = same_base c.ty.base k.ty.base

-- the child's column refers to the parent's key; where a table is missing, that is refused before
abbrev pub refers : Option TableDecl → Option TableDecl → List ℕ → Bool
refers None parent key = true
refers (Some child) None key = true
refers (Some child) (Some parent) key =
    bases_agree (column_named child.columns key) (single_column parent.primary_key parent.columns)

-- the child and the parent are one table, or the column doesn't refer to the key
abbrev pub is_bad_joinable : List TableDecl → JoinableDecl → Bool
is_bad_joinable tables j =
    bytes_eq j.child j.parent || not (refers (table_named tables j.child) (table_named tables j.parent) j.key)

abbrev pub has_bad_joinable : Declarations → Bool
has_bad_joinable s = list_any (λ j. is_bad_joinable s.tables j) s.joinables || any_two relate_alike s.joinables

-- ---- together

-- what is wrong with a table alone: two, three or four
abbrev pub is_unsound : TableDecl → Bool
is_unsound t = lacks_columns t || (has_duplicate_column t || lacks_key t)

-- the refusal of least number that holds
unfoldable pub least_refusal : Declarations → Option SchemaError
least_refusal s =
    if has_duplicate_table s.tables then Some DuplicateTable
    else if list_any lacks_columns s.tables then Some NoColumns
    else if list_any has_duplicate_column s.tables then Some DuplicateColumn
    else if list_any lacks_key s.tables then Some UnknownKey
    else if names_unknown_table s then Some UnknownTable
    else if has_bad_joinable s then Some BadJoinable
    else None
