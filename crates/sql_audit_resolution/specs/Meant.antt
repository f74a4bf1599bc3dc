-- The meanings of the paths of a text, by the tables of a schema (PostgreSQL, Value Expressions, Column References).
use Rattle.std.specs.Prelude.{ℕ, List, [], ◌∷◌, Bool, Option, None, Some, find, option_map, if◌then◌else◌}
use Rattle.std.specs.Cmp.Lexicographic.{pointwise}
use Rattle.std.specs.List.{filter_map, starts_with}
use Rattle.std.specs.Option.{option_to_list}
use Rattle.std.specs.Str.{bytes_eq}
use Rattle.sql_grammar.specs.MarkTree.{Name}
use Rattle.sql_schema.specs.declared.declaration.TableDecl.{TableDecl}
use Rattle.sql_audit_resolution.specs.Leaves.{Backwards, Leaf, Level}
use Rattle.sql_audit_resolution.specs.Uses.{Use}
use Rattle.sql_audit_resolution.specs.declared.column_use.ColumnUse.{ColumnUse}
use Rattle.sql_audit_resolution.specs.declared.column_use.Meaning.{Meaning}
use Rattle.sql_audit_resolution.specs.declared.column_use.Meaning.TheVariants.{Nothing, Several, Column}

-- ## Tables

-- the SQL name, and the schema's name where there is one
abbrev pub path_of_table : TableDecl → Backwards
path_of_table t = t.sql_name ∷ option_to_list t.schema

-- the table that has this path
abbrev pub table_at : List TableDecl → Backwards → Option TableDecl
table_at ts path = find (λ t. pointwise bytes_eq (path_of_table t) path) ts

-- the name by which that table is looked up
abbrev pub name_at : List TableDecl → Backwards → Option Name
name_at ts path = option_map (λ t. t.name) (table_at ts path)

-- ## Columns

abbrev pub column_at : ℕ → Option TableDecl → Name → Option ColumnUse
column_at n None sql_name = None
column_at n (Some t) sql_name =
    option_map (λ c. record { table = t.name; column = c.name; leaf = n })
    (find (λ c. bytes_eq c.sql_name sql_name) t.columns)

-- A path names a leaf where the path without its last name is the end of the leaf's exposed path, and its last name is the SQL
-- name of a column of the leaf's table: that column, of that leaf.
abbrev pub named : List TableDecl → Backwards → Leaf → Option ColumnUse
named ts [] leaf = None
named ts (sql_name ∷ front) leaf =
    if starts_with bytes_eq leaf.exposed front then column_at leaf.number (table_at ts leaf.table) sql_name else None

-- the columns that the path names in a level
abbrev pub named_in : List TableDecl → Backwards → Level → List ColumnUse
named_in ts path l = filter_map (named ts path) l

-- the one column, or further out where there is none
abbrev pub one_of : List ColumnUse → Meaning → Meaning
one_of [] further = further
one_of (c ∷ []) further = Column c
one_of (c ∷ (d ∷ more)) further = Several

-- A path stands for the column that it names at the first level where it names one.
abbrev pub sought : List TableDecl → Backwards → List Level → Meaning
sought ts path [] = Nothing
sought ts path (l ∷ ls) = one_of (named_in ts path l) (sought ts path ls)

abbrev pub meaning : List TableDecl → Use → Meaning
meaning ts x = sought ts x.path x.levels
