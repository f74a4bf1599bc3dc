-- The schema that requests are generated over.
use Rattle.std.specs.Prelude.{ℕ, List, [], ◌∷◌, false, codes, Option, Some, None}
use Rattle.sql_schema.specs.Declarations.{Declarations}
use Rattle.sql_schema.specs.declared.declaration.ColumnDecl.{ColumnDecl}
use Rattle.sql_schema.specs.declared.declaration.JoinableDecl.{JoinableDecl}
use Rattle.sql_schema.specs.declared.declaration.TableDecl.{TableDecl}
use Rattle.sql_schema.specs.declared.types.Base.{Base}
use Rattle.sql_schema.specs.declared.types.Base.TheVariants.{Integer, Text}

-- a column that is never NULL, with its lookup name and the name that is written
abbrev pub column_as : List ℕ → List ℕ → Base → ColumnDecl
column_as name written base =
    record { name = name; sql_name = written; ty = record { base = base; nullable = false }; max_length = None }

abbrev pub integer : List ℕ → ColumnDecl
integer name = column_as name name Integer

abbrev pub text : List ℕ → ColumnDecl
text name = column_as name name Text

-- a table with its lookup name, its schema, the name that is written, its columns and its key
abbrev pub table_as : List ℕ → Option (List ℕ) → List ℕ → List ColumnDecl → List (List ℕ) → TableDecl
table_as name schema written columns key =
    record { name = name; sql_name = written; schema = schema; columns = columns; primary_key = key }

abbrev pub id : ColumnDecl
id = integer (codes "id")

abbrev pub id_key : List (List ℕ)
id_key = codes "id" ∷ []

-- ---- tables that no generated request reads

abbrev pub foo : TableDecl
foo =
    table_as (codes "foo") None (codes "foo")
    (id ∷ (column_as (codes "mytype") (codes "type") Integer ∷ (column_as (codes "hey") (codes "bleh") Integer ∷ [])))
    id_key

abbrev pub bars : TableDecl
bars =
    table_as (codes "bars") (Some (codes "foo")) (codes "bars") (id ∷ (text (codes "baz") ∷ [])) id_key

abbrev pub bar : TableDecl
bar = table_as (codes "bar") None (codes "mod") (id ∷ []) id_key

abbrev pub q : TableDecl
q = table_as (codes "q") None (codes "a\"b") (id ∷ []) id_key

abbrev pub members : TableDecl
members =
    table_as (codes "members") None (codes "members")
    (integer (codes "user_id") ∷ (integer (codes "group_id") ∷ []))
    (codes "user_id" ∷ (codes "group_id" ∷ []))

-- ---- tables that they read

abbrev pub name : ColumnDecl
name = text (codes "name")

unfoldable pub users : TableDecl
users = table_as (codes "users") None (codes "users") (id ∷ (name ∷ [])) id_key

abbrev pub user_id : ColumnDecl
user_id = integer (codes "user_id")

abbrev pub title : ColumnDecl
title = text (codes "title")

unfoldable pub posts : TableDecl
posts = table_as (codes "posts") None (codes "posts") (id ∷ (user_id ∷ (title ∷ []))) id_key

-- ---- all of them, a relation, and two that may stand in one statement

abbrev pub posts_of_users : JoinableDecl
posts_of_users = record { child = codes "posts"; key = codes "user_id"; parent = codes "users" }

unfoldable pub declarations : Declarations
declarations =
    record {
      tables = foo ∷ (bars ∷ (bar ∷ (q ∷ (users ∷ (posts ∷ (members ∷ []))))));
      joinables = posts_of_users ∷ [];
      together = (codes "users", codes "posts") ∷ [];
    }
