-- Which JSON is a schema, and which schema it is.
use Rattle.std.specs.Prelude.{ℕ, List, [], ◌∷◌, codes, Option, Some, None, is_some, if◌then◌else◌}
use Rattle.serde_json.specs.Data.{Data}
use Rattle.serde_json.specs.Find.{get, as_str, as_array}
use Rattle.sql_schema.specs.declared.declaration.ColumnDecl.{ColumnDecl}
use Rattle.sql_schema.specs.declared.declaration.TableDecl.{TableDecl}
use Rattle.sql_schema.specs.declared.declaration.JoinableDecl.{JoinableDecl}
use Rattle.sql_schema.specs.Declarations.{Declarations}
use Rattle.sql_schema.specs.Refusals.{least_refusal}
use Rattle.sql_tool_document.specs.Members.{if_any, text_at, text_or, items_at, each, each_if_any, two_of}
use Rattle.sql_tool_document.specs.Names.{type_of}
use Rattle.sql_tool_document.specs.Scalar.{◌>>=◌}

-- COLUMN: `{"name":text,["sql_name":text],"type":TYPE}`
unfoldable pub column_of : Data → Option ColumnDecl
column_of d = do
  name ← text_at (codes "name") d
  sql_name ← text_or (get (codes "sql_name") d) name
  type_name ← text_at (codes "type") d
  ty ← type_of type_name
  Some (record { name = name; sql_name = sql_name; ty = ty; max_length = None })

-- the names of the key, by default the one column `id`
abbrev pub key_of : Option Data → Option (List (List ℕ))
key_of None = Some (codes "id" ∷ [])
key_of (Some d) = as_array d >>= each as_str

-- TABLE: `{"name":text,["sql_name":text],["schema":text],["primary_key":[name..]],"columns":[COLUMN..]}`
unfoldable pub table_of : Data → Option TableDecl
table_of d = do
  name ← text_at (codes "name") d
  sql_name ← text_or (get (codes "sql_name") d) name
  schema ← if_any as_str (get (codes "schema") d)
  key ← key_of (get (codes "primary_key") d)
  items ← items_at (codes "columns") d
  columns ← each column_of items
  Some (record { name = name; sql_name = sql_name; schema = schema; columns = columns; primary_key = key })

-- JOINABLE: `{"child":name,"key":name,"parent":name}`
unfoldable pub joinable_of : Data → Option JoinableDecl
joinable_of d = do
  child ← text_at (codes "child") d
  key ← text_at (codes "key") d
  parent ← text_at (codes "parent") d
  Some (record { child = child; key = key; parent = parent })

-- `[name,name]`, the names of two tables that may stand in one statement
unfoldable pub names_of : Data → Option (List ℕ × List ℕ)
names_of d = do
  two ← two_of d
  a ← as_str two.0
  b ← as_str two.1
  Some (a, b)

-- declarations that make a schema
unfoldable pub sound : Declarations → Option Declarations
sound s = if is_some (least_refusal s) then None else Some s

-- SCHEMA: `{"tables":[TABLE..],["joinable":[JOINABLE..]],["together":[[name,name]..]]}`
unfoldable pub schema_of : Data → Option Declarations
schema_of d = do
  items ← items_at (codes "tables") d
  tables ← each table_of items
  joinables ← each_if_any joinable_of (get (codes "joinable") d)
  together ← each_if_any names_of (get (codes "together") d)
  sound (record { tables = tables; joinables = joinables; together = together })
