-- A schema and texts.
use Rattle.std.specs.Prelude.{ℕ, List, codes, Option, Some}
use Rattle.serde_json.specs.Data.{Data}
use Rattle.serde_json.specs.Find.{get, as_str}
use Rattle.sql_schema.specs.Declarations.{Declarations}
use Rattle.sql_tool_document.specs.Documents.{value_in}
use Rattle.sql_tool_document.specs.Members.{items_at, each}
use Rattle.sql_tool_document.specs.Scalar.{◌>>=◌}
use Rattle.sql_tool_document.specs.Schemas.{schema_of}

pub record Texts : Type 0 where
  pub schema : Declarations
  pub texts : List (List ℕ)

-- TEXTS: `{"schema":SCHEMA,"texts":[text..]}`
unfoldable pub texts_of : Data → Option Texts
texts_of d = do
  schema ← get (codes "schema") d >>= schema_of
  items ← items_at (codes "texts") d
  texts ← each as_str items
  Some (record { schema = schema; texts = texts })

-- the schema and texts that the bytes are
unfoldable pub texts_in : List ℕ → Option Texts
texts_in bytes = value_in bytes >>= texts_of
