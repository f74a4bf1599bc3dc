-- Which bytes are a document, and which document they are (RFC 8259, The JavaScript Object Notation).
use Rattle.std.specs.Prelude.{ℕ, List, codes, Option, Some, None, if◌then◌else◌}
use Rattle.std.specs.Str.{is_utf8}
use Rattle.serde_json.specs.Data.{Data}
use Rattle.serde_json.specs.Find.{get}
use Rattle.serde_json.specs.Read.{read}
use Rattle.serde_json.specs.Written.{has_float}
use Rattle.sql_dialect.specs.declared.backend.Dialect.{Dialect}
use Rattle.sql_schema.specs.Declarations.{Declarations}
use Rattle.sql_build_syntax.specs.Tree.{Query}
use Rattle.sql_tool_document.specs.Members.{text_at, items_at, each}
use Rattle.sql_tool_document.specs.Names.{dialect_of}
use Rattle.sql_tool_document.specs.Queries.{query_of, nesting_bound}
use Rattle.sql_tool_document.specs.Scalar.{◌>>=◌}
use Rattle.sql_tool_document.specs.Schemas.{schema_of}

-- a query for one dialect
pub record Request : Type 0 where
  pub dialect : Dialect
  pub query : Query

-- a schema and requests
pub record Document : Type 0 where
  pub schema : Declarations
  pub requests : List Request

-- REQUEST: `{"dialect":"Pg" or "Mysql" or "Sqlite" or "Bracket","query":QUERY}`
unfoldable pub request_of : Data → Option Request
request_of d = do
  name ← text_at (codes "dialect") d
  dialect ← dialect_of name
  query ← get (codes "query") d >>= query_of nesting_bound
  Some (record { dialect = dialect; query = query })

-- DOCUMENT: `{"schema":SCHEMA,"requests":[REQUEST..]}`
unfoldable pub document_of : Data → Option Document
document_of d = do
  schema ← get (codes "schema") d >>= schema_of
  items ← items_at (codes "requests") d
  requests ← each request_of items
  Some (record { schema = schema; requests = requests })

-- a value whose numbers all are whole and of 64 bits
abbrev pub without_floats : Data → Option Data
without_floats d = if has_float d then None else Some d

-- the value that the bytes are
unfoldable pub value_in : List ℕ → Option Data
value_in bytes = if is_utf8 bytes then read bytes >>= without_floats else None

-- the document that the bytes are
unfoldable pub document : List ℕ → Option Document
document bytes = value_in bytes >>= document_of

-- the schema of a document, whatever else the document has
unfoldable pub schema_at : Data → Option Declarations
schema_at d = get (codes "schema") d >>= schema_of

-- the schema of the document that the bytes are
unfoldable pub schema_in : List ℕ → Option Declarations
schema_in bytes = value_in bytes >>= schema_at
