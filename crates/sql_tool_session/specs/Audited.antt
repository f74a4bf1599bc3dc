-- What becomes of texts that are audited over the schema of a session.
use Rattle.std.specs.Prelude.{◌≡◌, ℕ, List, ◌++◌, length, Option, Some, None, nat_eq, nat_lt, if◌then◌else◌}
use Rattle.sql_dialect.specs.declared.backend.Dialect.{Dialect}
use Rattle.sql_schema.specs.Declarations.{Declarations}
use Rattle.sql_tool_audit.specs.Output.{IsAuditOutput}
use Rattle.sql_tool_document.specs.Scalar.{◌>>=◌}
use Rattle.sql_tool_document.specs.Texts.{Texts, texts_in}
use Rattle.sql_tool_run.specs.Limits.{greatest_input}
use Rattle.sql_tool_run.specs.Run.{status_from}
use Rattle.sql_tool_run.specs.declared.status.Status.{Status}
use Rattle.sql_tool_run.specs.declared.status.Status.TheVariants.{TooLarge}

-- the texts over this schema, where they declare no table of their own
abbrev pub over : Declarations → Texts → Option Texts
over schema x =
    if nat_eq (length x.schema.tables) 0 then Some (record { schema = schema; texts = x.texts }) else None

-- the texts that the bytes are, over this schema
unfoldable pub texts_over : Declarations → List ℕ → Option Texts
texts_over schema bytes = texts_in bytes >>= over schema

-- these are the lines of all texts, as `audit D` writes them over the schema
abbrev pub IsAuditedOver : Declarations → Dialect → List ℕ → List ℕ → Type 0
IsAuditedOver schema d bytes written = (x : Texts) × (texts_over schema bytes ≡ Some x) × IsAuditOutput d x written

-- these are the lines of the first texts
abbrev pub IsStartOf : Dialect → Texts → List ℕ → Type 0
IsStartOf d x written =
    (some later : List (List ℕ)) × (x.texts ≡ some ++ later)
    × IsAuditOutput d (record { schema = x.schema; texts = some }) written

abbrev pub IsAuditedPartly : Declarations → Dialect → List ℕ → List ℕ → Type 0
IsAuditedPartly schema d bytes written = (x : Texts) × (texts_over schema bytes ≡ Some x) × IsStartOf d x written

-- the status of such a call, unless memory runs out
abbrev pub auditing_status : Declarations → List ℕ → Status
auditing_status schema bytes =
    if nat_lt greatest_input (length bytes) then TooLarge else status_from (texts_over schema bytes)
