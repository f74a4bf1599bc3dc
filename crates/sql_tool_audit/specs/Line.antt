-- The line of an audited text: the JSON object (RFC 8259) of its report, or its refusal's name, and a newline.
use Rattle.std.specs.Prelude.{◌≡◌, ◌≢◌, ◌⊎◌, ℕ, List, [], ◌∷◌, ◌++◌, map, codes}
use Rattle.serde_json.specs.Data.{Data, number, string, array, object, unsigned, no_items, item, no_members, member}
use Rattle.serde_json.specs.View.{items_of}
use Rattle.serde_json.specs.Written.{compact_text}
use Rattle.sql_dialect.specs.declared.backend.Dialect.{Dialect}
use Rattle.sql_schema.specs.declared.declaration.TableDecl.{TableDecl}
use Rattle.sql_audit_resolution.specs.declared.column_use.ColumnUse.{ColumnUse}
use Rattle.sql_audit.specs.Report.{IsRefused, IsReported}
use Rattle.sql_audit.specs.declared.error.AuditError.{AuditError}
use Rattle.sql_audit.specs.declared.error.AuditError.TheVariants.{NotInGrammar, UnknownTable, NotInScope, Ambiguous, NoMemory}
use Rattle.sql_audit.specs.declared.report.AuditReport.{AuditReport}

-- `["users","id"]`
abbrev pub column_data : ColumnUse → Data
column_data u = array (item (string u.table) (item (string u.column) no_items))

-- the index of the leaf that a column comes from
abbrev pub source_data : ColumnUse → Data
source_data u = number (unsigned u.leaf)

-- `{"columns":[["users","id"]],"sources":[0],"tables":["users"]}`
abbrev pub report_data : AuditReport → Data
report_data r =
    object (member (codes "columns") (array (items_of (map column_data r.uses)))
    (member (codes "sources") (array (items_of (map source_data r.uses)))
    (member (codes "tables") (array (items_of (map string r.tables))) no_members)))

abbrev pub refused : List ℕ → Data
refused name = object (member (codes "refused") (string name) no_members)

abbrev pub refusal_text : AuditError → List ℕ
refusal_text NotInGrammar = codes "NotInGrammar"
refusal_text UnknownTable = codes "UnknownTable"
refusal_text NotInScope = codes "NotInScope"
refusal_text Ambiguous = codes "Ambiguous"
refusal_text NoMemory = codes "NoMemory"

-- The object of a text over the tables: of its report, or of the first refusal that holds of it.
abbrev pub IsAuditObject : Dialect → List TableDecl → List ℕ → Data → Type 0
IsAuditObject d ts text o =
    ((r : AuditReport) × IsReported d ts text r × (o ≡ report_data r))
    ⊎ ((e : AuditError) × (e ≢ NoMemory) × IsRefused d ts text e × (o ≡ refused (refusal_text e)))

-- compact JSON, and a newline
abbrev pub IsAuditLine : Dialect → List TableDecl → List ℕ → List ℕ → Type 0
IsAuditLine d ts text line = (o : Data) × IsAuditObject d ts text o × (line ≡ compact_text o ++ 10 ∷ [])
