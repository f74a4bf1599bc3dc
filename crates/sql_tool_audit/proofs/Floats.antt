-- No number of a line is a float.
use Rattle.std.proofs.Common.{◌≡◌, ◌∙◌, ℕ, List, [], ◌∷◌, map, false, refl, ap, inl, inr}
use Rattle.serde_json.specs.Data.{Data, string}
use Rattle.serde_json.specs.View.{items_of}
use Rattle.serde_json.specs.Written.{has_float, items_have_float}
use Rattle.sql_dialect.specs.declared.backend.Dialect.{Dialect}
use Rattle.sql_schema.specs.declared.declaration.TableDecl.{TableDecl}
use Rattle.sql_audit_resolution.specs.declared.column_use.ColumnUse.{ColumnUse}
use Rattle.sql_audit.specs.declared.report.AuditReport.{AuditReport}
use Rattle.sql_tool_audit.specs.Line.{column_data, source_data, report_data, IsAuditObject}

columns : (us : List ColumnUse) → items_have_float (items_of (map column_data us)) ≡ false
columns [] = refl
columns (u ∷ us) = columns us

sources : (us : List ColumnUse) → items_have_float (items_of (map source_data us)) ≡ false
sources [] = refl
sources (u ∷ us) = sources us

tables : (ts : List (List ℕ)) → items_have_float (items_of (map string ts)) ≡ false
tables [] = refl
tables (t ∷ ts) = tables ts

report : (r : AuditReport) → has_float (report_data r) ≡ false
report r = rw (columns r.uses, sources r.uses, tables r.tables) refl

pub float-free : (d : Dialect) (ts : List TableDecl) (text : List ℕ) (o : Data) → IsAuditObject d ts text o
    → has_float o ≡ false
float-free d ts text o (inl (r, told, is)) = ap has_float is ∙ report r
float-free d ts text o (inr (e, some, told, is)) = ap has_float is
