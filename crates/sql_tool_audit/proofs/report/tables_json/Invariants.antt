use Rattle.std.proofs.Common.{◌≡◌, map, take}
use Rattle.serde_json.specs.View.{view}
use Rattle.serde_json.specs.Data.{string}
use Rattle.sql_tool_audit.proofs.report.tables_json.Given as goal

abbrev pub invariant-loop-table : goal.invariant-loop-table
invariant-loop-table l = map view l.all.items ≡ map string (take l.table-index l.tables)
