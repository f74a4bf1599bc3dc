use Rattle.std.proofs.Common.{◌≡◌, map, take}
use Rattle.serde_json.specs.View.{view}
use Rattle.sql_tool_audit.specs.Line.{column_data}
use Rattle.sql_tool_audit.proofs.report.columns_json.Given as goal

abbrev pub invariant-loop-used : goal.invariant-loop-used
invariant-loop-used l = map view l.all.items ≡ map column_data (take l.used-index l.uses)
