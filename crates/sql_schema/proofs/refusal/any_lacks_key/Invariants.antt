use Rattle.std.proofs.Common.{◌≡◌, drop}
use Rattle.std.specs.List.{list_any}
use Rattle.sql_schema.specs.Refusals.{lacks_key}
use Rattle.sql_schema.proofs.refusal.any_lacks_key.Given as goal

abbrev pub invariant-loop-table : goal.invariant-loop-table
invariant-loop-table l = list_any lacks_key (drop l.table-index l.tables) ≡ list_any lacks_key l.tables
