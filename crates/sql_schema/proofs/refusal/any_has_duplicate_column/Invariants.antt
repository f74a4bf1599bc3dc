use Rattle.std.proofs.Common.{◌≡◌, drop}
use Rattle.std.specs.List.{list_any}
use Rattle.sql_schema.specs.Refusals.{has_duplicate_column}
use Rattle.sql_schema.proofs.refusal.any_has_duplicate_column.Given as goal

abbrev pub invariant-loop-table : goal.invariant-loop-table
invariant-loop-table l =
    list_any has_duplicate_column (drop l.table-index l.tables) ≡ list_any has_duplicate_column l.tables
