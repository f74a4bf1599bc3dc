use Rattle.std.proofs.Common.{◌≡◌, ◌||◌, drop}
use Rattle.sql_schema.specs.Refusals.{any_two, tables_clash}
use Rattle.sql_schema.specs.inside.NameSets.{has_name, has_path}
use Rattle.sql_schema.proofs.Repeats.{repeats}
use Rattle.sql_schema.proofs.refusal.has_duplicate_table.Given as goal

abbrev pub invariant-loop-table : goal.invariant-loop-table
invariant-loop-table l =
    repeats tables_clash (λ t. has_name l.names t.name || has_path l.paths t.schema t.sql_name)
    (drop l.table-index l.tables)
    ≡ any_two tables_clash l.tables
