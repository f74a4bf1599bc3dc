use Rattle.std.proofs.Common.{◌≡◌, map, take}
use Rattle.sql_schema.specs.Columns.{column_of}
use Rattle.sql_schema.proofs.table.Table.all_columns.Given as goal

abbrev pub invariant-loop-index : goal.invariant-loop-index
invariant-loop-index l = l.all.items ≡ map (λ c. column_of l.self c) (take l.index l.columns)
