use Rattle.std.proofs.Common.{◌≡◌, take}
use Rattle.sql_schema.proofs.declaration.clone_columns.Given as goal

abbrev pub invariant-loop-column : goal.invariant-loop-column
invariant-loop-column l = l.all.items ≡ take l.column-index l.columns
