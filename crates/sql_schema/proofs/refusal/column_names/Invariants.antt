use Rattle.std.proofs.Common.{◌≡◌, ℕ, List, take}
use Rattle.sql_schema.specs.Refusals.{has_column}
use Rattle.sql_schema.specs.inside.NameSets.{has_name}
use Rattle.sql_schema.proofs.refusal.column_names.Given as goal

abbrev pub invariant-loop-column : goal.invariant-loop-column
invariant-loop-column l = (q : List ℕ) → has_name l.names q ≡ has_column (take l.column-index l.columns) q
