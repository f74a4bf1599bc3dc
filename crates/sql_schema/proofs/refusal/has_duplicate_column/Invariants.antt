use Rattle.std.proofs.Common.{◌≡◌, ◌||◌, drop}
use Rattle.sql_schema.specs.Refusals.{any_two, columns_clash}
use Rattle.sql_schema.specs.inside.NameSets.{has_name}
use Rattle.sql_schema.proofs.Repeats.{repeats}
use Rattle.sql_schema.proofs.refusal.has_duplicate_column.Given as goal

abbrev pub invariant-loop-column : goal.invariant-loop-column
invariant-loop-column l =
    repeats columns_clash (λ c. has_name l.names c.name || has_name l.sql_names c.sql_name)
    (drop l.column-index l.column-items)
    ≡ any_two columns_clash l.column-items
