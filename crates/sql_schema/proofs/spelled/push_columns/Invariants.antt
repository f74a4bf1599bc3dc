use Rattle.std.proofs.Common.{◌≡◌, ◌++◌, drop, string_bytes}
use Rattle.sql_schema.specs.inside.Spelled.{columns_text}
use Rattle.sql_schema.proofs.spelled.push_columns.Given as goal

abbrev pub invariant-loop-column : goal.invariant-loop-column
invariant-loop-column l =
    string_bytes l.all ++ columns_text (drop l.column-index l.columns) ≡ string_bytes l.initial.all ++ columns_text l.columns
