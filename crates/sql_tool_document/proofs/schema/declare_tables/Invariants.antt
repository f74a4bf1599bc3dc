use Rattle.std.proofs.Common.{◌≡◌, ◌++◌}
use Rattle.sql_tool_document.proofs.schema.declare_tables.Given as goal

abbrev pub invariant-loop-table : goal.invariant-loop-table
invariant-loop-table l = l.builder ≡ record l.initial.builder { tables = l.initial.builder.tables ++ l.yielded }
