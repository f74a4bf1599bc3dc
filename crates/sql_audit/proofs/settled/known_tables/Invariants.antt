use Rattle.std.proofs.Common.{◌≡◌, ◌++◌}
use Rattle.sql_audit.specs.inside.Settled.{known}
use Rattle.sql_audit.proofs.settled.known_tables.Given as goal

abbrev pub invariant-loop-table : goal.invariant-loop-table
invariant-loop-table l = l.all.items ++ known l.table-iterator.rest.items ≡ known l.fn.tables.items
