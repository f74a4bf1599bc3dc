use Rattle.std.proofs.Common.{◌≡◌}
use Rattle.sql_tool_series.specs.Generated.{integers}
use Rattle.sql_tool_series.proofs.statements.integers.Given as goal

abbrev pub invariant-loop-number : goal.invariant-loop-number
invariant-loop-number l = l.all.items ≡ integers l.number
