use Rattle.std.proofs.Common.{◌≡◌, ◌≤◌, ◌-◌, length}
use Rattle.std.specs.Io.KnownBytes.{Consumes}
use Rattle.sql_tool_stream.proofs.reading.read_all.Given as goal

abbrev pub invariant-loop-bytes : goal.invariant-loop-bytes
invariant-loop-bytes g l = record {
  within : length l.bytes.items ≤ l.limit;
  given : Consumes (g.S.Source.left l.fn.source) (g.S.Source.left l.source) l.bytes.items;
  faults : g.S.Source.faults l.source ≡ g.S.Source.faults l.fn.source;
}

abbrev pub decreases-loop-bytes : goal.decreases-loop-bytes
decreases-loop-bytes g l = l.limit - length l.bytes.items
