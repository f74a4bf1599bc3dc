use Rattle.std.proofs.Common.{◌≡◌, ◌++◌, List, ℕ, take}
use Rattle.std.specs.Io.KnownBytes.{Appends}
use Rattle.sql_tool_run.proofs.lines.write_each.Given as goal

-- the lines of the items so far are written, or pending
abbrev pub invariant-loop-index : goal.invariant-loop-index
invariant-loop-index g l = record {
  lines : (text done : List ℕ) × g.L.Lines.HasLines l.initial.lines l.lines (take l.index l.items) text
      × (text ≡ done ++ l.pending.items) × Appends (g.K.Sink.held l.initial.sink) (g.K.Sink.held l.sink) done;
  faults : g.K.Sink.faults l.sink ≡ g.K.Sink.faults l.initial.sink;
}
