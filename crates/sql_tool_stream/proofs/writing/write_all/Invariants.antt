use Rattle.std.proofs.Common.{◌≡◌, ℕ, List, ◌++◌, length}
use Rattle.std.specs.Io.KnownBytes.{Appends}
use Rattle.sql_tool_stream.proofs.writing.write_all.Given as goal

abbrev pub invariant-loop-rest : goal.invariant-loop-rest
invariant-loop-rest g l =
    (done : List ℕ) × (l.initial.rest ≡ done ++ l.rest)
    × Appends (g.K.Sink.held l.initial.sink) (g.K.Sink.held l.sink) done
    × (g.K.Sink.faults l.sink ≡ g.K.Sink.faults l.initial.sink)

abbrev pub decreases-loop-rest : goal.decreases-loop-rest
decreases-loop-rest g l = length l.rest
