use Rattle.std.proofs.Common.{◌≡◌, List, ℕ, ◌++◌, length}
use Rattle.sql_tool_lines.specs.Turns.{Adds, AreWrites, Event}
use Rattle.sql_tool_lines.proofs.writing.write_all.Given as goal

abbrev pub invariant-loop-rest : goal.invariant-loop-rest
invariant-loop-rest g l =
    (es : List Event) × (done : List ℕ) × (l.initial.rest ≡ done ++ l.rest)
    × Adds (g.P.Peer.history l.initial.peer) (g.P.Peer.history l.peer) es × AreWrites es done
    × (g.P.Peer.write_faults l.peer ≡ g.P.Peer.write_faults l.initial.peer)
    × (g.P.Peer.read_faults l.peer ≡ g.P.Peer.read_faults l.initial.peer)

abbrev pub decreases-loop-rest : goal.decreases-loop-rest
decreases-loop-rest g l = length l.rest
