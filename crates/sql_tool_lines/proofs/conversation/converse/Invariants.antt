use Rattle.std.proofs.Common.{◌≡◌, List}
use Rattle.sql_tool_lines.specs.Turns.{Adds, Event}
use Rattle.sql_tool_lines.specs.inside.Parts.{Goes}
use Rattle.sql_tool_lines.proofs.conversation.converse.Given as goal

-- each line that has ended is answered
abbrev pub invariant-loop : goal.invariant-loop
invariant-loop g l =
    (es : List Event) × Adds (g.P.Peer.history l.fn.peer) (g.P.Peer.history l.peer) es
    × Goes g.L.Listener.Answers g.L.Listener.LIMIT l.fn.listener l.listener l.part es
    × (g.P.Peer.read_faults l.peer ≡ g.P.Peer.read_faults l.fn.peer)
    × (g.P.Peer.write_faults l.peer ≡ g.P.Peer.write_faults l.fn.peer)
