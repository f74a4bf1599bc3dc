use Rattle.std.proofs.Common.{◌≡◌, List, ℕ, ◌++◌, length}
use Rattle.sql_tool_lines.specs.Conversation.{Moves}
use Rattle.sql_tool_lines.specs.Lines.{ended_after, unended_after}
use Rattle.sql_tool_lines.specs.Turns.{Adds, AreWrites, Event}
use Rattle.sql_tool_lines.specs.inside.Parts.{Holds}
use Rattle.sql_tool_lines.proofs.conversation.take_in.Given as goal

-- The lines that have ended so far are answered, and the part with what is left is as the part was with the piece.
abbrev pub invariant-loop-end : goal.invariant-loop-end
invariant-loop-end g l =
    (es : List Event) × (text : List ℕ) × Adds (g.P.Peer.history l.fn.peer) (g.P.Peer.history l.peer) es × AreWrites es text
    × ((line : List ℕ) × Holds g.L.Listener.LIMIT l.part line)
    × ((begun : List ℕ) → Holds g.L.Listener.LIMIT l.fn.part begun → (now : List ℕ) × (lines : List (List ℕ))
    × Holds g.L.Listener.LIMIT l.part now × (ended_after begun l.piece ≡ lines ++ ended_after now l.rest)
    × (unended_after begun l.piece ≡ unended_after now l.rest)
    × Moves g.L.Listener.Answers l.fn.listener l.listener lines text)
    × (g.P.Peer.write_faults l.peer ≡ g.P.Peer.write_faults l.fn.peer)
    × (g.P.Peer.read_faults l.peer ≡ g.P.Peer.read_faults l.fn.peer)

abbrev pub decreases-loop-end : goal.decreases-loop-end
decreases-loop-end g l = length l.rest
