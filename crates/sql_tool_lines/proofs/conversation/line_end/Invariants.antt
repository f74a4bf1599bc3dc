use Rattle.std.proofs.Common.{◌≡◌, ◌++◌, List, ℕ, take, drop}
use Rattle.sql_tool_lines.specs.Lines.{ended_after, unended_after}
use Rattle.sql_tool_lines.proofs.conversation.line_end.Given as goal

-- no line has ended so far
abbrev pub invariant-loop-index : goal.invariant-loop-index
invariant-loop-index l =
    (begun : List ℕ)
    → (ended_after begun l.bytes ≡ ended_after (begun ++ take l.index l.bytes) (drop l.index l.bytes))
    × (unended_after begun l.bytes ≡ unended_after (begun ++ take l.index l.bytes) (drop l.index l.bytes))
