use Rattle.std.proofs.Common.{◌≡◌, ◌++◌, ℕ, List, drop, string_bytes}
use Rattle.sql_read_writer.specs.More as more
use Rattle.sql_read_writer.proofs.leaf.push_more_marks.Given as goal

-- what is written so far and what is left make the whole
abbrev pub invariant-loop-mark : goal.invariant-loop-mark
invariant-loop-mark l =
    (rest : List ℕ) → string_bytes l.out ++ more.marks l.dialect (drop l.mark-index l.marks) rest
    ≡ string_bytes l.initial.out ++ more.marks l.dialect l.marks rest
