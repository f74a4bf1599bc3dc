use Rattle.std.proofs.Common.{◌≡◌, ◌++◌, ℕ, List, drop, map, string_bytes}
use Rattle.sql_read_writer.specs.More as more
use Rattle.sql_read_tree.specs.View.{place_of}
use Rattle.sql_read_writer.proofs.leaf.push_places.Given as goal

-- what is written so far and what is left make the whole
abbrev pub invariant-loop-place : goal.invariant-loop-place
invariant-loop-place l =
    (rest : List ℕ) → string_bytes l.out
    ++ more.places (more.head l.first l.head) (map place_of (drop l.place-index l.places)) rest
    ≡ string_bytes l.initial.out ++ more.places l.head (map place_of l.places) rest
