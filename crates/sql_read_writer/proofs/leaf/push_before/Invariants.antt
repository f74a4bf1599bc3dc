use Rattle.std.proofs.Common.{◌≡◌, ◌≤◌, ◌++◌, ℕ, List, [], length, take, map, string_bytes}
use Rattle.sql_read_tree.specs.Path.{prefixed_by}
use Rattle.sql_read_writer.specs.More.{path_text}
use Rattle.sql_read_writer.proofs.leaf.push_before.Given as goal

abbrev pub decreases-loop-i : goal.decreases-loop-i
decreases-loop-i l = l.i

-- what is written so far and the names that are left make the whole
abbrev pub invariant-loop-i : goal.invariant-loop-i
invariant-loop-i l = record {
  within : l.i ≤ length l.before;
  done : (rest : List ℕ) → string_bytes l.out
      ++ path_text l.dialect (prefixed_by (map string_bytes (take l.i l.before))
      (record { first = l.last; more = [] })) rest
      ≡ string_bytes l.initial.out
      ++ path_text l.dialect (prefixed_by (map string_bytes l.before) (record { first = l.last; more = [] })) rest;
}
