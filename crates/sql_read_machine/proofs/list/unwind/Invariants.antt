use Rattle.std.proofs.Common.{◌≡◌, ◌++◌, reverse, vec_len}
use Rattle.sql_read_machine.proofs.list.unwind.Given as goal

abbrev pub invariant-loop-x : goal.invariant-loop-x
invariant-loop-x g l = l.out.items ++ reverse l.later.items ≡ l.initial.out.items ++ reverse l.initial.later.items

abbrev pub decreases-loop-x : goal.decreases-loop-x
decreases-loop-x g l = vec_len l.later
