use Rattle.std.proofs.Common.{◌≡◌, length}
use Rattle.sql_flat_law.specs.Finished.{before, finished}
use Rattle.sql_flat_law.proofs.finished.leave.Given as goal

abbrev pub invariant-loop-value : goal.invariant-loop-value
invariant-loop-value g l = (before l.end (finished l.trees.items)).1 ≡ (before l.end (finished l.initial.trees.items)).1

abbrev pub decreases-loop-value : goal.decreases-loop-value
decreases-loop-value g l = length l.trees.items
