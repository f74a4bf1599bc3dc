use Rattle.std.proofs.Common.{◌≡◌, length}
use Rattle.sql_flat_law.specs.Opened.{opens, still_open}
use Rattle.sql_flat_law.proofs.opened.close.Given as goal

abbrev pub invariant-loop-innermost : goal.invariant-loop-innermost
invariant-loop-innermost g l =
    still_open l.index (opens l.nodes.items) ≡ still_open l.index (opens l.initial.nodes.items)

abbrev pub decreases-loop-innermost : goal.decreases-loop-innermost
decreases-loop-innermost g l = length l.nodes.items
