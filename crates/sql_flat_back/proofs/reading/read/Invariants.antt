use Rattle.std.proofs.Common.{◌≡◌, ◌≤◌, drop, length}
use Rattle.sql_flat.specs.inside.Reading.{read_from}
use Rattle.sql_flat_back.specs.inside.Stacks.{stack}
use Rattle.sql_flat_back.proofs.reading.read.Given as goal

abbrev pub invariant-loop-index : goal.invariant-loop-index
invariant-loop-index l = record {
  within : l.index ≤ length l.nodes;
  held : stack l.done.items ≡ read_from l.index (drop l.index l.nodes);
}

abbrev pub decreases-loop-index : goal.decreases-loop-index
decreases-loop-index l = l.index
