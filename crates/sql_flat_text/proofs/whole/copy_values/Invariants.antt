use Rattle.std.proofs.Common.{◌≡◌, ◌++◌, drop, map}
use Rattle.sql_flat_text.specs.inside.Writing.{values_in}
use Rattle.sql_flat_text.specs.Steps.{kind_of}
use Rattle.sql_flat_text.proofs.whole.copy_values.Given as goal

abbrev pub invariant-loop-node : goal.invariant-loop-node
invariant-loop-node l =
    l.all.items ++ values_in (map kind_of (drop l.node-index l.nodes)) ≡ values_in (map kind_of l.nodes)
