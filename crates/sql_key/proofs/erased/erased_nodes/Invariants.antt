use Rattle.std.proofs.Common.{◌≡◌, map, take}
use Rattle.sql_key.specs.Blank.{blank_node}
use Rattle.sql_key.proofs.erased.erased_nodes.Given as goal

abbrev pub invariant-loop-node : goal.invariant-loop-node
invariant-loop-node l = l.all.items ≡ map blank_node (take l.node-index l.nodes)
