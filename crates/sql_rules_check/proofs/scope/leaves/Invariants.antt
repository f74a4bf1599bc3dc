use Rattle.std.proofs.Common.{◌≡◌, ◌++◌, map}
use Rattle.std.specs.List.{flat_map}
use Rattle.sql_origin.specs.Borrowed.{origin_of}
use Rattle.sql_rules_check.specs.inside.Kids.{nodes_left}
use Rattle.sql_rules_check.specs.inside.Views.{is_passed, leaf_at}
use Rattle.sql_rules_check.specs.inside.Walks.{leaves_from}
use Rattle.sql_rules_check.proofs.scope.leaves.Given as goal

abbrev pub invariant-loop-node : goal.invariant-loop-node
invariant-loop-node l =
    goal.iterator-loop-node.can_next l.node-iterator × goal.iterator-loop-node.is_finite l.node-iterator
    × (map origin_of l.all.items ++ flat_map (λ c. leaf_at c.1.kind) (nodes_left is_passed l.node-iterator)
    ≡ leaves_from l.end l.from l.nodes)
