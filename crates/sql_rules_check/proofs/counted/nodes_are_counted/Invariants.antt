use Rattle.std.proofs.Common.{drop}
use Rattle.sql_rules.specs.Lists.{Each}
use Rattle.sql_rules_check.specs.inside.Counted.{KindIsCounted}
use Rattle.sql_rules_check.proofs.counted.nodes_are_counted.Given as goal

abbrev pub invariant-loop-node : goal.invariant-loop-node
invariant-loop-node l =
    Each (λ x. KindIsCounted x.kind) (drop l.node-index l.nodes) → Each (λ x. KindIsCounted x.kind) l.nodes
