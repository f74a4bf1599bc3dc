use Rattle.std.proofs.Common.{drop, map}
use Rattle.sql_origin.specs.Borrowed.{origin_of}
use Rattle.sql_rules.specs.Lists.{AnyOf}
use Rattle.sql_rules_check.proofs.pair.any_right.Given as goal

abbrev pub invariant-loop-leaf : goal.invariant-loop-leaf
invariant-loop-leaf g l =
    AnyOf (g.T.PairTest.holds l.test (origin_of l.left)) (map origin_of l.leaves)
    → AnyOf (g.T.PairTest.holds l.test (origin_of l.left)) (map origin_of (drop l.leaf-index l.leaves))
