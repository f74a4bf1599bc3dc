use Rattle.std.proofs.Common.{drop, map}
use Rattle.sql_origin.specs.Borrowed.{origin_of}
use Rattle.sql_rules.specs.Lists.{AnyPair}
use Rattle.sql_rules_check.proofs.pair.any_pair.Given as goal

abbrev pub invariant-loop-i : goal.invariant-loop-i
invariant-loop-i g l =
    AnyPair (g.T.PairTest.holds l.test) (map origin_of l.leaves)
    → AnyPair (g.T.PairTest.holds l.test) (map origin_of (drop l.i l.leaves))
