use Rattle.std.proofs.Common.{refl}
use Rattle.sql_origin.specs.Borrowed.{origin_of}
use Rattle.sql_rules.proofs.Loops.{here_any}
use Rattle.sql_rules_check.proofs.pair.any_right.Goals as goal

pub returns-then-test : goal.returns-then-test
returns-then-test g c = (
  λ _. here_any origin_of (g.T.PairTest.holds c.args.test.now (origin_of c.args.left)) c.args.leaves.now
      c.loop-leaf.leaf-index c.leaf-item.result c.leaf-item.result c.loop-leaf-test.true c.leaf-item.is
      (c.test.ensures.0 c.if-test.true),
  λ _. refl,
)
