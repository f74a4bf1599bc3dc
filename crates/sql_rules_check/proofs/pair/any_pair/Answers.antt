use Rattle.std.proofs.Common.{◌+◌, refl}
use Rattle.std.proofs.lemmas.List.{take_rest}
use Rattle.sql_origin.specs.Borrowed.{origin_of}
use Rattle.sql_rules.proofs.Loops.{here_pair}
use Rattle.sql_rules_check.proofs.pair.any_pair.Goals as goal

pub returns-then-any_right : goal.returns-then-any_right
returns-then-any_right g c =
    let v = c.args.leaves.now in (
      λ _. here_pair origin_of (g.T.PairTest.holds c.args.test.now) v c.loop-i.i c.index-leaves-i.result
          c.index-leaves-i.result c.loop-i-test.true c.index-leaves-i.is
          (rw (take_rest v (c.loop-i.i + 1)) at (c.any_right.ensures.0 c.if-any_right.true)),
      λ _. refl,
    )
