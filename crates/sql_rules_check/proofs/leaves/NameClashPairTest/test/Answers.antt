use Rattle.std.proofs.lemmas.Bool.Decides.{Decides-at}
use Rattle.sql_origin.specs.Borrowed.{origin_of}
use Rattle.sql_rules_check.proofs.Clashes.{clash-decides}
use Rattle.sql_rules_check.proofs.leaves.NameClashPairTest.test.Goals as goal

pub returns : goal.returns
returns c =
    Decides-at c.are_clashing.result _ c.are_clashing.ensures
    (clash-decides (origin_of c.args.left) (origin_of c.args.right))
