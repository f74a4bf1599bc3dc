use Rattle.std.proofs.lemmas.Bool.Decides.{Decides-at}
use Rattle.sql_origin.specs.Borrowed.{origin_of}
use Rattle.sql_rules_check.proofs.Clashes.{apart-decides}
use Rattle.sql_rules_check.proofs.leaves.NotTogetherPairTest.test.Goals as goal

pub returns : goal.returns
returns c =
    Decides-at c.are_apart.result _ c.are_apart.ensures
    (apart-decides c.args.self.now.schema.now (origin_of c.args.left) (origin_of c.args.right))
