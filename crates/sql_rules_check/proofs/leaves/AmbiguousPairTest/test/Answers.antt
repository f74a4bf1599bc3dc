use Rattle.sql_origin.specs.Borrowed.{origin_of}
use Rattle.sql_rules.proofs.Tests.{origin-test}
use Rattle.sql_rules_check.proofs.leaves.AmbiguousPairTest.test.Goals as goal

pub returns : goal.returns
returns c = origin-test c.is_same.result (origin_of c.args.left) (origin_of c.args.right) c.is_same.ensures
