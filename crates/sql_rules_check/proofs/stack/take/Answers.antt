use Rattle.sql_flat_law.proofs.Finishing.{seen-taken}
use Rattle.sql_rules_check.specs.inside.Stacks.{given_of}
use Rattle.sql_rules_check.proofs.stack.take.Goals as goal

pub returns : goal.returns
returns c = seen-taken given_of c.args.end c.args.done.now.items c.take.new.trees.items c.take.result c.take.ensures
