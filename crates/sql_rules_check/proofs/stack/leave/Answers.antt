use Rattle.sql_flat_law.specs.Finished.{finished}
use Rattle.sql_flat_law.proofs.Finishing.{seen-left}
use Rattle.sql_rules_check.specs.inside.Stacks.{given_of}
use Rattle.sql_rules_check.proofs.stack.leave.Goals as goal

pub returns : goal.returns
returns c = seen-left given_of c.args.end (finished c.args.done.now.items) (finished c.leave.new.trees.items) c.leave.ensures
