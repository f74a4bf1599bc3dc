use Rattle.sql_flat_law.specs.Finished.{finished}
use Rattle.sql_flat_law.proofs.Finishing.{seen-left}
use Rattle.sql_rules_check.specs.inside.PaddingStacks.{held_of}
use Rattle.sql_rules_check.proofs.padding.leave.Goals as goal

pub returns : goal.returns
returns c = seen-left held_of c.args.end (finished c.args.parts.now.items) (finished c.leave.new.trees.items) c.leave.ensures
