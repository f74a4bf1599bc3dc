use Rattle.sql_flat_law.proofs.Finishing.{seen-taken}
use Rattle.sql_rules_check.specs.inside.PaddingStacks.{held_of}
use Rattle.sql_rules_check.proofs.padding.take.Goals as goal

pub returns : goal.returns
returns c = seen-taken held_of c.args.end c.args.parts.now.items c.take.new.trees.items c.take.result c.take.ensures
