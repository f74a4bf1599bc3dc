use Rattle.sql_flat_law.proofs.Finishing.{seen-taken}
use Rattle.sql_flat_back.specs.inside.Stacks.{part_of}
use Rattle.sql_flat_back.proofs.stack.take.Goals as goal

pub returns : goal.returns
returns c = seen-taken part_of c.args.end c.args.done.now.items c.take.new.trees.items c.take.result c.take.ensures
