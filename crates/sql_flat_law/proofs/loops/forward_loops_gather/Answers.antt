use Rattle.sql_flat_law.proofs.Forward.{gathers-tree}
use Rattle.sql_flat_law.proofs.loops.forward_loops_gather.Goals as goal

pub returns : goal.returns
returns g c = λ make kind end at passed shows ends n t rest. gathers-tree make kind end at passed shows ends n t rest
