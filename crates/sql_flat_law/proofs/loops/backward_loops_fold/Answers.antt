use Rattle.sql_flat_law.proofs.Backward.{run-flat}
use Rattle.sql_flat_law.proofs.loops.backward_loops_fold.Goals as goal

pub returns : goal.returns
returns g c = λ make kind end over shows ends t. run-flat make kind end over shows ends t
