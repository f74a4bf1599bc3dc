use Rattle.sql_flat_law.proofs.Telling.{tells-tree}
use Rattle.sql_flat_law.proofs.loops.writing_loops_tell.Goals as goal

pub returns : goal.returns
returns g c = λ make kind end reads is_list before between after comma shows ends whole read t. tells-tree make kind end reads is_list before between after comma shows ends whole read t
