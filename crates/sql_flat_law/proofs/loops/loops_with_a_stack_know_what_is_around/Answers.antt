use Rattle.sql_flat_law.proofs.Around.{walks-tree}
use Rattle.sql_flat_law.proofs.loops.loops_with_a_stack_know_what_is_around.Goals as goal

pub returns : goal.returns
returns g c = λ make kind end outer keeps reads shows ends below kept read t. walks-tree make kind end outer keeps reads shows ends below kept read t
