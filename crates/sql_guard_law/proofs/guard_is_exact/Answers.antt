use Rattle.sql_guard_law.proofs.Policies.{all-exact}
use Rattle.sql_guard_law.proofs.guard_is_exact.Goals as goal

pub returns : goal.returns
returns c = all-exact
