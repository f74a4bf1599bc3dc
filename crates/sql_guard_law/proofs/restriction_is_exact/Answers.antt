use Rattle.sql_guard_law.proofs.Restriction.{restriction}
use Rattle.sql_guard_law.proofs.restriction_is_exact.Goals as goal

pub returns : goal.returns
returns c = restriction
