use Rattle.sql_guard_law.proofs.Policies.{restricted-same}
use Rattle.sql_guard_law.proofs.without_subselects_restricting_is_enough.Goals as goal

pub returns : goal.returns
returns c = restricted-same
