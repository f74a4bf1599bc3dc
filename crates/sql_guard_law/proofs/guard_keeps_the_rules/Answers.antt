use Rattle.sql_guard_law.proofs.Policies.{all-kept}
use Rattle.sql_guard_law.proofs.guard_keeps_the_rules.Goals as goal

pub returns : goal.returns
returns c = all-kept
