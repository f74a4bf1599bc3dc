use Rattle.sql_guard_law.proofs.Policies.{all-blind}
use Rattle.sql_guard_law.proofs.only_seen_rows_matter.Goals as goal

pub returns : goal.returns
returns c = all-blind
