use Rattle.sql_guard_law.proofs.Worked.{on-needed}
use Rattle.sql_guard_law.proofs.on_is_needed.Goals as goal

pub returns : goal.returns
returns c = on-needed
