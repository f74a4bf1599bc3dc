use Rattle.sql_guard_law.proofs.Restriction.{guard-blind}
use Rattle.sql_guard_law.proofs.other_rows_do_not_matter.Goals as goal

pub returns : goal.returns
returns c = guard-blind
