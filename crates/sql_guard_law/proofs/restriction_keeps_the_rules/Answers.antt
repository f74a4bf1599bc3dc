use Rattle.sql_guard_law.proofs.Restriction.{restriction-kept}
use Rattle.sql_guard_law.proofs.restriction_keeps_the_rules.Goals as goal

pub returns : goal.returns
returns c = restriction-kept
