use Rattle.std.proofs.Common.{sym}
use Rattle.sql_rules_check.proofs.Opening.{last-around}
use Rattle.sql_rules_check.proofs.scope.known_at.Goals as goal

pub returns-in-Some : goal.returns-in-Some
returns-in-Some c =
    rw (last-around c.args.nest.now c.in-Some.inner.now (sym c.in-Some.ensures.value))
    c.known_within-in-Some.ensures
