use Rattle.sql_rules_law.proofs.Worked as worked
use Rattle.sql_rules_law.proofs.a_statement_is_accepted.Goals as goal

pub returns : goal.returns
returns c = record { declared = worked.declared; accepted = worked.accepted; counted = (tt, tt) }
