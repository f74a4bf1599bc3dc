use Rattle.sql_audit_law.proofs.Reported as reported
use Rattle.sql_audit_law.proofs.accepted_are_reported.Goals as goal

pub returns : goal.returns
returns c = reported.reported
