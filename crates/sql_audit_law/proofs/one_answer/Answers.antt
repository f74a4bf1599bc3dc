use Rattle.sql_audit.proofs.Once as once
use Rattle.sql_audit_law.proofs.one_answer.Goals as goal

pub returns : goal.returns
returns c = record { report = once.one-report; not_both = once.not-both }
