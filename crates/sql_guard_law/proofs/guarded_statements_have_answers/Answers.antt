use Rattle.sql_guard_law.proofs.Policies.{guarded-answers}
use Rattle.sql_guard_law.proofs.guarded_statements_have_answers.Goals as goal

pub returns : goal.returns
returns c = guarded-answers
