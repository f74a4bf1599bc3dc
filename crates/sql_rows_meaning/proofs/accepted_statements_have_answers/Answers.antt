use Rattle.sql_rows_meaning.proofs.Existence.{answers-exist}
use Rattle.sql_rows_meaning.proofs.accepted_statements_have_answers.Goals as goal

pub returns : goal.returns
returns c = answers-exist
