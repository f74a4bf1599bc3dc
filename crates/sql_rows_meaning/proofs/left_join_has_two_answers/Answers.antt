use Rattle.sql_rows_meaning.proofs.Example.{example}
use Rattle.sql_rows_meaning.proofs.left_join_has_two_answers.Goals as goal

pub returns : goal.returns
returns c = example
