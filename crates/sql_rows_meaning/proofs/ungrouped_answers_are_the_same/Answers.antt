use Rattle.sql_rows_meaning.proofs.Ungrouped.{ungrouped-same}
use Rattle.sql_rows_meaning.proofs.ungrouped_answers_are_the_same.Goals as goal

pub returns : goal.returns
returns c = ungrouped-same
