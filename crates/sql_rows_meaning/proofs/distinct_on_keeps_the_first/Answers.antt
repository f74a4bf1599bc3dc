use Rattle.sql_rows_meaning.proofs.DistinctOn.{first-shown}
use Rattle.sql_rows_meaning.proofs.distinct_on_keeps_the_first.Goals as goal

pub returns : goal.returns
returns c = first-shown
