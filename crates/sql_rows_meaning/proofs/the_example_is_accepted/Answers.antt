use Rattle.sql_rows_meaning.proofs.Needed.{accepted_example}
use Rattle.sql_rows_meaning.proofs.the_example_is_accepted.Goals as goal

pub returns : goal.returns
returns c = accepted_example
