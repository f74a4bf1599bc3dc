use Rattle.sql_rows_meaning.proofs.OneOfEach.{first-any}
use Rattle.sql_rows_meaning.proofs.first_is_any.Goals as goal

pub returns : goal.returns
returns c = first-any
