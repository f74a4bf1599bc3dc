use Rattle.sql_rows_meaning.proofs.Worked.{worked}
use Rattle.sql_rows_meaning.proofs.operators_work.Goals as goal

pub returns : goal.returns
returns c = worked
