use Rattle.sql_rows_meaning.proofs.Beside.{beside}
use Rattle.sql_rows_meaning.proofs.counting_beside_is_no_promise.Goals as goal

pub returns : goal.returns
returns c = beside
