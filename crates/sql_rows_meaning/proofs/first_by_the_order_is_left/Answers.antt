use Rattle.sql_rows_meaning.proofs.FirstLeft.{first-left}
use Rattle.sql_rows_meaning.proofs.first_by_the_order_is_left.Goals as goal

pub returns : goal.returns
returns c = first-left
