use Rattle.sql_rows_meaning.proofs.Counted.{counted}
use Rattle.sql_rows_meaning.proofs.posts_are_counted.Goals as goal

pub returns : goal.returns
returns c = counted
