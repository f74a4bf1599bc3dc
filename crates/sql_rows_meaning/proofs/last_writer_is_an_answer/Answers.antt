use Rattle.sql_rows_meaning.proofs.Writer.{has-writer}
use Rattle.sql_rows_meaning.proofs.last_writer_is_an_answer.Goals as goal

pub returns : goal.returns
returns c = has-writer
