use Rattle.sql_rows.proofs.Alone.{stands-in-front}
use Rattle.sql_rows.proofs.laws.answered_pairs_come_first.Goals as goal

pub returns : goal.returns
returns c = stands-in-front
