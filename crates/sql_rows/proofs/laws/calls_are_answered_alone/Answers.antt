use Rattle.sql_rows.proofs.Alone.{answers, schemas}
use Rattle.sql_rows.proofs.laws.calls_are_answered_alone.Goals as goal

pub returns : goal.returns
returns c = record { answers = answers; schema = schemas }
