use Rattle.sql_rows_meaning.proofs.Soundness.{sound}
use Rattle.sql_rows_meaning.proofs.types_are_sound.Goals as goal

pub returns : goal.returns
returns c = sound
