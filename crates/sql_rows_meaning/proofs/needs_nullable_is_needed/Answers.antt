use Rattle.sql_rows_meaning.proofs.Needed.{needed}
use Rattle.sql_rows_meaning.proofs.needs_nullable_is_needed.Goals as goal

pub returns : goal.returns
returns c = needed
