use Rattle.sql_normal.proofs.ReadingLaws as laws
use Rattle.sql_normal.proofs.filled_by_values.Goals as goal

pub returns : goal.returns
returns c = record { fills = laws.fills; as_many = laws.as_many }
