use Rattle.sql_normal.proofs.ReadingLaws as laws
use Rattle.sql_normal.proofs.only_reading.Goals as goal

pub returns : goal.returns
returns c = laws.only_reading
