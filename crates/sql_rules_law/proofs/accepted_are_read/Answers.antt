use Rattle.sql_rules_law.proofs.ReadLaws as laws
use Rattle.sql_rules_law.proofs.accepted_are_read.Goals as goal

pub returns : goal.returns
returns c = record { only = laws.only; fills = laws.fills; as_many = laws.as_many; values = laws.values }
