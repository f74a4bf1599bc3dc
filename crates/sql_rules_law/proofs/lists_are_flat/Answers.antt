use Rattle.sql_rules_law.proofs.FlatLaws as laws
use Rattle.sql_rules_law.proofs.lists_are_flat.Goals as goal

pub returns : goal.returns
returns c = record { types = laws.flat-columns; trees = laws.flat-trees }
