use Rattle.sql_rules_law.proofs.SafeLaws as laws
use Rattle.sql_rules_law.proofs.safe_without_value_lists.Goals as goal

pub returns : goal.returns
returns c = record { says = laws.says; test = laws.test }
