use Rattle.sql_rules_law.proofs.TextLaws as laws
use Rattle.sql_rules_law.proofs.accepted_have_text.Goals as goal

pub returns : goal.returns
returns c = record { text = laws.has_text; numbers = laws.has_numbers }
