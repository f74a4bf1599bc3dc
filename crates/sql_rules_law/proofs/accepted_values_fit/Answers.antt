use Rattle.sql_rules_law.proofs.Exchange as exchange
use Rattle.sql_rules_law.proofs.FitLaws.{test}
use Rattle.sql_rules_law.proofs.accepted_values_fit.Goals as goal

pub returns : goal.returns
returns c = record { accepted = exchange.accepted-fit; test = test }
