use Rattle.sql_rules_law.proofs.Exchange as exchange
use Rattle.sql_rules_law.proofs.list_lengths_can_be_exchanged.Goals as goal

pub returns : goal.returns
returns c =
    record {
      accepted = exchange.accepted;
      text = exchange.text;
      safe = exchange.safe;
      one_shape = exchange.loosely;
    }
