use Rattle.sql_shape.proofs.IdLaws.{same-id}
use Rattle.sql_rules_law.proofs.Exchange as exchange
use Rattle.sql_rules_law.proofs.OneText as texts
use Rattle.sql_rules_law.proofs.SafeLaws.{safe_alike}
use Rattle.sql_rules_law.proofs.values_can_be_exchanged.Goals as goal

pub returns : goal.returns
returns c =
    record {
      rules = exchange.rules;
      column_types = λ a b h. exchange.types a b (exchange.loosely a b h);
      text = texts.text;
      bind_types = texts.bind_types;
      lengths = texts.values;
      safe = safe_alike;
      id = same-id;
    }
