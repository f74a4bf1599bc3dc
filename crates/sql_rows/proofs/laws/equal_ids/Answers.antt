use Rattle.sql_rows.proofs.EqualIds as ids
use Rattle.sql_rows.proofs.laws.equal_ids.Goals as goal

pub returns : goal.returns
returns c =
    record {
      shapes = ids.shapes;
      text = ids.text;
      bind_types = ids.bind_types;
      column_types = ids.column_types;
      safe = ids.safe;
      accepted = ids.accepted;
    }
