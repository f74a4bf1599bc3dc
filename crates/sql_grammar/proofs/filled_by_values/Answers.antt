use Rattle.sql_grammar.proofs.Filling as filling
use Rattle.sql_grammar.proofs.filled_by_values.Goals as goal

pub returns : goal.returns
returns g c = record { fills = filling.fills; as_many = filling.as_many }
