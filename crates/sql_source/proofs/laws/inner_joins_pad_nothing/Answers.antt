use Rattle.sql_source.proofs.JoinLaws.{inner-leaves}
use Rattle.sql_source.proofs.laws.inner_joins_pad_nothing.Goals as goal

pub returns : goal.returns
returns c = inner-leaves
