use Rattle.sql_origin.proofs.OriginLaws.{same-equal}
use Rattle.sql_source.proofs.laws.same_origins_are_equal.Goals as goal

pub returns : goal.returns
returns c = same-equal
