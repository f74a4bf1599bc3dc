use Rattle.sql_source.proofs.FieldLaws.{twice-once}
use Rattle.sql_source.proofs.laws.fields_twice_as_once.Goals as goal

pub returns : goal.returns
returns c = twice-once
