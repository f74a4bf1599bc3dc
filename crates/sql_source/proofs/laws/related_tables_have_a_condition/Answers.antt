use Rattle.sql_source.proofs.JoinLaws.{has-condition}
use Rattle.sql_source.proofs.laws.related_tables_have_a_condition.Goals as goal

pub returns : goal.returns
returns c = has-condition
