use Rattle.sql_build_law.proofs.Built.{built-knows}
use Rattle.sql_build_law.proofs.built_statements_know_their_names.Goals as goal

pub returns : goal.returns
returns c = built-knows
