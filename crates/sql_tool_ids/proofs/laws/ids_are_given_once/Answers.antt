use Rattle.sql_tool_ids.proofs.Few.{same-after}
use Rattle.sql_tool_ids.proofs.Placed.{one-id}
use Rattle.sql_tool_ids.proofs.laws.ids_are_given_once.Goals as goal

pub returns-clause-one_id : goal.returns-clause-one_id
returns-clause-one_id c = one-id

pub returns-clause-one_list : goal.returns-clause-one_list
returns-clause-one_list c = same-after
