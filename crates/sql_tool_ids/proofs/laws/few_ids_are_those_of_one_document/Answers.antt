use Rattle.sql_tool_ids.proofs.Few.{few-lines}
use Rattle.sql_tool_ids.proofs.laws.few_ids_are_those_of_one_document.Goals as goal

pub returns : goal.returns
returns c = few-lines
