use Rattle.sql_tool_session.proofs.Answered.{answered_lines, lines_guarded, lines_one_id, lines_output}
use Rattle.sql_tool_session.proofs.laws.answers_are_outputs.Goals as goal

pub returns-clause-lines : goal.returns-clause-lines
returns-clause-lines c = answered_lines

pub returns-clause-one_id : goal.returns-clause-one_id
returns-clause-one_id c = lines_one_id

pub returns-clause-output : goal.returns-clause-output
returns-clause-output c = lines_output

pub returns-clause-guarded : goal.returns-clause-guarded
returns-clause-guarded c = lines_guarded
