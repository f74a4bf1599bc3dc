use Rattle.sql_tool_session.proofs.Asking.{plain_call, plain_opening}
use Rattle.sql_tool_session.proofs.laws.sessions_without_policies_are_plain.Goals as goal

pub returns-clause-opening : goal.returns-clause-opening
returns-clause-opening c = plain_opening

pub returns-clause-call : goal.returns-clause-call
returns-clause-call c = plain_call
