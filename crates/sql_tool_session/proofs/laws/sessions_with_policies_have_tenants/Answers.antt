use Rattle.sql_tool_session.proofs.Asking.{guarded_call, guarded_opening}
use Rattle.sql_tool_session.proofs.laws.sessions_with_policies_have_tenants.Goals as goal

pub returns-clause-opening : goal.returns-clause-opening
returns-clause-opening c = guarded_opening

pub returns-clause-call : goal.returns-clause-call
returns-clause-call c = guarded_call
