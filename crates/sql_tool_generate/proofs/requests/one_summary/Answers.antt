use Rattle.sql_tool_generate.proofs.Summaries.{one-summary}
use Rattle.sql_tool_generate.proofs.requests.one_summary.Goals as goal

pub returns : goal.returns
returns c = one-summary
