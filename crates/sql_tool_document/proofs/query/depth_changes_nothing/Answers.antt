use Rattle.sql_tool_document.proofs.Nesting.{query-agrees}
use Rattle.sql_tool_document.proofs.query.depth_changes_nothing.Goals as goal

pub returns : goal.returns
returns c = query-agrees
