use Rattle.std.proofs.Common.{take}
use Rattle.sql_tool_audit.specs.Output.{IsAuditOutput}
use Rattle.sql_tool_session.proofs.audit.add_lines.Given as goal

-- the lines are those of the texts so far
abbrev pub invariant-loop-text : goal.invariant-loop-text
invariant-loop-text l =
    IsAuditOutput l.dialect (record { schema = l.schema; texts = take l.text-index l.texts }) l.lines.items
