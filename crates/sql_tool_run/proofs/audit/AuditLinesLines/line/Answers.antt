use Rattle.std.proofs.Common.{subst}
use Rattle.std.specs.Prelude.{string_bytes}
use Rattle.std.proofs.lemmas.Result.{IfOk-weaker}
use Rattle.sql_tool_audit.specs.Line.{IsAuditLine}
use Rattle.sql_tool_run.specs.declared.audit.AuditLines.{AuditLines}
use Rattle.sql_tool_run.proofs.Items.{audit-more}
use Rattle.sql_tool_run.proofs.audit.AuditLinesLines.line.Goals as goal

pub returns : goal.returns
returns c =
    let item = c.args.item.now in
    let now = c.args.self.now in
    IfOk-weaker c.audit_line.result _ _ (λ line told first items text number written.
    let one =
    subst (λ (s : AuditLines). IsAuditLine s.dialect s.schema.tables item (string_bytes line)) written.0
    (subst (λ u. IsAuditLine now.dialect now.schema.tables u (string_bytes line)) c.as_str.ensures told) in (
      written.0,
      audit-more first.dialect first.schema items item text (string_bytes line) written.1 one,
    )) c.audit_line.ensures
