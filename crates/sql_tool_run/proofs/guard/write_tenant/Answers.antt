use Rattle.sql_tool_guard.specs.Trees.{tenant_document_tree}
use Rattle.sql_tool_run.proofs.Items.{tenant-response}
use Rattle.sql_tool_run.proofs.guard.write_tenant.Goals as goal

pub returns-in-Ok-clause-response : goal.returns-in-Ok-clause-response
returns-in-Ok-clause-response g c =
    let (written, appended, wrote) = c.write_document.ensures.wrote in (
      written,
      appended,
      tenant-response c.write_document.result c.args.bytes.now written (tenant_document_tree c.in-Ok.document) c.in-Ok.ensures wrote,
    )
