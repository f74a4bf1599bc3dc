use Rattle.std.proofs.Common.{◌≡◌, ◌∙◌, ap, subst, sym}
use Rattle.std.specs.Prelude.{List}
use Rattle.sql_schema.specs.Declarations.{Declarations}
use Rattle.sql_tool_document.specs.declared.document.Request.{Request}
use Rattle.sql_tool_guard.specs.Output.{IsGuardedOutput}
use Rattle.sql_tool_guard.specs.Tenants.{TenantDocument}
use Rattle.sql_tool_guard.specs.Trees.{tenant_tree}
use Rattle.sql_tool_run.specs.inside.Responses.{WroteTenant}
use Rattle.sql_tool_run.proofs.Items.{with_requests, wrote-tenant}
use Rattle.sql_tool_run.proofs.guard.write_document.Goals as goal

pub returns-in-Ok-clause-wrote : goal.returns-in-Ok-clause-wrote
returns-in-Ok-clause-wrote g c =
    let schema = c.args.document.document.schema in
    let tenant = tenant_tree c.args.document.tenant in
    let requests = c.as_slice.result.now in
    let (written, appended, wrote) = c.write_lines.ensures.response in
    let with : List Request → TenantDocument =
    λ rs. record { document = with_requests schema rs; tenant = tenant } in (
      written,
      appended,
      subst (λ rs. WroteTenant c.write_lines.result (with rs) written) c.as_slice.ensures
          (wrote-tenant c.write_lines.result written schema tenant requests _
          (λ state qs text has.
          let (rs, guarded, (ls, lines, tells, is)) = has.2 in
          subst (λ (s : Declarations). IsGuardedOutput (with_requests s qs) tenant text) c.in-Ok.ensures.schema
          (rs, guarded, (ls, lines, is)))
          wrote),
    )
