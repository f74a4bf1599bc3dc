use Rattle.std.proofs.Common.{◌≡◌, ◌∙◌, Some, ap, subst, sym}
use Rattle.sql_schema.specs.Declarations.{Declarations}
use Rattle.sql_tool_document.specs.Documents.{document}
use Rattle.sql_tool_build.specs.Output.{IsOutput}
use Rattle.sql_tool_run.proofs.Items.{with_requests, wrote-build}
use Rattle.sql_tool_run.proofs.build.write_build.Goals as goal

pub returns-in-Ok-new-clause-response : goal.returns-in-Ok-new-clause-response
returns-in-Ok-new-clause-response g c =
    let schema = c.in-Ok.document.schema in
    let requests = c.as_slice.result.now in
    let (written, appended, wrote) = c.write_lines.ensures.response in
    let read : document c.args.bytes.now ≡ Some (with_requests schema requests) =
    c.in-Ok.ensures ∙ ap (λ rs. Some (with_requests schema rs)) (sym c.as_slice.ensures) in (
      written,
      appended,
      wrote-build c.write_lines.result c.args.bytes.now written schema requests _
          (λ state qs text has.
          let (ls, lines, tells, is) = has.1 in
          subst (λ (s : Declarations). IsOutput (with_requests s qs) text) c.in-Ok-new.ensures.schema (ls, lines, is))
          read wrote,
    )
