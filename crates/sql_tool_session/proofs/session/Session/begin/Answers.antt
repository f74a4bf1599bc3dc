use Rattle.std.proofs.Common.{◌∙◌, option_and_then, option_map, ap, refl, sym}
use Rattle.std.proofs.lemmas.Result.{err_from_is_err_and}
use Rattle.sql_tool_document.specs.Sessions.{Opening}
use Rattle.sql_tool_document.specs.Trees.{opening_tree, template_tree}
use Rattle.sql_tool_guard.specs.Trees.{tenant_tree}
use Rattle.sql_tool_session.specs.declared.session.Terms.{Terms}
use Rattle.sql_tool_session.proofs.Asking.{opened_done, opened_is, opened_refused}
use Rattle.sql_tool_session.proofs.session.Session.begin.Goals as goal

pub returns-in-Ok-new-clause-begun : goal.returns-in-Ok-new-clause-begun
returns-in-Ok-new-clause-begun c =
    let o = opening_tree c.in-Ok.opening in
    let tenant = option_map tenant_tree c.in_ok-tenant.tenant in (
      record { document = o.call.document; tenant = tenant },
      opened_is c.args.bytes.now o tenant c.in-Ok.ensures c.in_ok-tenant.ensures.found,
      refl,
      refl,
      (
        ap (λ (x : Terms). option_map template_tree x.template) c.in-Ok-new.ensures.1
            ∙ sym (ap (option_and_then (λ (x : Opening). x.template)) c.in-Ok.ensures),
        ap (λ (x : Terms). x.capacity.shapes) c.in-Ok-new.ensures.1,
      ),
      c.in-Ok-new.ensures.0,
    )

pub returns-in_err-tenant-clause-refused : goal.returns-in_err-tenant-clause-refused
returns-in_err-tenant-clause-refused c =
    let p = err_from_is_err_and c.from_residual.result c.from_residual.ensures.1 in
    rw (p.1, p.2)
    (opened_refused c.args.bytes.now (opening_tree c.in-Ok.opening) c.in_err-tenant.field-0.0 c.in-Ok.ensures
    c.if-bytes-gt-LIMIT.false c.in_err-tenant.ensures.refused)

pub returns-in-Ok-new-clause-done : goal.returns-in-Ok-new-clause-done
returns-in-Ok-new-clause-done c =
    opened_done c.args.bytes.now (opening_tree c.in-Ok.opening) (option_map tenant_tree c.in_ok-tenant.tenant) c.in-Ok.ensures
    c.in_ok-tenant.ensures.found c.if-bytes-gt-LIMIT.false
