use Rattle.std.proofs.Common.{◌≡◌, ◌∙◌, Some, ap, inr, sym}
use Rattle.sql_tool_audit.specs.Output.{IsAuditOutput}
use Rattle.sql_tool_session.specs.Audited.{IsStartOf}
use Rattle.sql_tool_session.specs.declared.session.Session.{Session}
use Rattle.sql_tool_session.proofs.Auditing.{over_with}
use Rattle.sql_tool_session.proofs.responder.Responder.audit.Goals as goal

pub returns-in-Ok-add_lines-clause-done : goal.returns-in-Ok-add_lines-clause-done
returns-in-Ok-add_lines-clause-done c = λ session had ended.
    let same : c.in-Some.session ≡ session =
    (let both : Some c.in-Some.session ≡ Some session = sym c.in-Some.is ∙ had in cc) in
    let at = ap (λ (s : Session). s.cache.schema) same in
    over_with (λ x. IsAuditOutput c.args.dialect x c.add_lines.new.lines.items) session.cache.schema c.schema.result.now
    c.schema-2.result.now c.args.texts.now c.in-Ok.texts c.as_slice.result.now (c.schema.ensures ∙ at) (c.schema-2.ensures ∙ at)
    c.as_slice.ensures c.in-Ok.ensures.read c.in-Ok-add_lines.ensures.all

pub returns-clause-partial : goal.returns-clause-partial
returns-clause-partial c = λ session had ended.
    let same : c.in-Some.session ≡ session =
    (let both : Some c.in-Some.session ≡ Some session = sym c.in-Some.is ∙ had in cc) in
    let at = ap (λ (s : Session). s.cache.schema) same in
    inr
    (over_with (λ x. IsStartOf c.args.dialect x c.add_lines.new.lines.items) session.cache.schema c.schema.result.now
    c.schema-2.result.now c.args.texts.now c.in-Ok.texts c.as_slice.result.now (c.schema.ensures ∙ at) (c.schema-2.ensures ∙ at)
    c.as_slice.ensures c.in-Ok.ensures.read c.in-Err-add_lines.ensures.some)
