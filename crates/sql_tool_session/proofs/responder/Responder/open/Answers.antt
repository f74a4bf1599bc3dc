use Rattle.std.proofs.Common.{◌∙◌, [], option_map, ap, subst, sym}
use Rattle.sql_tool_document.specs.Trees.{template_tree}
use Rattle.sql_tool_guard.specs.Trees.{tenant_tree}
use Rattle.sql_tool_session.specs.Session.{HasAnswered, asked_for}
use Rattle.sql_tool_session.specs.declared.session.Terms.{Terms}
use Rattle.sql_tool_session.specs.Within.{HasTooDeep, before_too_deep}
use Rattle.sql_tool_session.proofs.responder.Responder.open.Goals as goal

pub returns-in-Ok-clause-opened : goal.returns-in-Ok-clause-opened
returns-in-Ok-clause-opened c = λ ended.
    let (a, read, asked, tenant, kept, has) = c.in-Ok.ensures.begun in
    let (after, new, same, grows) = c.go_on.ensures.done ended in
    let text = c.go_on.new.self.answer.items in (
      a,
      after,
      read,
      new,
      (ap (λ (x : Terms). option_map template_tree x.template) same ∙ kept.0, ap (λ (x : Terms). x.capacity.shapes) same ∙ kept.1),
      subst (λ t. HasAnswered a.document.schema (asked_for t a.document.requests) text after) (sym tenant)
          (subst (λ rs. HasAnswered a.document.schema (asked_for (option_map tenant_tree c.in-Ok.asking.tenant) rs) text after) (sym asked)
          (grows a.document.schema [] [] has)),
    )

pub returns-in-Ok-clause-deep : goal.returns-in-Ok-clause-deep
returns-in-Ok-clause-deep c = λ after ended new.
    let (a, read, asked, tenant, kept, has) = c.in-Ok.ensures.begun in
    let (deep, same, grows) = c.go_on.ensures.deep after ended new in
    let text = c.go_on.new.self.answer.items in (
      a,
      read,
      subst HasTooDeep (sym asked) deep,
      (ap (λ (x : Terms). option_map template_tree x.template) same ∙ kept.0, ap (λ (x : Terms). x.capacity.shapes) same ∙ kept.1),
      subst (λ t. HasAnswered a.document.schema (asked_for t (before_too_deep a.document.requests)) text after) (sym tenant)
          (subst (λ rs. HasAnswered a.document.schema (asked_for (option_map tenant_tree c.in-Ok.asking.tenant) (before_too_deep rs)) text after) (sym asked)
          (grows a.document.schema [] [] has)),
    )
