use Rattle.std.proofs.Common.{◌≡◌, ◌∙◌, ◌++◌, Some, map, option_map, ap, refl, subst}
use Rattle.sql_tool_document.specs.Trees.{request_tree}
use Rattle.sql_tool_guard.specs.Trees.{tenant_tree}
use Rattle.sql_tool_session.specs.Session.{HasAnswered, asked_for}
use Rattle.sql_tool_session.specs.Within.{HasTooDeep, before_too_deep}
use Rattle.sql_tool_session.proofs.TooDeep.{all_before, fewer_before}
use Rattle.sql_tool_session.proofs.responder.Responder.go_on.Goals as goal

pub returns-then-answered-requests-clause-deep : goal.returns-then-answered-requests-clause-deep
returns-then-answered-requests-clause-deep c = λ after ended new.
    let some = c.before_too_deep-answered.result.now in
    let all = c.as_slice-requests.result.now in
    let given = c.as_slice-requests.ensures in
    let tenant = option_map tenant_tree c.args.asking.now.tenant in
    let same : c.in-Ok.session ≡ after = (let both : Some c.in-Ok.session ≡ Some after = new in cc) in
    let cut : map request_tree some ≡ before_too_deep (map request_tree c.args.asking.now.requests) =
    c.before_too_deep-answered.ensures ∙ ap (λ rs. before_too_deep (map request_tree rs)) given in (
      subst (λ rs. HasTooDeep (map request_tree rs)) given
          (fewer_before some all c.before_too_deep-answered.ensures c.if-answered-requests.true),
      subst (λ s. s.terms ≡ c.args.session.terms) same c.in-Ok.ensures.terms,
      λ schema asked text has.
          subst
          (λ s. HasAnswered schema (asked ++ asked_for tenant (before_too_deep (map request_tree c.args.asking.now.requests)))
          (text ++ c.in-Ok.lines.items) s)
          same
          (subst (λ rs. HasAnswered schema (asked ++ asked_for tenant rs) (text ++ c.in-Ok.lines.items) c.in-Ok.session) cut
          (c.in-Ok.ensures.answered schema asked text has)),
    )

pub returns-else-answered-requests-clause-done : goal.returns-else-answered-requests-clause-done
returns-else-answered-requests-clause-done c = λ ended.
    let some = c.before_too_deep-answered.result.now in
    let all = c.as_slice-requests.result.now in
    let cut = c.before_too_deep-answered.ensures in
    let tenant = option_map tenant_tree c.args.asking.now.tenant in
    let whole : map request_tree some ≡ map request_tree c.args.asking.now.requests =
    cut ∙ all_before some all cut c.if-answered-requests.false ∙ ap (map request_tree) c.as_slice-requests.ensures in (
      c.in-Ok.session,
      refl,
      c.in-Ok.ensures.terms,
      λ schema asked text has.
          subst (λ rs. HasAnswered schema (asked ++ asked_for tenant rs) (text ++ c.in-Ok.lines.items) c.in-Ok.session) whole
          (c.in-Ok.ensures.answered schema asked text has),
    )
