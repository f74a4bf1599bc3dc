use Rattle.std.proofs.Common.{◌++◌, option_map, subst, sym}
use Rattle.sql_tool_guard.specs.Trees.{tenant_tree}
use Rattle.sql_tool_session.specs.Session.{HasAnswered, asked_for}
use Rattle.sql_tool_session.specs.Within.{HasTooDeep, before_too_deep}
use Rattle.sql_tool_session.proofs.responder.Responder.next.Goals as goal

pub returns-in-Ok-clause-done : goal.returns-in-Ok-clause-done
returns-in-Ok-clause-done c = λ ended.
    let (a, read, none, same, tenant) = c.in-Ok.ensures.read in
    let (after, new, kept, grows) = c.go_on.ensures.done ended in
    let answer = c.go_on.new.self.answer.items in (
      c.in-Some.session,
      after,
      a,
      sym c.in-Some.ensures.value,
      new,
      read,
      none,
      kept,
      λ schema asked text has.
          subst (λ t. HasAnswered schema (asked ++ asked_for t a.document.requests) (text ++ answer) after) (sym tenant)
          (subst (λ rs. HasAnswered schema (asked ++ asked_for (option_map tenant_tree c.in-Ok.asking.tenant) rs) (text ++ answer) after) (sym same)
          (grows schema asked text has)),
    )

pub returns-in-Ok-clause-deep : goal.returns-in-Ok-clause-deep
returns-in-Ok-clause-deep c = λ after ended new.
    let (a, read, none, same, tenant) = c.in-Ok.ensures.read in
    let (deep, kept, grows) = c.go_on.ensures.deep after ended new in
    let answer = c.go_on.new.self.answer.items in (
      c.in-Some.session,
      a,
      sym c.in-Some.ensures.value,
      read,
      none,
      subst HasTooDeep (sym same) deep,
      kept,
      λ schema asked text has.
          subst (λ t. HasAnswered schema (asked ++ asked_for t (before_too_deep a.document.requests)) (text ++ answer) after)
          (sym tenant)
          (subst (λ rs. HasAnswered schema (asked ++ asked_for (option_map tenant_tree c.in-Ok.asking.tenant) (before_too_deep rs)) (text ++ answer) after) (sym same)
          (grows schema asked text has)),
    )
