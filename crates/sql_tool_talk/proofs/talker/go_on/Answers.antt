use Rattle.std.proofs.Common.{rules, ◌≡◌, ◌∙◌, sym}
use Rattle.std.proofs.lemmas.Result.{IfOk-weaker}
use Rattle.sql_tool_run.specs.declared.status.Status.TheVariants.{BadDocument, Done, NoMemory, Usage}
use Rattle.sql_tool_talk.proofs.Replies.{told-anew, told-next}
use Rattle.sql_tool_talk.proofs.talker.go_on.Goals as goal

pub returns-in_default : goal.returns-in_default
returns-in_default c =
    let other : c.next.result ≡ Usage → ⊥ = search rules in
    let good : c.next.result ≡ BadDocument → ⊥ = search rules in
    IfOk-weaker c.remark.result _ _
    (λ said is.
    told-next c.args.line.now c.args.responder.now c.next.new.self said c.next.result other good c.next.ensures.usage.1
    c.next.ensures.done c.next.ensures.deep c.next.ensures.shallow is)
    c.remark.ensures

pub returns-in-BadDocument : goal.returns-in-BadDocument
returns-in-BadDocument c =
    let bad : c.next.result ≡ BadDocument = c.in-BadDocument.is in
    let (same, declares) = c.next.ensures.bad bad in
    let empty =
    c.next.ensures.nothing (λ e. (let wrong : BadDocument ≡ Done = sym bad ∙ e in cc))
    (λ e. absurd (let wrong : BadDocument ≡ NoMemory = sym bad ∙ e in cc)) in
    IfOk-weaker c.begin_anew.result _ _
    (λ said is.
    told-anew c.args.line.now c.args.responder.now c.next.new.self c.begin_anew.new.responder said
    (λ none. (let wrong : BadDocument ≡ Usage = sym bad ∙ c.next.ensures.usage.1 none in cc)) same empty declares is)
    c.begin_anew.ensures
