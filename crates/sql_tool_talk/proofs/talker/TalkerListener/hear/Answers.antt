use Rattle.std.proofs.Common.{rules, ◌≡◌, ◌∙◌, ap}
use Rattle.std.proofs.lemmas.Result.{IfOk-weaker}
use Rattle.sql_tool_talk.specs.Talk.{answer_text}
use Rattle.sql_tool_talk.proofs.Talks.{told-short}
use Rattle.sql_tool_talk.proofs.talker.TalkerListener.hear.Goals as goal

pub returns : goal.returns
returns c =
    let own = c.go_on.new.responder.answer.items in
    let remark = c.in_ok-remark.remark in
    let same : c.as_slice.result.now ≡ own = search rules in
    IfOk-weaker c.answer_text.result _ _
    (λ text is first earlier before told.
    told-short c.args.self.now.responder c.go_on.new.responder earlier before c.args.line.now own text.items remark c.requires
    (is ∙ ap (λ u. answer_text u remark) same) c.in_ok-remark.ensures told)
    c.answer_text.ensures
