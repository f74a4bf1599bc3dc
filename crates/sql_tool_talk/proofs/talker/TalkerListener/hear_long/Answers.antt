use Rattle.std.proofs.lemmas.Result.{IfOk-weaker}
use Rattle.sql_tool_talk.proofs.Talks.{told-long}
use Rattle.sql_tool_talk.proofs.talker.TalkerListener.hear_long.Goals as goal

pub returns : goal.returns
returns c =
    IfOk-weaker c.answer_text.result _ _
    (λ text is line many first earlier before told. told-long c.args.self.now.responder earlier before line text.items many is told) c.answer_text.ensures
