use Rattle.std.proofs.lemmas.Result.{IfOk-weaker}
use Rattle.sql_tool_talk.proofs.Replies.{told-opened}
use Rattle.sql_tool_talk.proofs.talker.open.Goals as goal

pub returns : goal.returns
returns c =
    IfOk-weaker c.remark.result _ _
    (λ said is.
    told-opened c.args.line.now c.usual.result.shapes c.usual.ensures c.open-status.new.self said c.requires c.open-status.result c.open-status.ensures.opened
    c.open-status.ensures.deep c.open-status.ensures.shallow c.open-status.ensures.refused c.open-status.ensures.status is)
    c.remark.ensures
