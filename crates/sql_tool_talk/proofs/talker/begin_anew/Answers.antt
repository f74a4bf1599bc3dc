use Rattle.std.proofs.Common.{◌∙◌, inl, refl, sym}
use Rattle.sql_tool_talk.proofs.Replies.{begun}
use Rattle.sql_tool_talk.proofs.talker.begin_anew.Goals as goal

pub returns-then-branch : goal.returns-then-branch
returns-then-branch c =
    inl (
      sym c.in_ok-is_reset.ensures ∙ c.if-branch.true,
      refl,
      c.reset.ensures.answer,
      begun c.reset.result c.args.responder.now c.reset.new.self c.reset.ensures.usage.0 c.reset.ensures.done
          c.reset.ensures.status,
    )
