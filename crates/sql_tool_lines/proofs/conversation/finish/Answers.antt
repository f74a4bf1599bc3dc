use Rattle.std.proofs.Common.{◌≡◌, ◌∙◌, false, true, subst, sym}
use Rattle.std.proofs.lemmas.Result.{IfErr-weaker}
use Rattle.sql_tool_lines.specs.inside.Parts.{MovesSome}
use Rattle.sql_tool_lines.proofs.Lines.{last-one}
use Rattle.sql_tool_lines.proofs.conversation.finish.Goals as goal

pub returns-clause-stopped : goal.returns-clause-stopped
returns-clause-stopped g c =
    IfErr-weaker c.answer.result _ _
    (λ e some.
    let (es, text, adds, writes, moved) = some in (
      es,
      text,
      adds,
      writes,
      λ line holds.
          subst (λ ls. MovesSome g.L.Listener.Answers c.args.listener.now ls text e)
          (sym (last-one line (λ none.
          let wrong : false ≡ true = sym c.if-is_empty.false ∙ (c.is_empty.ensures g.L.Listener.LIMIT line holds).1 none in cc)))
          (moved line holds),
    ))
    c.answer.ensures.stopped
