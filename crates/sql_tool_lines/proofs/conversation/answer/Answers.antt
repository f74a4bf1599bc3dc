use Rattle.std.proofs.Common.{◌≡◌, ◌∙◌, [], ◌∷◌, refl, subst, sym}
use Rattle.sql_tool_lines.specs.Conversation.{Moves}
use Rattle.sql_tool_lines.specs.declared.listener.Stop.TheVariants.{ReadFault, WriteFault}
use Rattle.sql_tool_lines.proofs.Parts.{some-none}
use Rattle.sql_tool_lines.proofs.Turns.{Adds-nil}
use Rattle.sql_tool_lines.proofs.conversation.answer.Goals as goal

pub returns-in_default-clause-stopped : goal.returns-in_default-clause-stopped
returns-in_default-clause-stopped g c = (
  [],
  [],
  Adds-nil (g.P.Peer.history c.args.peer.now),
  refl,
  λ line holds. some-none g.L.Listener.Answers c.args.listener.now (line ∷ []),
)

pub returns-clause-stopped : goal.returns-clause-stopped
returns-clause-stopped g c =
    let (es, done, rest, adds, writes, split) = c.in-Err.ensures.prefix in (
      es,
      done,
      adds,
      writes,
      λ line holds. record {
        state = c.heard.new.listener;
        some = line ∷ [];
        later = [];
        rest = rest;
        split = refl;
        moved = subst (Moves g.L.Listener.Answers c.args.listener.now c.heard.new.listener (line ∷ []))
            (sym c.as_slice.ensures.value ∙ split) (c.in-Ok.ensures line holds);
        whole = λ other. absurd (other refl);
        written = λ e. (let wrong : WriteFault ≡ ReadFault = e in cc);
      },
    )
