use Rattle.std.proofs.Common.{rules, ◌≡◌, ◌∙◌, ◌+◌, [], ◌∷◌, ◌++◌, drop, take, append-nil, refl, ap, subst, sym}
use Rattle.sql_tool_lines.specs.Lines.{ended_after, unended_after}
use Rattle.sql_tool_lines.specs.inside.Parts.{Holds, MovesSome}
use Rattle.sql_tool_lines.specs.declared.listener.Stop.TheVariants.{NoMemory}
use Rattle.sql_tool_lines.proofs.Lines.{ended-next}
use Rattle.sql_tool_lines.proofs.Parts.{moves-nil, moves-trans, some-before, some-later, some-none}
use Rattle.sql_tool_lines.proofs.Turns.{Adds-nil, Adds-trans, writes-append}
use Rattle.sql_tool_lines.proofs.conversation.take_in.Goals as goal

pub loop-end-init : goal.loop-end-init
loop-end-init g c = (
  [],
  [],
  Adds-nil (g.P.Peer.history c.args.peer.now),
  refl,
  c.requires,
  λ begun holds. (begun, [], holds, refl, refl, moves-nil g.L.Listener.Answers c.args.listener.now),
  refl,
  refl,
)

pub loop-end-preserved : goal.loop-end-preserved
loop-end-preserved g c =
    let A = g.L.Listener.Answers in
    let limit : c.LIMIT.result ≡ g.L.Listener.LIMIT = search rules in
    let (es, text, adds, writes, held, took, same, other) = c.loop-end.invariant in
    let (fs, more, added, wrote, fresh, moved) = c.in-Ok-answer.ensures.answered in
    let rest = c.loop-end.rest.now in
    let next = c.after-rest.result.now in
    let end = c.in-Some.end in
    let found = c.in-Some.ensures.found.1 in (
      es ++ fs,
      text ++ more,
      Adds-trans _ _ _ es fs adds added,
      writes-append es fs text more writes wrote,
      ([], fresh),
      λ begun holds.
          let (now, lines, is, so, left, before) = took begun holds in
          let line = now ++ take end rest in
          let full =
          subst (λ n. Holds n c.extend.new.self line) limit
          (subst (λ p. Holds c.LIMIT.result c.extend.new.self (now ++ p)) c.before-in-Some.ensures
          (c.in-Ok.ensures now (subst (λ n. Holds n c.loop-end.part now) (sym limit) is))) in (
            [],
            lines ++ line ∷ [],
            fresh,
            ended-next lines (ended_after begun c.args.piece.now) now rest next end so (found now).0 c.after-rest.ensures.rest,
            left ∙ (found now).1 ∙ ap (unended_after []) (sym c.after-rest.ensures.rest),
            moves-trans A c.args.listener.now c.loop-end.listener c.answer.new.listener lines (line ∷ []) text more before
                (moved line full),
          ),
      c.answer.ensures.no_write_fault (λ e. (let wrong = sym c.in-Ok-answer.is ∙ e in cc)) ∙ same,
      c.answer.ensures.other ∙ other,
    )

pub returns-in-Err-clause-stopped : goal.returns-in-Err-clause-stopped
returns-in-Err-clause-stopped g c =
    let A = g.L.Listener.Answers in
    let limit : c.LIMIT.result ≡ g.L.Listener.LIMIT = search rules in
    let (es, text, adds, writes, held, took, same, other) = c.loop-end.invariant in
    let (fs, more, added, wrote, some) = c.in-Err.ensures.stopped in
    let rest = c.loop-end.rest.now in
    let end = c.in-Some.end in
    let found = c.in-Some.ensures.found.1 in
    let after = ended_after [] (drop (end + 1) rest) in (
      es ++ fs,
      text ++ more,
      Adds-trans _ _ _ es fs adds added,
      writes-append es fs text more writes wrote,
      λ begun holds.
          let (now, lines, is, so, left, before) = took begun holds in
          let line = now ++ take end rest in
          let full =
          subst (λ n. Holds n c.extend.new.self line) limit
          (subst (λ p. Holds c.LIMIT.result c.extend.new.self (now ++ p)) c.before-in-Some.ensures
          (c.in-Ok.ensures now (subst (λ n. Holds n c.loop-end.part now) (sym limit) is))) in
          let all =
          ended-next lines (ended_after begun c.args.piece.now) now rest (drop (end + 1) rest) end so (found now).0 refl in
          subst (λ ls. MovesSome A c.args.listener.now ls (text ++ more) c.in-Err.stop) (sym all)
          (some-before A c.args.listener.now (lines ++ line ∷ []) after (text ++ more) c.in-Err.stop
          (some-later A c.args.listener.now c.loop-end.listener lines (line ∷ []) text more c.in-Err.stop before (some line full))),
    )

pub returns-in_default-extend-clause-stopped : goal.returns-in_default-extend-clause-stopped
returns-in_default-extend-clause-stopped g c =
    let A = g.L.Listener.Answers in
    let (es, text, adds, writes, held, took, same, other) = c.loop-end.invariant in
    let rest = c.loop-end.rest.now in (
      es,
      text,
      adds,
      writes,
      λ begun holds.
          let (now, lines, is, so, left, before) = took begun holds in
          let left_over = ended_after now rest in
          subst (λ ls. MovesSome A c.args.listener.now ls text NoMemory) (sym so)
          (subst (λ t. MovesSome A c.args.listener.now (lines ++ left_over) t NoMemory) (append-nil text)
          (some-later A c.args.listener.now c.loop-end.listener lines left_over text [] NoMemory before
          (some-none A c.loop-end.listener left_over))),
    )
