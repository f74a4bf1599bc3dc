use Rattle.std.proofs.Common.{rules, ◌≡◌, ◌∙◌, [], take, append-nil, ap, subst, sym}
use Rattle.sql_tool_lines.specs.Turns.{Adds}
use Rattle.sql_tool_lines.specs.declared.listener.Stop.TheVariants.{NoMemory, ReadFault}
use Rattle.sql_tool_lines.proofs.Parts.{finished, goes-rests, stopped, went-on}
use Rattle.sql_tool_lines.proofs.Turns.{Adds-trans}
use Rattle.sql_tool_lines.proofs.conversation.converse.Goals as goal

-- a read fails
pub returns-in_default-clause-conversed : goal.returns-in_default-clause-conversed
returns-in_default-clause-conversed g c =
    let (es, adds, goes, reads, writes) = c.loop.invariant in (
      es,
      subst (Adds (g.P.Peer.history c.args.peer.now) (g.P.Peer.history c.read.new.self)) (append-nil es)
          (Adds-trans _ _ _ es [] adds c.in_default.ensures.history),
      record {
        prompt = goes.prompt;
        ends = goes-rests g.L.Listener.Answers g.L.Listener.LIMIT c.args.listener.now c.loop.listener c.loop.part es ReadFault goes;
      },
    )

-- the end
pub returns-then-count-eq0-clause-conversed : goal.returns-then-count-eq0-clause-conversed
returns-then-count-eq0-clause-conversed g c =
    let (es, adds, goes, reads, writes) = c.loop.invariant in
    let none : c.in-Ok.count ≡ 0 = search rules in
    finished g.L.Listener.Answers c.finish.result g.L.Listener.LIMIT c.args.listener.now c.loop.listener _ c.loop.part es
    _ (g.P.Peer.history c.loop.peer) (g.P.Peer.history c.read.new.self) _ (take c.in-Ok.count c.read.new.out)
    (ap (λ n. take n c.read.new.out) none) adds c.in-Ok.ensures.history goes c.finish.ensures.answered
    c.finish.ensures.stopped

-- it stops while it answers
pub returns-in-Err-clause-conversed : goal.returns-in-Err-clause-conversed
returns-in-Err-clause-conversed g c =
    let (es, adds, goes, reads, writes) = c.loop.invariant in
    stopped g.L.Listener.Answers _ g.L.Listener.LIMIT c.args.listener.now c.loop.listener c.loop.part es _
    (g.P.Peer.history c.loop.peer) (g.P.Peer.history c.read.new.self) _ (take c.in-Ok.count c.read.new.out)
    c.before-in-loop.result.now c.in-Err.stop (sym c.before-in-loop.ensures) adds c.in-Ok.ensures.history goes
    c.in-Err.ensures.stopped

pub loop-preserved : goal.loop-preserved
loop-preserved g c =
    let (es, adds, goes, reads, writes) = c.loop.invariant in
    let (all, added, went) =
    went-on g.L.Listener.Answers g.L.Listener.LIMIT c.args.listener.now c.loop.listener c.take_in.new.listener c.loop.part
    c.take_in.new.part es (g.P.Peer.history c.args.peer.now) (g.P.Peer.history c.loop.peer) (g.P.Peer.history c.read.new.self)
    (g.P.Peer.history c.take_in.new.peer) (take c.in-Ok.count c.read.new.out) c.before-in-loop.result.now
    (sym c.before-in-loop.ensures) adds c.in-Ok.ensures.history goes c.in-Ok-take_in.ensures.answered in (
      all,
      added,
      went,
      c.take_in.ensures.other ∙ c.in-Ok.ensures.cause.kept ∙ reads,
      c.take_in.ensures.no_write_fault (λ e. (let wrong = sym c.in-Ok-take_in.is ∙ e in cc)) ∙ c.read.ensures.other ∙ writes,
    )

-- as many reads as there are numbers
pub returns-clause-conversed : goal.returns-clause-conversed
returns-clause-conversed g c =
    let (es, adds, goes, reads, writes) = c.loop.invariant in (
      es,
      adds,
      record {
        prompt = goes.prompt;
        ends = goes-rests g.L.Listener.Answers g.L.Listener.LIMIT c.args.listener.now c.loop.listener c.loop.part es NoMemory goes;
      },
    )
