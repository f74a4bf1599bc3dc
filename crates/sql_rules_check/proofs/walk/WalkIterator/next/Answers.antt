use Rattle.std.proofs.Common.{◌≤◌, ◌⊎◌, get_or, length, ap, arith, rules}
use Rattle.std.proofs.lemmas.Grind.{common_steps}
use Rattle.sql_rules_check.specs.inside.Kids.{node_at}
use Rattle.sql_rules_check.proofs.Kids.{met-end, met-turn}
use Rattle.sql_rules_check.proofs.walk.WalkIterator.next.Goals as goal

pub returns-then-index-self-clause-steps : goal.returns-then-index-self-clause-steps
returns-then-index-self-clause-steps g c =
    let s = c.args.self.now in
    let h : (s.end ≤ s.index) ⊎ (length s.nodes.now ≤ s.index) = grind (arith, common_steps) in
    let none = met-end g.P.Passing.passed node_at s.end s.index s.nodes.now h in (none, none)

pub returns-clause-steps : goal.returns-clause-steps
returns-clause-steps g c =
    let s = c.args.self.now in
    let x = get_or s.nodes.now s.index c.index-self-index.result in
    rw c.after-self.ensures.next
    (met-turn g.P.Passing.passed node_at s.end s.index s.nodes.now x c.if-index-self.false c.if-index-self-2.false
    (ap (get_or s.nodes.now s.index) c.index-self-index.is))

pub returns-clause-goes : goal.returns-clause-goes
returns-clause-goes g c = let shorter = ap length (returns-clause-steps g c) in search rules
