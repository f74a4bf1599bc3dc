use Rattle.std.proofs.Common.{◌≤◌, ◌⊎◌, ◌∙◌, ap, length, map, sym, arith}
use Rattle.std.proofs.lemmas.Grind.{common_steps}
use Rattle.sql_rules_check.specs.inside.Words.{is_clause, word_of}
use Rattle.sql_rules_check.proofs.Wording.{clause-behind, no-clause-left}
use Rattle.sql_rules_check.proofs.order.clause_words.Goals as goal

pub loop-index-preserved : goal.loop-index-preserved
loop-index-preserved c =
    rw c.after-index.ensures.next
    (clause-behind (is_clause c.args.clause) c.args.end c.loop-index.index c.args.nodes.now
    c.index-nodes-index.result c.loop-index-test.true c.if-index-nodes.true c.index-nodes-index.is
    (sym c.is_clause.ensures ∙ c.if-is_clause.false)
    ∙ c.loop-index.invariant)

pub returns : goal.returns
returns c =
    let h : (c.args.end ≤ c.loop-index.index) ⊎ (length c.args.nodes.now ≤ c.loop-index.index) =
    grind (arith, common_steps) in
    ap (map word_of) c.new.ensures.items
    ∙ no-clause-left (is_clause c.args.clause) c.args.end c.loop-index.index c.args.nodes.now h
    ∙ c.loop-index.invariant
