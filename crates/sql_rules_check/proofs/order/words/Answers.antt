use Rattle.std.proofs.Common.{◌≤◌, ◌⊎◌, length, map, arith}
use Rattle.std.proofs.lemmas.Grind.{common_steps}
use Rattle.sql_flat_law.specs.Opened.{opens}
use Rattle.sql_rules_check.specs.inside.Words.{word_of}
use Rattle.sql_rules_check.proofs.Wording.{words-end}
use Rattle.sql_rules_check.proofs.order.words.Goals as goal

pub returns : goal.returns
returns c =
    let h : (c.args.end ≤ c.loop-index.index) ⊎ (length c.args.nodes.now ≤ c.loop-index.index) =
    grind (arith, common_steps) in
    words-end (opens c.loop-index.nest.items) c.args.end c.loop-index.index c.args.nodes.now
    (map word_of c.loop-index.all.items) _ h c.loop-index.invariant
