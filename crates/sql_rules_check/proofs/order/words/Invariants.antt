use Rattle.std.proofs.Common.{◌≡◌, ◌-◌, [], ◌++◌, drop, map}
use Rattle.sql_flat_law.specs.Opened.{opens}
use Rattle.sql_rules_check.specs.inside.Words.{word_of, words_from}
use Rattle.sql_rules_check.proofs.order.words.Given as goal

abbrev pub invariant-loop-index : goal.invariant-loop-index
invariant-loop-index l =
    map word_of l.all.items ++ words_from (opens l.nest.items) l.end l.index (drop l.index l.nodes)
    ≡ words_from [] l.end l.from (drop l.from l.nodes)

abbrev pub decreases-loop-index : goal.decreases-loop-index
decreases-loop-index l = l.end - l.index
