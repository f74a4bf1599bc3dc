use Rattle.std.proofs.Common.{◌≡◌, ◌-◌, drop, length, map}
use Rattle.sql_rules_check.specs.inside.Words.{clash, word_of}
use Rattle.sql_rules_check.proofs.order.do_differ.Given as goal

abbrev pub invariant-loop-index : goal.invariant-loop-index
invariant-loop-index l =
    clash (map word_of (drop l.index l.ones)) (map word_of (drop l.index l.others))
    ≡ clash (map word_of l.ones) (map word_of l.others)

abbrev pub decreases-loop-index : goal.decreases-loop-index
decreases-loop-index l = length l.initial.ones - l.index
