use Rattle.std.proofs.Common.{◌≡◌, ◌-◌}
use Rattle.sql_rules_check.specs.inside.Words.{clause_words, is_clause}
use Rattle.sql_rules_check.proofs.order.clause_words.Given as goal

abbrev pub invariant-loop-index : goal.invariant-loop-index
invariant-loop-index l =
    clause_words (is_clause l.clause) l.end l.index l.nodes ≡ clause_words (is_clause l.clause) l.end l.from l.nodes

abbrev pub decreases-loop-index : goal.decreases-loop-index
decreases-loop-index l = l.end - l.index
