use Rattle.std.proofs.Common.{◌≡◌, map}
use Rattle.sql_rules_check.specs.inside.Grouping.{fields_by, nothing_summed, piece_at, summed, sums_of}
use Rattle.sql_rules_check.specs.inside.Kids.{all_passed, kids_from, nodes_left}
use Rattle.sql_rules_check.proofs.GroupTurns.{piece_in}
use Rattle.sql_rules_check.proofs.grouping.clause_sums.Given as goal

abbrev pub invariant-loop-index : goal.invariant-loop-index
invariant-loop-index l =
    goal.iterator-loop-index.can_next l.index-iterator × goal.iterator-loop-index.is_finite l.index-iterator
    × (summed (fields_by l.nodes l.group) (sums_of l.all) (map (piece_in l.nodes) (nodes_left all_passed l.index-iterator))
    ≡ summed (fields_by l.nodes l.group) nothing_summed (kids_from piece_at l.end l.from l.nodes))
