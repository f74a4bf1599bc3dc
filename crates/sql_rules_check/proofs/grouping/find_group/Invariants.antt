use Rattle.std.proofs.Common.{◌≡◌, map}
use Rattle.sql_rules_check.specs.inside.Grouping.{group_in, piece_at}
use Rattle.sql_rules_check.specs.inside.Kids.{all_passed, kids_from, nodes_left}
use Rattle.sql_rules_check.proofs.GroupTurns.{piece_in}
use Rattle.sql_rules_check.proofs.grouping.find_group.Given as goal

abbrev pub invariant-loop-start : goal.invariant-loop-start
invariant-loop-start l =
    goal.iterator-loop-start.can_next l.start-iterator × goal.iterator-loop-start.is_finite l.start-iterator
    × (group_in (map (piece_in l.nodes) (nodes_left all_passed l.start-iterator))
    ≡ group_in (kids_from piece_at l.end l.from l.nodes))
