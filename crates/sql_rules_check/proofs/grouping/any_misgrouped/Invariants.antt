use Rattle.std.proofs.Common.{◌≡◌, drop}
use Rattle.sql_rules_check.specs.inside.Ahead.{any_ahead}
use Rattle.sql_rules_check.specs.inside.Grouping.{misgrouped_at}
use Rattle.sql_rules_check.proofs.grouping.any_misgrouped.Given as goal

abbrev pub invariant-loop-index : goal.invariant-loop-index
invariant-loop-index l =
    any_ahead misgrouped_at l.index (drop l.index l.nodes) ≡ any_ahead misgrouped_at 0 l.nodes
