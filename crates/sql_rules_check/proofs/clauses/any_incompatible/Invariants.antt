use Rattle.std.proofs.Common.{◌≡◌, drop}
use Rattle.sql_rules_check.specs.inside.Ahead.{any_ahead}
use Rattle.sql_rules_check.specs.inside.Clauses.{incompatible_at}
use Rattle.sql_rules_check.proofs.clauses.any_incompatible.Given as goal

abbrev pub invariant-loop-index : goal.invariant-loop-index
invariant-loop-index l =
    any_ahead incompatible_at l.index (drop l.index l.nodes) ≡ any_ahead incompatible_at 0 l.nodes
