use Rattle.std.proofs.Common.{drop, map}
use Rattle.sql_rules.specs.Lists.{Each}
use Rattle.sql_guard.specs.Closed.{IsSound}
use Rattle.sql_guard.specs.Trees.{policy_tree}
use Rattle.sql_guard.proofs.policy.are_sound.Given as goal

-- all are sound where those that are left are
abbrev pub invariant-loop-policy : goal.invariant-loop-policy
invariant-loop-policy l =
    Each IsSound (map policy_tree (drop l.policy-index l.policies)) → Each IsSound (map policy_tree l.policies)
