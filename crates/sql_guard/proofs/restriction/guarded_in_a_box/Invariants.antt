use Rattle.std.proofs.Common.{◌≡◌, drop, map}
use Rattle.sql_node.specs.View.{statement_tree}
use Rattle.sql_guard_law.specs.Policies.{guarded_all}
use Rattle.sql_guard.specs.Trees.{policy_tree}
use Rattle.sql_guard.proofs.restriction.guarded_in_a_box.Given as goal

-- the policies that are left make of the statement so far what all make of the first
abbrev pub invariant-loop-policy : goal.invariant-loop-policy
invariant-loop-policy l =
    guarded_all (map policy_tree (drop l.policy-index l.policies)) (statement_tree l.guarded.value)
    ≡ guarded_all (map policy_tree l.policies) (statement_tree l.statement)
