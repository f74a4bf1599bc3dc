use Rattle.std.proofs.Common.{◌≡◌, drop, map}
use Rattle.sql_build.proofs.Front.{with_front}
use Rattle.sql_guard.specs.Trees.{policy_tree}
use Rattle.sql_tool_document.specs.Trees.{named_policy_tree}
use Rattle.sql_tool_guard.specs.Tenants.{policies_named}
use Rattle.sql_tool_guard.proofs.tenant.policies_in.Given as goal

abbrev pub invariant-loop-policy : goal.invariant-loop-policy
invariant-loop-policy l =
    with_front (map policy_tree l.all.items)
    (policies_named l.schema (map named_policy_tree (drop l.policy-index l.named)))
    ≡ policies_named l.schema (map named_policy_tree l.named)
