use Rattle.std.proofs.Common.{◌≡◌, map}
use Rattle.sql_tool_document.specs.inside.Seen.{items_seen}
use Rattle.sql_tool_document.specs.Policies.{policy_of}
use Rattle.sql_tool_document.specs.Members.{each}
use Rattle.sql_tool_document.specs.Trees.{named_policy_tree}
use Rattle.sql_tool_document.proofs.EachItem.{with_front, rest_of}
use Rattle.sql_tool_document.proofs.policy.each_policy.Given as goal

abbrev pub invariant-loop-item : goal.invariant-loop-item
invariant-loop-item l =
    with_front (map named_policy_tree l.all.items) (each policy_of (rest_of l.item-items l.item-index))
    ≡ each policy_of (items_seen l.item-items)
