use Rattle.std.proofs.Common.{◌≡◌, ◌++◌, ◌∷◌, [], map}
use Rattle.std.proofs.lemmas.Result.{err_from_is_err_and}
use Rattle.std.proofs.lemmas.List.{map_push}
use Rattle.sql_tool_document.specs.inside.Seen.{items_seen}
use Rattle.sql_tool_document.specs.Policies.{policy_of}
use Rattle.sql_tool_document.specs.Members.{each}
use Rattle.sql_tool_document.specs.Trees.{named_policy_tree}
use Rattle.sql_tool_document.proofs.EachItem.{goes_on, ends, is_done}
use Rattle.sql_tool_document.proofs.policy.each_policy.Goals as goal

pub returns-in_err-one_policy : goal.returns-in_err-one_policy
returns-in_err-one_policy c =
    let xs = c.deref-item-items.result.now in
    let p = err_from_is_err_and c.from_residual.result c.from_residual.ensures.1 in
    let at_end =
    ends c.in_err-one_policy.field-0.0 policy_of (map named_policy_tree c.loop-item.all.items) xs c.loop-item.item-index
    c.item-item.result (each policy_of (items_seen xs)) c.loop-item-test.true c.item-item.is
    c.in_err-one_policy.ensures c.loop-item.invariant in
    rw (p.1, p.2, ← c.deref-item-items.ensures.value) at_end

pub loop-item-preserved : goal.loop-item-preserved
loop-item-preserved c =
    let xs = c.deref-item-items.result.now in
    let y = c.in_ok-one_policy.field-0 in
    let e : map named_policy_tree c.push.new.self.items ≡ map named_policy_tree c.loop-item.all.items ++ named_policy_tree y ∷ [] =
    rw c.in_ok-push.ensures.items (map_push _ c.loop-item.all.items y) in
    rw e
    (goes_on policy_of (map named_policy_tree c.loop-item.all.items) xs c.loop-item.item-index c.item-item.result
    (named_policy_tree y) (each policy_of (items_seen xs)) c.loop-item-test.true c.item-item.is
    c.in_ok-one_policy.ensures c.loop-item.invariant)

pub returns : goal.returns
returns c =
    let xs = c.deref-item-items.result.now in
    rw (← c.deref-item-items.ensures.value)
    (is_done policy_of (map named_policy_tree c.loop-item.all.items) xs c.loop-item.item-index
    (each policy_of (items_seen xs)) c.loop-item-test.false c.loop-item.invariant)
