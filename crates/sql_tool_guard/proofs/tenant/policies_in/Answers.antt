use Rattle.std.proofs.Common.{◌≡◌, [], ◌∷◌, ◌++◌, map, Some, option_map, refl, sym, ap, ◌∙◌}
use Rattle.std.proofs.lemmas.List.{map_push}
use Rattle.sql_build.proofs.Front.{goes_on}
use Rattle.sql_guard.specs.Trees.{policy_tree}
use Rattle.sql_tool_document.specs.Trees.{named_policy_tree}
use Rattle.sql_tool_guard.specs.Tenants.{policies_named, policy_named}
use Rattle.sql_tool_guard.proofs.tenant.policies_in.Goals as goal

pub loop-policy-preserved : goal.loop-policy-preserved
loop-policy-preserved c =
    let s = c.args.schema.now in
    let front = map policy_tree c.loop-policy.all.items in
    let made = c.in-Some.policy in
    let found : Some (policy_tree made) ≡ policy_named s (named_policy_tree c.policy-item.result) =
    ap (option_map policy_tree) (sym c.in-Some.is) ∙ c.in_ok-policy_in.ensures in
    let grows : map policy_tree c.push.new.self.items ≡ front ++ policy_tree made ∷ [] =
    rw c.in_ok-push-in-Some.ensures.items (map_push policy_tree c.loop-policy.all.items made) in
    rw grows
    (goes_on (λ q. policy_named s (named_policy_tree q)) (λ qs. policies_named s (map named_policy_tree qs)) (λ x xs. refl)
    front c.args.named.now c.loop-policy.policy-index c.policy-item.result (policy_tree made) _
    c.loop-policy-test.true c.policy-item.is found c.loop-policy.invariant)
