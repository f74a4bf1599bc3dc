use Rattle.std.proofs.Common.{◌∙◌, refl, sym}
use Rattle.std.proofs.lemmas.Bool.{false≢true}
use Rattle.sql_guard.specs.Closed.{IsSound}
use Rattle.sql_guard.specs.Trees.{policy_tree}
use Rattle.sql_guard.proofs.Closing.{each-end, each-fails, each-next}
use Rattle.sql_guard.proofs.policy.are_sound.Goals as goal

pub returns-then-not-sound : goal.returns-then-not-sound
returns-then-not-sound c = (
  λ e. absurd (false≢true e),
  λ h. absurd
      (each-fails policy_tree IsSound c.args.policies.now c.loop-policy.policy-index c.policy-item.result
      c.loop-policy-test.true c.policy-item.is
      (λ s. false≢true (sym c.if-not-sound.true ∙ c.in_ok-sound.ensures.1 s)) h),
)

pub loop-policy-preserved : goal.loop-policy-preserved
loop-policy-preserved c =
    each-next policy_tree IsSound c.args.policies.now c.loop-policy.policy-index c.policy-item.result c.loop-policy-test.true
    c.policy-item.is (c.in_ok-sound.ensures.0 c.if-not-sound.false) c.loop-policy.invariant

pub returns : goal.returns
returns c = (
  λ _. each-end policy_tree IsSound c.args.policies.now c.loop-policy.policy-index c.loop-policy-test.false
      c.loop-policy.invariant,
  λ _. refl,
)
