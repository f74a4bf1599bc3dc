use Rattle.std.proofs.Common.{[], map, sym, subst, ◌∙◌}
use Rattle.std.proofs.lemmas.Bool.{false≢true}
use Rattle.sql_node.specs.View.{statement_tree}
use Rattle.sql_rules.specs.Lists.{AnyOf}
use Rattle.sql_rules.specs.Scope.{parts}
use Rattle.sql_rules.proofs.Loops.{any_each}
use Rattle.sql_guard_law.specs.Policies.{AnswersAsCutBy, LacksPolicy, SeesOnlyBy}
use Rattle.sql_guard_law.specs.Tenant.{BreaksAtMostTooManyBinds}
use Rattle.sql_guard.specs.Closed.{ReadsUncovered}
use Rattle.sql_guard.specs.Trees.{policy_tree}
use Rattle.sql_guard.proofs.Closing.{are-policies, lacks-policy}
use Rattle.sql_guard.proofs.restriction.restrict_all.Goals as goal

pub returns-clause-exact : goal.returns-clause-exact
returns-clause-exact c = λ schema d h.
    let qs = map policy_tree c.args.policies.now in
    let s = statement_tree c.args.statement.now in
    subst (λ r. AnswersAsCutBy r s qs) (sym c.in_ok-guarded.ensures)
    (c.guard_is_exact.ensures schema d s qs h (are-policies qs (c.in_ok-are_sound.ensures.0 c.if-not-branch.false)))

pub returns-clause-rules : goal.returns-clause-rules
returns-clause-rules c = λ schema d h.
    let qs = map policy_tree c.args.policies.now in
    let s = statement_tree c.args.statement.now in
    subst (λ r. BreaksAtMostTooManyBinds schema d r) (sym c.in_ok-guarded.ensures)
    (c.guard_keeps_the_rules.ensures schema d s qs h
    (are-policies qs (c.in_ok-are_sound.ensures.0 c.if-not-branch.false)))

pub returns-clause-seen : goal.returns-clause-seen
returns-clause-seen c = λ schema d h.
    let qs = map policy_tree c.args.policies.now in
    let s = statement_tree c.args.statement.now in
    let covered : ¬ AnyOf (ReadsUncovered qs) (parts [] s) =
    λ i. false≢true (sym c.if-left-2.false ∙ c.in_ok-left.ensures.covered.1 i) in
    subst (λ r. SeesOnlyBy qs r) (sym c.in_ok-guarded.ensures)
    (c.only_seen_rows_matter.ensures schema d s qs h
    (are-policies qs (c.in_ok-are_sound.ensures.0 c.if-not-branch.false))
    (λ i. covered (any_each (LacksPolicy qs) (ReadsUncovered qs) (lacks-policy qs) (parts [] s) i)))
