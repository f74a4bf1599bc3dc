use Rattle.std.proofs.Common.{[], ◌∷◌, sym, subst, ◌∙◌}
use Rattle.std.proofs.lemmas.Bool.{false≢true}
use Rattle.sql_node.specs.Tree.{an_expr}
use Rattle.sql_node.specs.View.{expr_tree, statement_tree}
use Rattle.sql_rules.specs.Lists.{AnyOf}
use Rattle.sql_rules.specs.Scope.{parts}
use Rattle.sql_rules.proofs.Loops.{any_each}
use Rattle.sql_guard_law.specs.Tenant.{AnswersAsCut, BreaksAtMostTooManyBinds, HoldsSubselect, IsOutOfKind}
use Rattle.sql_guard.proofs.Closing.{holds-subselect}
use Rattle.sql_guard.proofs.restriction.restrict.Goals as goal

pub returns-clause-restricted : goal.returns-clause-restricted
returns-clause-restricted c =
    let t = c.args.table.now in
    let p = expr_tree c.args.predicate.now in
    let s = statement_tree c.args.statement.now in
    let kind : ¬ AnyOf IsOutOfKind (parts [] s) =
    λ i. false≢true (sym c.if-kept.false ∙ c.in_ok-kept.ensures.kind.1 i) in
    c.in_ok-restricted.ensures
    ∙ c.without_subselects_restricting_is_enough.ensures s (record { table = t; predicate = an_expr p } ∷ [])
    (c.in_ok-is_predicate.ensures.0 c.if-not-branch.false, tt)
    (λ i. kind (any_each HoldsSubselect IsOutOfKind holds-subselect (parts [] s) i))

pub returns-clause-exact : goal.returns-clause-exact
returns-clause-exact c = λ schema d h.
    let t = c.args.table.now in
    let p = expr_tree c.args.predicate.now in
    let s = statement_tree c.args.statement.now in
    let kind : ¬ AnyOf IsOutOfKind (parts [] s) =
    λ i. false≢true (sym c.if-kept.false ∙ c.in_ok-kept.ensures.kind.1 i) in
    subst (λ r. AnswersAsCut r s t p) (sym (returns-clause-restricted c))
    (c.restriction_is_exact.ensures schema d s t p h kind (c.in_ok-is_predicate.ensures.0 c.if-not-branch.false))

pub returns-clause-rules : goal.returns-clause-rules
returns-clause-rules c = λ schema d h.
    let t = c.args.table.now in
    let p = expr_tree c.args.predicate.now in
    let s = statement_tree c.args.statement.now in
    let kind : ¬ AnyOf IsOutOfKind (parts [] s) =
    λ i. false≢true (sym c.if-kept.false ∙ c.in_ok-kept.ensures.kind.1 i) in
    subst (λ r. BreaksAtMostTooManyBinds schema d r) (sym (returns-clause-restricted c))
    (c.restriction_keeps_the_rules.ensures schema d s t p h kind
    (c.in_ok-is_predicate.ensures.0 c.if-not-branch.false))
