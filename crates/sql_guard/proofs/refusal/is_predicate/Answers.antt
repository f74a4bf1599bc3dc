use Rattle.std.proofs.Common.{ap, ◌∙◌}
use Rattle.std.specs.List.{list_any}
use Rattle.std.proofs.lemmas.Bool.Decides.{Decides-at}
use Rattle.sql_node.specs.View.{expr_tree}
use Rattle.sql_guard.specs.inside.Kinds.{is_foreign}
use Rattle.sql_guard.proofs.Foreign.{foreign-decides}
use Rattle.sql_guard.proofs.Refusing.{predicate-decides}
use Rattle.sql_guard.proofs.refusal.is_predicate.Goals as goal

pub returns : goal.returns
returns c =
    let t = c.args.table.now in
    let p = expr_tree c.args.expr.now in
    Decides-at _ _ c.and_not.ensures
    (predicate-decides t p _ _ (c.in_ok-condition.ensures p (c.as_slice.ensures.value ∙ c.in_ok-nodes.ensures))
    (foreign-decides t p _ _ c.in_ok-nodes.ensures (c.any_foreign-foreign.ensures ∙ ap (list_any (λ x. is_foreign t x.kind)) c.as_slice-2.ensures.value)))
