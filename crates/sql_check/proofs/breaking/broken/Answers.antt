use Rattle.std.proofs.Common.{[], ◌∷◌, List, ap, inl, inr, refl, subst, sym, ◌∙◌}
use Rattle.std.proofs.lemmas.Bool.{false≢true}
use Rattle.std.proofs.lemmas.List.{append-nil}
use Rattle.sql_node.specs.View.{statement_tree}
use Rattle.sql_rules.specs.Lists.{Selects}
use Rattle.sql_rules.specs.Rules.{Broken, all_rules}
use Rattle.sql_rules.specs.declared.rule.Rule.{Rule}
use Rattle.sql_rules.specs.declared.rule.Rule.TheVariants.{TooManyBinds}
use Rattle.sql_rules_check.specs.First.{inner_rules}
use Rattle.sql_rules_check.proofs.Selections.{selects-append}
use Rattle.sql_check.proofs.breaking.broken.Goals as goal
use Rattle.sql_check.proofs.breaking.broken.Goals.{then-branch+in_ok-push, else-branch}

pub returns : goal.returns
returns g c =
    let s = statement_tree c.args.statement.now in
    let P : Rule → Type 0 = λ r. Broken r c.args.schema.now g.DB.Backend.speaks s in
    let last = TooManyBinds ∷ [] in
    let goes : List Rule → Type 0 = Selects P all_rules in
    let inner = c.in_ok-rules.ensures s c.in_ok-flat.ensures in
    let many = c.in_ok-has_too_many.ensures s c.in_ok-flat.ensures in
    elim c.if-branch.branch [
      | then-branch+in_ok-push w ↦ subst goes (sym (ap (λ o. o.items) w.rules-is ∙ w.in_ok-push.ensures.items))
          (selects-append P inner_rules last c.in_ok-rules.rules.items last inner
          (inl (many.0 w.if-branch.true, ([], refl, refl))))
      | else-branch w ↦ subst goes (sym (ap (λ o. o.items) w.rules-is))
          (subst goes (append-nil c.in_ok-rules.rules.items)
          (selects-append P inner_rules last c.in_ok-rules.rules.items [] inner
          (inr ((λ p. false≢true (sym w.if-branch.false ∙ many.1 p)), refl))))
    ]
