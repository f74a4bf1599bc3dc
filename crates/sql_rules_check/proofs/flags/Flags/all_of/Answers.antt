use Rattle.std.proofs.Common.{◌+◌, take, List, ap, sym, ◌∙◌, subst}
use Rattle.std.proofs.lemmas.Bool.{false≢true}
use Rattle.sql_rules.specs.Lists.{Selects}
use Rattle.sql_rules.specs.declared.rule.Rule.{Rule}
use Rattle.sql_rules.specs.declared.rule.Rule.TheVariants as R
use Rattle.sql_rules_check.specs.inside.Flags.{IsUp}
use Rattle.sql_rules_check.proofs.Selections.{selects_more, selects_skip}
use Rattle.sql_rules_check.proofs.flags.Flags.all_of.Goals as goal
use Rattle.sql_rules_check.proofs.flags.Flags.all_of.Goals.{then-is_up+in_ok-push, else-is_up}

pub loop-rule-preserved : goal.loop-rule-preserved
loop-rule-preserved c =
    let P : Rule → Type 0 = IsUp c.args.self in
    let goes : List Rule → Type 0 = λ v. Selects P (take (c.loop-rule.rule-index + 1) c.args.rules.now) v in
    elim c.if-is_up.branch [
      | then-is_up+in_ok-push w ↦ subst goes (sym (ap (λ o. o.items) w.all-is ∙ w.in_ok-push.ensures.items))
          (selects_more P c.args.rules.now c.loop-rule.rule-index R.UnknownName c.loop-rule.all.items
          c.loop-rule-test.true c.loop-rule.invariant (sym c.is_up.ensures ∙ w.if-is_up.true))
      | else-is_up w ↦ subst goes (sym (ap (λ o. o.items) w.all-is))
          (selects_skip P c.args.rules.now c.loop-rule.rule-index R.UnknownName c.loop-rule.all.items
          c.loop-rule-test.true c.loop-rule.invariant (λ p. false≢true (sym w.if-is_up.false
          ∙ c.is_up.ensures ∙ p)))
    ]
