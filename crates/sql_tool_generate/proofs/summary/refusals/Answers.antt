use Rattle.std.proofs.Common.{rules, ◌≡◌, ◌∙◌, get_or, take, sym, ap}
use Rattle.std.proofs.lemmas.List.{take_more, take_all}
use Rattle.std.specs.BTreeMap.{get_by_text}
use Rattle.serde_json.proofs.Views.{view-Object}
use Rattle.serde_json.specs.Data.{no_members, object}
use Rattle.sql_rules.specs.Texts.{rule_text}
use Rattle.sql_rules.specs.declared.rule.Rule.TheVariants.{UnknownName}
use Rattle.sql_tool_generate.proofs.Tallies.{refusals-more}
use Rattle.sql_tool_generate.specs.Counts.{refused_as}
use Rattle.sql_tool_generate.specs.Summary.{cut, refusals as refusal_members, tallied}
use Rattle.sql_tool_generate.proofs.summary.refusals.Goals as goal

pub loop-rule-preserved : goal.loop-rule-preserved
loop-rule-preserved c = λ ls told.
    let rs = c.args.rules.now in
    let i = c.loop-rule.rule-index in
    let r = get_or rs i UnknownName in
    let many = cut (refused_as (rule_text r) ls) in
    let named : c.name-in-loop-rule.result.now ≡ rule_text r = search rules in
    let at : c.copied-count.result ≡ get_by_text c.args.refused.now (rule_text r) = search rules in
    c.in_ok-tally.ensures many (at ∙ told (rule_text r))
    ∙ (λ k. tallied (named k) many (c.loop-rule.invariant ls told k))
    ∙ sym (refusals-more (take i rs) r ls no_members)
    ∙ ap (λ xs. refusal_members xs ls no_members) (sym (take_more rs i UnknownName c.loop-rule-test.true))

pub returns : goal.returns
returns c = λ ls told.
    view-Object c.loop-rule.members ∙ ap object (c.loop-rule.invariant ls told)
    ∙ ap (λ xs. object (refusal_members xs ls no_members))
    (take_all c.loop-rule.rule-index c.args.rules.now c.loop-rule-test.false)
