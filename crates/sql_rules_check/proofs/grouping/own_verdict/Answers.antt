use Rattle.std.proofs.Common.{◌≡◌, ◌∙◌, ap, map, refl, rules, tests}
use Rattle.std.specs.Iterator.{YieldsFirstBy}
use Rattle.std.proofs.lemmas.Fn.{fold_over}
use Rattle.std.proofs.lemmas.Iterator.Consumers.{YieldsList-from_first}
use Rattle.sql_rules.specs.Verdicts.{mix}
use Rattle.sql_rules_check.specs.inside.Grouping.{all_give, fields_by, kind_gives, own_passed, verdict_of}
use Rattle.sql_rules_check.specs.inside.Kids.{node_of, nodes_left}
use Rattle.sql_rules_check.proofs.GroupTurns.{give-more, kinds_of, own-over}
use Rattle.sql_rules_check.proofs.grouping.own_verdict.Goals as goal

pub returns : goal.returns
returns c =
    let g = fields_by c.args.nodes.now c.args.group in
    fold_over (YieldsFirstBy node_of (nodes_left own_passed)) node_of _
    (λ ds v. verdict_of v ≡ all_give g (kinds_of ds)) _
    (λ ds a x b q held k.
    let is : verdict_of b ≡ mix (verdict_of a) (kind_gives g x.1.now.kind) = search (rules, tests) in
    (is ∙ ap (λ v. mix v (kind_gives g x.1.now.kind)) held ∙ give-more g ds (node_of x), search (rules, tests)))
    c.new.result _ _ _ (YieldsList-from_first node_of (nodes_left own_passed) {s = c.new.result} _ c.new.ensures).runs
    refl c.fold.ensures.ran
    ∙ ap (all_give g) (own-over c.args.end c.args.from c.args.nodes.now)
