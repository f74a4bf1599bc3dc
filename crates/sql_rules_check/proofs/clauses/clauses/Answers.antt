use Rattle.std.proofs.Common.{◌≡◌, ◌||◌, ◌∙◌, ap, refl, rules, tests}
use Rattle.std.specs.List.{list_any}
use Rattle.std.specs.Iterator.{YieldsFirstBy}
use Rattle.std.proofs.lemmas.Fn.{fold_over}
use Rattle.std.proofs.lemmas.Iterator.Consumers.{YieldsList-from_first}
use Rattle.sql_rules_check.specs.inside.Kids.{all_passed, node_of, nodes_left}
use Rattle.sql_rules_check.specs.inside.Clauses.{is_group, is_having}
use Rattle.sql_rules_check.proofs.ClauseKinds.{any-more, groups-over, havings-over}
use Rattle.sql_rules_check.proofs.clauses.clauses.Goals as goal

pub returns : goal.returns
returns c =
    let both = fold_over (YieldsFirstBy node_of (nodes_left all_passed)) node_of _
    (λ ds p. (p.groups ≡ list_any (λ d. is_group d.1.kind) ds) × (p.having ≡ list_any (λ d. is_having d.1.kind) ds)) _
    (λ ds a x b q held k.
    let groups : b.groups ≡ (a.groups || is_group x.1.now.kind) = search (rules, tests) in
    let having : b.having ≡ (a.having || is_having x.1.now.kind) = search (rules, tests) in (
      (
        groups ∙ ap (λ v. v || is_group x.1.now.kind) held.0 ∙ any-more (λ d. is_group d.1.kind) ds (node_of x),
        having ∙ ap (λ v. v || is_having x.1.now.kind) held.1 ∙ any-more (λ d. is_having d.1.kind) ds (node_of x),
      ),
      search (rules, tests),
    ))
    c.new.result _ _ _ (YieldsList-from_first node_of (nodes_left all_passed) {s = c.new.result} _ c.new.ensures).runs (refl, refl)
    c.fold.ensures.ran in
    record {
      groups = both.0 ∙ groups-over c.args.end c.args.from c.args.nodes.now;
      having = both.1 ∙ havings-over c.args.end c.args.from c.args.nodes.now;
    }
