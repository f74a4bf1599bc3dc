use Rattle.std.proofs.Common.{◌∙◌, rules, tests}
use Rattle.std.proofs.lemmas.Iterator.Consumers.{YieldsList-from_first}
use Rattle.std.proofs.lemmas.Iterator.Search.{any_from_yields_List}
use Rattle.sql_rules_check.specs.inside.Grouping.{is_aggregate, own_passed}
use Rattle.sql_rules_check.specs.inside.Kids.{node_of, nodes_left}
use Rattle.sql_rules_check.proofs.GroupTurns.{aggregates-over}
use Rattle.sql_rules_check.proofs.grouping.has_aggregate.Goals as goal

pub returns : goal.returns
returns c =
    any_from_yields_List (λ d. is_aggregate d.1.kind) c.any.new.self _ _ c.any.ensures.ran
    (YieldsList-from_first node_of (nodes_left own_passed) {s = c.new.result} _ c.new.ensures) (λ x b q k. search (rules, tests))
    ∙ aggregates-over c.args.end c.args.from c.args.nodes.now
