use Rattle.std.proofs.Common.{◌∙◌, rules, tests}
use Rattle.std.proofs.lemmas.Iterator.Consumers.{YieldsList-from_first}
use Rattle.std.proofs.lemmas.Iterator.Search.{any_from_yields_List}
use Rattle.sql_origin.specs.Borrowed.{origin_of}
use Rattle.sql_rules.specs.Verdicts.{holds_column}
use Rattle.sql_rules_check.specs.inside.Grouping.{field_at, field_passed}
use Rattle.sql_rules_check.specs.inside.Kids.{node_of, nodes_left}
use Rattle.sql_rules_check.proofs.GroupTurns.{holds-over}
use Rattle.sql_rules_check.proofs.grouping.holds.Goals as goal

pub returns : goal.returns
returns c =
    any_from_yields_List (λ d. holds_column (field_at d.1.kind) (origin_of c.args.origin) c.args.name.now) c.any.new.self _ _
    c.any.ensures.ran (YieldsList-from_first node_of (nodes_left field_passed) {s = c.new.result} _ c.new.ensures)
    (λ x b q k. search (rules, tests))
    ∙ holds-over c.args.group.end c.args.group.start c.args.nodes.now (origin_of c.args.origin) c.args.name.now
