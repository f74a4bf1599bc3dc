use Rattle.std.proofs.Common.{◌∙◌}
use Rattle.sql_node.specs.View.{statement_tree}
use Rattle.sql_guard.proofs.Uncovered.{uncovered-decides}
use Rattle.sql_guard.proofs.Unrelated.{lacks-relation}
use Rattle.sql_guard.proofs.refusal.find_gaps.Goals as goal

pub returns-clause-related : goal.returns-clause-related
returns-clause-related c =
    lacks-relation (statement_tree c.args.statement.now) c.nodes-nodes.result.now c.any_lacks_on-unrelated.result
    (c.nodes-nodes.ensures.nodes ∙ c.in_ok-flat.ensures) c.any_lacks_on-unrelated.ensures

pub returns-clause-covered : goal.returns-clause-covered
returns-clause-covered c =
    uncovered-decides c.args.policies.now (statement_tree c.args.statement.now) c.nodes-nodes.result.now
    c.any_uncovered-uncovered.result (c.nodes-nodes.ensures.nodes ∙ c.in_ok-flat.ensures)
    c.any_uncovered-uncovered.ensures
