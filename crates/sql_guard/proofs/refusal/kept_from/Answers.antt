use Rattle.std.proofs.Common.{◌∙◌}
use Rattle.sql_node.specs.View.{statement_tree}
use Rattle.sql_guard.proofs.OutOfKind.{out-of-kind}
use Rattle.sql_guard.proofs.Unrelated.{lacks-relation}
use Rattle.sql_guard.proofs.refusal.kept_from.Goals as goal

pub returns-clause-kind : goal.returns-clause-kind
returns-clause-kind c =
    out-of-kind (statement_tree c.args.statement.now) c.nodes-nodes.result.now c.any_out-out_of_kind.result
    (c.nodes-nodes.ensures.nodes ∙ c.in_ok-flat.ensures) c.any_out-out_of_kind.ensures

pub returns-clause-related : goal.returns-clause-related
returns-clause-related c =
    lacks-relation (statement_tree c.args.statement.now) c.nodes-nodes.result.now c.any_lacks_on-unrelated.result
    (c.nodes-nodes.ensures.nodes ∙ c.in_ok-flat.ensures) c.any_lacks_on-unrelated.ensures
