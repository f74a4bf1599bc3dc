use Rattle.std.proofs.Common.{sym, ◌∙◌}
use Rattle.sql_key.proofs.Identified.{found-id}
use Rattle.sql_key.proofs.id.flat_query_id.Goals as goal

pub returns-in_ok-erased_nodes : goal.returns-in_ok-erased_nodes
returns-in_ok-erased_nodes c =
    λ s is. found-id c.nodes-nodes.result.now c.from.result
    (sym c.each_leaves_id.ensures ∙ c.if-each_leaves_id.true) (c.from.ensures ∙ c.in_ok-erased_nodes.ensures) s
    (c.nodes-nodes.ensures.nodes ∙ is)
