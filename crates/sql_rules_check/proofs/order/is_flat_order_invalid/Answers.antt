use Rattle.std.proofs.Common.{◌∙◌}
use Rattle.sql_rules_check.proofs.DistinctOrders.{disordered-answer}
use Rattle.sql_rules_check.proofs.order.is_flat_order_invalid.Goals as goal

pub returns : goal.returns
returns c =
    λ s is schema d. disordered-answer s c.nodes.result.now c.any_disordered.result (c.nodes.ensures.nodes ∙ is)
    c.any_disordered.ensures schema d
