use Rattle.std.proofs.Common.{◌∙◌}
use Rattle.sql_rules_check.proofs.UnsupportedNodes.{unsupported}
use Rattle.sql_rules_check.proofs.dialects.is_flat_unsupported.Goals as goal

pub returns : goal.returns
returns g c =
    λ s is schema. unsupported s c.nodes.result.now c.any_unsupported.result g.DB.Backend.speaks
    (c.nodes.ensures.nodes ∙ is) c.any_unsupported.ensures schema
