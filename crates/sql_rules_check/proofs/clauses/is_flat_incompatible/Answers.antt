use Rattle.std.proofs.Common.{◌∙◌}
use Rattle.sql_rules_check.proofs.ClauseKinds.{misfitting}
use Rattle.sql_rules_check.proofs.clauses.is_flat_incompatible.Goals as goal

pub returns : goal.returns
returns c =
    λ s is schema d. misfitting s c.nodes.result.now c.any_incompatible.result (c.nodes.ensures.nodes ∙ is)
    c.any_incompatible.ensures schema d
