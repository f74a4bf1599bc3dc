use Rattle.std.proofs.Common.{◌∙◌}
use Rattle.sql_rules_check.proofs.Misgrouped.{misgrouping}
use Rattle.sql_rules_check.proofs.grouping.is_flat_misgrouped.Goals as goal

pub returns : goal.returns
returns c =
    λ s is schema d. misgrouping s c.nodes.result.now c.any_misgrouped.result (c.nodes.ensures.nodes ∙ is)
    c.any_misgrouped.ensures schema d
