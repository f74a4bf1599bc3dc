use Rattle.std.proofs.Common.{◌∙◌}
use Rattle.sql_rules_check.proofs.PaddedRows.{lacking-answer}
use Rattle.sql_rules_check.proofs.padding.lacks_flat_nullable.Goals as goal

pub returns : goal.returns
returns c =
    λ s is schema d. lacking-answer s c.nodes.result.now c.find_any.result (c.nodes.ensures.nodes ∙ is)
    c.find_any.ensures schema d
