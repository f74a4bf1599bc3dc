use Rattle.std.proofs.Common.{◌∙◌}
use Rattle.sql_rules_check.proofs.EmptyLists.{emptied}
use Rattle.sql_rules_check.proofs.IllTyped.{mismatched}
use Rattle.sql_rules_check.proofs.typing.types_of_flat.Goals as goal

pub returns-clause-mismatched : goal.returns-clause-mismatched
returns-clause-mismatched c =
    λ s is schema d. mismatched s c.nodes.result.now c.in_ok-done.field-0.mismatched (c.nodes.ensures.nodes ∙ is)
    c.in_ok-done.ensures.mismatched schema d

pub returns-clause-empty : goal.returns-clause-empty
returns-clause-empty c =
    λ s is schema d. emptied s c.nodes.result.now c.in_ok-done.field-0.empty (c.nodes.ensures.nodes ∙ is)
    c.in_ok-done.ensures.empty schema d
