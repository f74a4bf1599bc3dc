use Rattle.std.proofs.Common.{◌∙◌}
use Rattle.sql_rules_check.proofs.CountedPlaces.{places-counted}
use Rattle.sql_rules_check.proofs.counted.flat_positions_are_counted.Goals as goal

pub returns : goal.returns
returns c = λ s is. places-counted s c.nodes.result.now (c.nodes.ensures.nodes ∙ is) c.nodes_are_counted.ensures
