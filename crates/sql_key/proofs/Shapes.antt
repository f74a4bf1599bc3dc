-- Equal keys and equal shapes.
use Rattle.std.proofs.Common.{◌≡◌, ◌↔◌, ap}
use Rattle.sql_node.specs.Tree.{Statement}
use Rattle.sql_flat.specs.Flat.{flat_of}
use Rattle.sql_flat.proofs.Unflattening.{one-statement}
use Rattle.sql_key.specs.Keys.{key}
use Rattle.sql_shape.specs.Shape.{shape}

pub same-shape : (a b : Statement) → (key a ≡ key b) ↔ (shape a ≡ shape b)
same-shape a b = (one-statement (shape a) (shape b), ap flat_of)

pub ruleset shapes = (same-shape)
