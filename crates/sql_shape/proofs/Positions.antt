-- An order has no place exactly where its list is empty.
use Rattle.std.proofs.Common.{◌≡◌, ◌==◌, Some, List, [], ◌∷◌, length, refl, sym}
use Rattle.std.proofs.Math.Dec.{eqb-suc-zero}
use Rattle.sql_leaf.specs.declared.position.PositionalItem.{PositionalItem}
use Rattle.sql_shape.specs.Ids.{lacks_places}

pub positions-empty : (ps : List PositionalItem) → lacks_places (Some ps) ≡ (length ps == 0)
positions-empty [] = refl
positions-empty (p ∷ ps) = sym (eqb-suc-zero (length ps))

pub ruleset positions = (positions-empty)
