use Rattle.std.proofs.Common.{List, drop, map, Result}
use Rattle.sql_pass.specs.Commas.{commas}
use Rattle.sql_pass.specs.Held.{Held, held}
use Rattle.sql_pass.specs.Walks.{Walks}
use Rattle.sql_pass.specs.declared.pass.PassError.{PassError}
use Rattle.sql_leaf.specs.Positions.{position_pieces}
use Rattle.sql_leaf.specs.declared.position.PositionalItem.{PositionalItem}
use Rattle.sql_pass.specs.Pieces.{Piece}
use Rattle.sql_node.proofs.combination.walk_positions.Given as goal

abbrev pub written : PositionalItem → List Piece
written p = position_pieces p.column p.direction

abbrev pub invariant-loop-item : goal.invariant-loop-item
invariant-loop-item g l =
    let at = held g.DB.QueryBuilder.QueryBuilder.text g.DB.QueryBuilder.QueryBuilder.count in
    (r : Result (Unit {0}) PassError) (k : Held g.row.DB.Denot)
    → Walks g.DB.Backend.speaks (at l.pass) (commas l.first (map written (drop l.item-index l.items))) r k
    → Walks g.DB.Backend.speaks (at l.initial.pass) (commas l.initial.first (map written l.items)) r k
