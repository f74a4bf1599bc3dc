use Rattle.std.proofs.Common.{List, drop, map, Result}
use Rattle.sql_schema.specs.declared.types.SqlType.{SqlType}
use Rattle.sql_pass.specs.Commas.{commas}
use Rattle.sql_pass.specs.Held.{Held, held}
use Rattle.sql_pass.specs.Pieces.{Piece, one, Bind}
use Rattle.sql_pass.specs.Walks.{Walks}
use Rattle.sql_pass.specs.declared.pass.PassError.{PassError}
use Rattle.sql_pass.specs.declared.value.Bound.TheVariants.{Value as OneValue}
use Rattle.sql_pass.specs.declared.value.Value.{Value}
use Rattle.sql_node.proofs.membership.walk_values.Given as goal

abbrev pub written : SqlType → Value → List Piece
written t v = one (Bind (OneValue t v))

abbrev pub invariant-loop-value : goal.invariant-loop-value
invariant-loop-value g l =
    let at = held g.DB.QueryBuilder.QueryBuilder.text g.DB.QueryBuilder.QueryBuilder.count in
    (r : Result (Unit {0}) PassError) (k : Held g.row.DB.Denot)
    → Walks g.DB.Backend.speaks (at l.pass) (commas l.first (map (written l.ty) (drop l.value-index l.values))) r k
    → Walks g.DB.Backend.speaks (at l.initial.pass) (commas l.initial.first (map (written l.ty) l.values)) r k
