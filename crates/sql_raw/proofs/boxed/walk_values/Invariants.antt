use Rattle.std.proofs.Common.{drop, Result}
use Rattle.sql_pass.specs.Held.{Held, held}
use Rattle.sql_pass.specs.Walks.{Walks}
use Rattle.sql_pass.specs.declared.pass.PassError.{PassError}
use Rattle.sql_raw.specs.Boxed.{values_only}
use Rattle.sql_raw.proofs.boxed.walk_values.Given as goal

abbrev pub invariant-loop-value : goal.invariant-loop-value
invariant-loop-value g l =
    let at = held g.DB.QueryBuilder.QueryBuilder.text g.DB.QueryBuilder.QueryBuilder.count in
    (r : Result (Unit {0}) PassError) (k : Held g.row.DB.Denot)
    → Walks g.DB.Backend.speaks (at l.pass) (values_only (drop l.value-index l.values)) r k
    → Walks g.DB.Backend.speaks (at l.initial.pass) (values_only l.values) r k
