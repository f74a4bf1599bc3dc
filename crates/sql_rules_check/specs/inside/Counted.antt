-- Positions of orders among nodes.
use Rattle.std.specs.Prelude.{◌≤◌}
use Rattle.sql_flat.specs.declared.kind.FlatKind.{FlatKind}
use Rattle.sql_flat.specs.declared.kind.FlatKind.TheVariants as K

abbrev pub KindIsCounted : FlatKind → Type 0
KindIsCounted (K.Position p) = p.column.0 ≤ 4294967295
KindIsCounted _ = Unit {0}
