-- Whether kinds are equal.
use Rattle.std.specs.Prelude.{Bool}
use Rattle.sql_flat.specs.contracts.kind.FlatKindPartialEq.TheImpl as kind_eq
use Rattle.sql_flat.specs.declared.kind.FlatKind.{FlatKind}

abbrev pub same_kind : FlatKind → FlatKind → Bool
same_kind = (kind_eq.ghosts).eq
