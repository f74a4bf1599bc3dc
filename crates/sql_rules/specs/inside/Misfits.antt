-- Values that do not fit their types.
use Rattle.std.specs.Prelude.{Bool, false, not}
use Rattle.sql_node.specs.Tree.{Expr, value}
use Rattle.sql_rules.specs.Types.{fits}

abbrev pub misfit : Expr → Bool
misfit (value t x) = not (fits t x)
misfit _ = false
