-- A borrowed origin as the origin itself.
use Rattle.std.specs.Prelude.{option_map}
use Rattle.sql_node.specs.Tree as t
use Rattle.sql_origin.specs.declared.origin.Origin.{Origin}

abbrev pub origin_of : Origin → t.Origin
origin_of o = record { alias = option_map (λ a. a.now) o.alias; table = o.table.now }
