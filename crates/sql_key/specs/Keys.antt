-- The contents of a key: the flat list of the statement's shape, which is the statement's flat list with its values erased.
use Rattle.std.specs.Prelude.{List, Option, None, Some, if◌then◌else◌}
use Rattle.sql_node.specs.Tree.{Statement}
use Rattle.sql_flat.specs.Flat.{flat_of}
use Rattle.sql_flat.specs.declared.kind.FlatNode.{FlatNode}
use Rattle.sql_shape.specs.Ids.{has_id}
use Rattle.sql_shape.specs.Shape.{shape}

abbrev pub key : Statement → List FlatNode
key s = flat_of (shape s)

-- the key of a statement that has an id
abbrev pub id_of : Statement → Option (List FlatNode)
id_of s = if has_id s then Some (key s) else None
