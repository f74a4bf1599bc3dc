-- The shape of a statement without the lengths of its lists of values.
use Rattle.std.specs.Prelude.{[]}
use Rattle.sql_node.specs.Tree.{Statement}
use Rattle.sql_shape.specs.Shape.{erased}

abbrev pub shape_without_lengths : Statement → Statement
shape_without_lengths = erased (λ xs. [])
