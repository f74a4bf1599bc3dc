-- Shapes of expressions, where lists of values are alike whatever their lengths.
use Rattle.std.specs.Prelude.{[]}
use Rattle.sql_node.specs.Tree.{Expr}
use Rattle.sql_shape.specs.Shape.{erased_expr}

-- the shape with the empty list for each list of values
abbrev pub expr_shape : Expr → Expr
expr_shape = erased_expr (λ xs. [])
