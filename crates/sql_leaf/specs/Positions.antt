-- Order by the position of a column in the answer (PostgreSQL, SELECT, ORDER BY Clause).
use Rattle.std.specs.Prelude.{List, [], ◌++◌, codes, decimal}
use Rattle.sql_pass.specs.Pieces.{Piece, one, Text}
use Rattle.sql_leaf.specs.declared.position.Direction.{Direction}
use Rattle.sql_leaf.specs.declared.position.Direction.TheVariants as direction
use Rattle.sql_leaf.specs.declared.position.OrderColumn.{OrderColumn}

abbrev pub direction_pieces : Direction → List Piece
direction_pieces direction.None = []
direction_pieces direction.Asc = one (Text (codes " ASC"))
direction_pieces direction.Desc = one (Text (codes " DESC"))

-- `1 DESC`
abbrev pub position_pieces : OrderColumn → Direction → List Piece
position_pieces column by = one (Text (decimal column.0)) ++ direction_pieces by
