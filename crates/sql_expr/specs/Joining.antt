-- The right side of a join: a source, alone or with its condition.
use Rattle.std.specs.Prelude.{Option, Some, None, List, [], ◌++◌, codes}
use Rattle.sql_dialect.specs.declared.backend.Dialect.{Dialect}
use Rattle.sql_pass.specs.Pieces.{Piece, one, Text}
use Rattle.sql_node.specs.Tree as t
use Rattle.sql_node.specs.View.{expr_tree, source_tree}
use Rattle.sql_node.specs.Pieces.{expr_pieces, source_pieces}
use Rattle.sql_expr.specs.declared.on_clause.OnClauseWrapper.{OnClauseWrapper}
use Rattle.sql_expr.specs.declared.on_clause.JoinRhs.{JoinRhs}
use Rattle.sql_expr.specs.declared.on_clause.JoinRhs.TheVariants as rhs

pub record Side : Type 0 where
  pub source : t.Source
  pub on : Option t.Expr

abbrev pub wrapper_tree : OnClauseWrapper → Side
wrapper_tree w = record { source = source_tree w.source; on = Some (expr_tree w.on) }

abbrev pub side_tree : JoinRhs → Side
side_tree (rhs.Source s) = record { source = source_tree s; on = None }
side_tree (rhs.On w) = wrapper_tree w

-- a source that has no condition of its own
abbrev pub without_condition : t.Source → Side
without_condition s = record { source = s; on = None }

abbrev pub on_pieces : Dialect → Option t.Expr → List Piece
on_pieces d None = []
on_pieces d (Some e) = one (Text (codes " ON ")) ++ expr_pieces d e

-- the source, and ` ON ` with the condition that it has
abbrev pub side_pieces : Dialect → Side → List Piece
side_pieces d s = source_pieces d s.source ++ on_pieces d s.on
