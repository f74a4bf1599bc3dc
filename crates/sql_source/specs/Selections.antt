-- The default selection of a source: the columns of each leaf in order (PostgreSQL, SELECT, SELECT List; diesel,
-- `QuerySource::default_selection`).
use Rattle.std.specs.Prelude.{List, [], ◌∷◌, ◌++◌, map, flat_map}
use Rattle.sql_schema.specs.Columns.{columns_in}
use Rattle.sql_leaf.specs.declared.table_source.JoinKind.{JoinKind}
use Rattle.sql_leaf.specs.declared.table_source.JoinKind.TheVariants.{Inner, LeftOuter}
use Rattle.sql_node.specs.Tree.{Origin, Expr, nullable, list, under, Source}
use Rattle.sql_node.specs.View.{exprs_of}
use Rattle.sql_origin.specs.Leaves.{Leaf, leaves}
use Rattle.sql_origin.specs.Origins.{column_under}

-- the columns of a table, or the fields of an alias
abbrev pub origin_columns : Origin → List Expr
origin_columns o = map (λ c. column_under o.alias c) (columns_in o.table)

-- the columns of a leaf, nullable once for each left outer join that it lies in the right side of
abbrev pub leaf_columns : Leaf → List Expr
leaf_columns l = map (λ e. under l.paddings e) (origin_columns l.origin)

unfoldable pub selected : Source → List Expr
selected s = flat_map leaf_columns (leaves s)

abbrev pub default_list : Source → Expr
default_list s = list (exprs_of (selected s))

-- the own list, with one element more
abbrev pub appended_list : Source → Expr → Expr
appended_list s e = list (exprs_of (selected s ++ e ∷ []))

-- the columns of a join's right side
abbrev pub padded : JoinKind → List Expr → List Expr
padded Inner es = es
padded LeftOuter es = map nullable es
