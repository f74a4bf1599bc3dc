use Rattle.std.proofs.Common.{◌≡◌, ◌++◌, map}
use Rattle.sql_node.specs.View.{expr_tree}
use Rattle.sql_origin.specs.Borrowed.{origin_of}
use Rattle.sql_origin.specs.Origins.{column_under}
use Rattle.sql_source.specs.Selections.{origin_columns}
use Rattle.sql_source.proofs.selection.columns.Given as goal

abbrev pub invariant-loop-column : goal.invariant-loop-column
invariant-loop-column l =
    map expr_tree l.all.items ++ map (column_under (origin_of l.origin).alias) l.column-iterator.rest.items
    ≡ origin_columns (origin_of l.origin)
