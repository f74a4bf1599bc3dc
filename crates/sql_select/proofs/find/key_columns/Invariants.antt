use Rattle.std.proofs.Common.{◌≡◌, ◌++◌, drop, map}
use Rattle.sql_node.specs.View.{expr_tree}
use Rattle.sql_origin.specs.Borrowed.{origin_of}
use Rattle.sql_select.specs.Finding.{columns_named}
use Rattle.sql_select.proofs.find.key_columns.Given as goal

abbrev pub invariant-loop-name : goal.invariant-loop-name
invariant-loop-name l =
    map expr_tree l.all.items ++ columns_named (origin_of l.leaf) (drop l.name-index l.names)
    ≡ columns_named (origin_of l.leaf) l.names
