use Rattle.std.proofs.Common.{◌≡◌, length, map, option_map}
use Rattle.sql_node.specs.Tree.{no_expr}
use Rattle.sql_node.specs.View.{expr_tree, maybe_of}
use Rattle.sql_select.specs.Finding.{all_before, equal_each}
use Rattle.sql_select.proofs.find.equal_to.Given as goal

abbrev pub invariant-loop-column : goal.invariant-loop-column
invariant-loop-column l =
    (length l.columns.items ≡ length l.values.items)
    × (all_before (equal_each (map expr_tree l.columns.items) (map expr_tree l.values.items))
    (maybe_of (option_map expr_tree l.condition))
    ≡ all_before (equal_each (map expr_tree l.fn.columns.items) (map expr_tree l.fn.values.items)) no_expr)

abbrev pub decreases-loop-column : goal.decreases-loop-column
decreases-loop-column l = length l.columns.items
