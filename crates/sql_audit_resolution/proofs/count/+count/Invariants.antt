use Rattle.std.proofs.Common.{◌≡◌, ◌+◌, drop, map}
use Rattle.sql_read_tree.specs.View.{expression_tree, item_tree}
use Rattle.sql_read_tree.specs.Counts as counts
use Rattle.sql_audit_resolution.specs.inside.Lists as lists
use Rattle.sql_audit_resolution.proofs.count.+count.Given as goal

abbrev pub invariant-count_list-loop-e : goal.invariant-count_list-loop-e
invariant-count_list-loop-e l =
    counts.capped (l.total + lists.in_list (map expression_tree (drop l.e-index l.es)))
    ≡ counts.capped (l.n + lists.in_list (map expression_tree l.es))

abbrev pub invariant-count_items-loop-item : goal.invariant-count_items-loop-item
invariant-count_items-loop-item l =
    counts.capped (l.total + lists.in_items (map item_tree (drop l.item-index l.items)))
    ≡ counts.capped (l.n + lists.in_items (map item_tree l.items))
