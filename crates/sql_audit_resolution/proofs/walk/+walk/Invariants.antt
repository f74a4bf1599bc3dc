use Rattle.std.proofs.Common.{◌≡◌, drop, map}
use Rattle.sql_read_tree.specs.View.{expression_tree, item_tree}
use Rattle.sql_audit_resolution.specs.inside.After as after
use Rattle.sql_audit_resolution.proofs.walk.+walk.Given as goal

-- what is known so far, and after the rest, is what is known after the whole
abbrev pub invariant-walk_list-loop-e : goal.invariant-walk_list-loop-e
invariant-walk_list-loop-e l =
    after.after_list l.schema.tables l.levels l.known (map expression_tree (drop l.e-index l.es))
    ≡ after.after_list l.schema.tables l.levels l.initial.known (map expression_tree l.es)

abbrev pub invariant-walk_items-loop-item : goal.invariant-walk_items-loop-item
invariant-walk_items-loop-item l =
    after.after_items l.schema.tables l.levels l.known (map item_tree (drop l.item-index l.items))
    ≡ after.after_items l.schema.tables l.levels l.initial.known (map item_tree l.items)
