use Rattle.std.proofs.Common.{◌≡◌, ◌++◌, ℕ, List, drop, map, string_bytes}
use Rattle.sql_read_writer.specs.More as more
use Rattle.sql_read_tree.specs.View.{expression_tree, item_tree}
use Rattle.sql_read_writer.proofs.write.+write.Given as goal

-- what is written so far and what is left make the whole
abbrev pub invariant-push_list-loop-e : goal.invariant-push_list-loop-e
invariant-push_list-loop-e l =
    (rest : List ℕ) → string_bytes l.out
    ++ more.listed l.dialect (more.head l.first l.head) (map expression_tree (drop l.e-index l.es)) rest
    ≡ string_bytes l.initial.out ++ more.listed l.dialect l.head (map expression_tree l.es) rest

abbrev pub invariant-push_items-loop-item : goal.invariant-push_items-loop-item
invariant-push_items-loop-item l =
    (rest : List ℕ) → string_bytes l.out
    ++ more.items l.dialect (more.head l.first l.head) (map item_tree (drop l.item-index l.items)) rest
    ≡ string_bytes l.initial.out ++ more.items l.dialect l.head (map item_tree l.items) rest
