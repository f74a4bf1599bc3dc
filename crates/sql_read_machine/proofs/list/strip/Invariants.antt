use Rattle.std.proofs.Common.{◌≡◌, ◌++◌, map, reverse, vec_len}
use Rattle.sql_read_tree.specs.View.{Ordered, expression_tree, item_tree}
use Rattle.sql_read_machine.proofs.list.strip.Given as goal

abbrev pub invariant-loop-x : goal.invariant-loop-x
invariant-loop-x l =
    map expression_tree l.out.items ++ map (λ (i : Ordered). i.0) (map item_tree (reverse l.later.items))
    ≡ map (λ (i : Ordered). i.0) (map item_tree (reverse l.initial.later.items))

abbrev pub decreases-loop-x : goal.decreases-loop-x
decreases-loop-x l = vec_len l.later
