use Rattle.std.proofs.Common.{◌≡◌, ◌++◌, map, reverse, vec_len}
use Rattle.sql_grammar.proofs.Machine as m
use Rattle.sql_read_tree.specs.View.{Ordered, item_tree}
use Rattle.sql_read_machine.proofs.list.strip_marks.Given as goal

abbrev pub invariant-loop-x : goal.invariant-loop-x
invariant-loop-x l =
    l.out.items ++ map (λ (i : Ordered). m.mark_in i.0) (map item_tree (reverse l.later.items))
    ≡ map (λ (i : Ordered). m.mark_in i.0) (map item_tree (reverse l.initial.later.items))

abbrev pub decreases-loop-x : goal.decreases-loop-x
decreases-loop-x l = vec_len l.later
