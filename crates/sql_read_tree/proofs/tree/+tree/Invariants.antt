use Rattle.sql_read_tree.proofs.tree.+tree.Given as goal

abbrev pub invariant-drop_each-loop-e : goal.invariant-drop_each-loop-e
invariant-drop_each-loop-e l = goal.no_deeper-drop_each-loop-e l

abbrev pub decreases-drop_each-loop-e : goal.decreases-drop_each-loop-e
decreases-drop_each-loop-e l = goal.left-drop_each-loop-e l

abbrev pub invariant-drop_items-loop-item : goal.invariant-drop_items-loop-item
invariant-drop_items-loop-item l = goal.no_deeper-drop_items-loop-item l

abbrev pub decreases-drop_items-loop-item : goal.decreases-drop_items-loop-item
decreases-drop_items-loop-item l = goal.left-drop_items-loop-item l
