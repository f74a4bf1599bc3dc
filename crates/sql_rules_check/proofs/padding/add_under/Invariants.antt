use Rattle.std.proofs.Common.{◌≡◌, ◌++◌, drop, map}
use Rattle.sql_rules_check.specs.inside.Padding.{under}
use Rattle.sql_rules_check.specs.inside.PaddingStacks.{leaf_of}
use Rattle.sql_rules_check.proofs.padding.add_under.Given as goal

abbrev pub invariant-loop-leaf : goal.invariant-loop-leaf
invariant-loop-leaf l =
    map leaf_of l.all.items ++ map (under l.kind) (map leaf_of (drop l.leaf-index l.leaves))
    ≡ map leaf_of l.initial.all.items ++ map (under l.kind) (map leaf_of l.leaves)
