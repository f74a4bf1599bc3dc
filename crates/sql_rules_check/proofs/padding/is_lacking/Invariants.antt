use Rattle.std.proofs.Common.{◌≡◌, drop, map}
use Rattle.sql_origin.specs.Borrowed.{origin_of}
use Rattle.sql_rules_check.specs.inside.Padding.{is_lacking}
use Rattle.sql_rules_check.specs.inside.PaddingStacks.{leaf_of}
use Rattle.sql_rules_check.proofs.padding.is_lacking.Given as goal

abbrev pub invariant-loop-leaf : goal.invariant-loop-leaf
invariant-loop-leaf l =
    is_lacking (map leaf_of (drop l.leaf-index l.leaves)) (origin_of l.origin)
    ≡ is_lacking (map leaf_of l.leaves) (origin_of l.origin)
