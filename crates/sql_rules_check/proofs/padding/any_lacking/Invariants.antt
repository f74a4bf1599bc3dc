use Rattle.std.proofs.Common.{◌≡◌, drop, map}
use Rattle.sql_origin.specs.Borrowed.{origin_of}
use Rattle.sql_rules_check.specs.inside.Padding.{any_lacking}
use Rattle.sql_rules_check.specs.inside.PaddingStacks.{leaf_of}
use Rattle.sql_rules_check.proofs.padding.any_lacking.Given as goal

abbrev pub invariant-loop-origin : goal.invariant-loop-origin
invariant-loop-origin l =
    any_lacking (map leaf_of l.leaves) (map origin_of (drop l.origin-index l.bare))
    ≡ any_lacking (map leaf_of l.leaves) (map origin_of l.bare)
