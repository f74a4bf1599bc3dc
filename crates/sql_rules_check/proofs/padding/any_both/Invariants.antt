use Rattle.std.proofs.Common.{◌≡◌, ◌&&◌, drop, map}
use Rattle.std.specs.List.{list_any}
use Rattle.sql_origin.specs.Borrowed.{origin_of}
use Rattle.sql_origin.specs.Origins.{same_origin}
use Rattle.sql_rules_check.proofs.padding.any_both.Given as goal

abbrev pub invariant-loop-other : goal.invariant-loop-other
invariant-loop-other l =
    list_any (λ b. same_origin (origin_of l.leaf) (origin_of l.origin) && same_origin b (origin_of l.origin))
    (map (λ x. origin_of x.origin) (drop l.other-index l.leaves))
    ≡ list_any (λ b. same_origin (origin_of l.leaf) (origin_of l.origin) && same_origin b (origin_of l.origin))
    (map (λ x. origin_of x.origin) l.leaves)
