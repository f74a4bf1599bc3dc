use Rattle.std.proofs.Common.{◌≡◌, drop, map}
use Rattle.sql_origin.specs.Borrowed.{origin_of}
use Rattle.sql_rules_check.specs.inside.Padding.{stands_twice}
use Rattle.sql_rules_check.proofs.padding.stands_twice.Given as goal

abbrev pub invariant-loop-i : goal.invariant-loop-i
invariant-loop-i l =
    stands_twice (map (λ x. origin_of x.origin) (drop l.i l.leaves)) (origin_of l.origin)
    ≡ stands_twice (map (λ x. origin_of x.origin) l.leaves) (origin_of l.origin)
