use Rattle.std.proofs.Common.{◌≡◌, drop, map}
use Rattle.std.specs.List.{list_any}
use Rattle.sql_origin.specs.Borrowed.{origin_of}
use Rattle.sql_rules_check.specs.inside.Sites.{is_alike}
use Rattle.sql_rules_check.proofs.names.is_seen.Given as goal

abbrev pub invariant-loop-leaf : goal.invariant-loop-leaf
invariant-loop-leaf l =
    list_any (λ x. is_alike l.whole x (origin_of l.origin)) (map origin_of (drop l.leaf-index l.view))
    ≡ list_any (λ x. is_alike l.whole x (origin_of l.origin)) (map origin_of l.view)
