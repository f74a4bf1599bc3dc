use Rattle.std.proofs.Common.{◌≡◌, drop}
use Rattle.sql_schema.specs.Refusals.{any_two}
use Rattle.sql_schema.specs.inside.NameSets.{has_name}
use Rattle.sql_schema.proofs.Repeats.{repeats}
use Rattle.sql_origin.specs.Borrowed.{origin_of}
use Rattle.sql_rules_check.specs.inside.Ends.{last_under}
use Rattle.sql_rules_check.specs.inside.Tables.{last_alike}
use Rattle.sql_rules_check.proofs.leaves.any_last_alike.Given as goal

abbrev pub invariant-loop-leaf : goal.invariant-loop-leaf
invariant-loop-leaf l =
    repeats (λ a b. last_alike (origin_of a) (origin_of b))
    (λ o. has_name l.names (last_under (origin_of o).alias (origin_of o).table)) (drop l.leaf-index l.leaves)
    ≡ any_two (λ a b. last_alike (origin_of a) (origin_of b)) l.leaves
