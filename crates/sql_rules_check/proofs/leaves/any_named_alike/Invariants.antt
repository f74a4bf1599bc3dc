use Rattle.std.proofs.Common.{◌≡◌, drop}
use Rattle.sql_schema.specs.Refusals.{any_two}
use Rattle.sql_schema.specs.inside.NameSets.{has_path}
use Rattle.sql_schema.proofs.Repeats.{repeats}
use Rattle.sql_origin.specs.Borrowed.{origin_of}
use Rattle.sql_rules_check.specs.inside.Tables.{named_alike}
use Rattle.sql_rules_check.proofs.leaves.any_named_alike.Given as goal

abbrev pub invariant-loop-leaf : goal.invariant-loop-leaf
invariant-loop-leaf l =
    repeats (λ a b. named_alike (origin_of a) (origin_of b))
    (λ o. has_path l.names (origin_of o).alias (origin_of o).table.name) (drop l.leaf-index l.leaves)
    ≡ any_two (λ a b. named_alike (origin_of a) (origin_of b)) l.leaves
