-- Policies as plain trees.
use Rattle.std.specs.Option.{option_map}
use Rattle.sql_node.specs.View.{expr_tree, maybe_of}
use Rattle.sql_guard_law.specs.Policies as p
use Rattle.sql_guard.specs.declared.policy.Policy.{Policy}

abbrev pub policy_tree : Policy → p.Policy
policy_tree q = record { table = q.table; predicate = maybe_of (option_map expr_tree q.predicate) }
