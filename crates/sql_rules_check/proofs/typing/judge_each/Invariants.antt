use Rattle.std.proofs.Common.{◌≡◌, ◌≤◌, drop, length}
use Rattle.sql_rules_check.specs.inside.Lists.{any_empty_from, any_ill_from, typed_from}
use Rattle.sql_rules_check.specs.inside.Stacks.{stack}
use Rattle.sql_rules_check.proofs.typing.judge_each.Given as goal

abbrev pub invariant-loop-index : goal.invariant-loop-index
invariant-loop-index l = record {
  within : l.index ≤ length l.nodes;
  done : stack l.found.done.items ≡ typed_from l.index (drop l.index l.nodes);
  mismatched : l.found.mismatched ≡ any_ill_from l.index (drop l.index l.nodes);
  empty : l.found.empty ≡ any_empty_from l.index (drop l.index l.nodes);
}

abbrev pub decreases-loop-index : goal.decreases-loop-index
decreases-loop-index l = l.index
