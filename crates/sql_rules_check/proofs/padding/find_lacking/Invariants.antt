use Rattle.std.proofs.Common.{◌≡◌, ◌≤◌, drop, length}
use Rattle.sql_rules_check.specs.inside.PaddingStacks.{any_lacking_from, held_from, parts_of}
use Rattle.sql_rules_check.proofs.padding.find_lacking.Given as goal

abbrev pub invariant-loop-index : goal.invariant-loop-index
invariant-loop-index l = record {
  within : l.index ≤ length l.nodes;
  parts : parts_of l.parts.items ≡ held_from l.index (drop l.index l.nodes);
  lacks : l.lacks ≡ any_lacking_from l.index (drop l.index l.nodes);
}

abbrev pub decreases-loop-index : goal.decreases-loop-index
decreases-loop-index l = l.index
