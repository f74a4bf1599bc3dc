use Rattle.std.proofs.Common.{◌≡◌, ◌++◌, length}
use Rattle.sql_rules_check.specs.inside.Padding.{all_bare, all_leaves}
use Rattle.sql_rules_check.specs.inside.PaddingStacks.{held_of, parted}
use Rattle.sql_rules_check.proofs.padding.gather.Given as goal

abbrev pub invariant-loop-held : goal.invariant-loop-held
invariant-loop-held l = record {
  leaves : (held_of l.all).leaves ++ all_leaves (parted l.end l.parts.items).0
      ≡ all_leaves (parted l.end l.fn.parts.items).0;
  bare : (held_of l.all).bare ++ all_bare (parted l.end l.parts.items).0
      ≡ all_bare (parted l.end l.fn.parts.items).0;
  left : (parted l.end l.parts.items).1 ≡ (parted l.end l.fn.parts.items).1;
}

abbrev pub decreases-loop-held : goal.decreases-loop-held
decreases-loop-held l = length l.parts.items
