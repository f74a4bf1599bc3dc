use Rattle.std.proofs.Common.{◌≡◌, ◌++◌, length}
use Rattle.sql_flat.specs.inside.Parts.{values_in}
use Rattle.sql_flat_back.specs.inside.Stacks.{split}
use Rattle.sql_flat_back.proofs.stack.take_values.Given as goal

abbrev pub invariant-loop-part : goal.invariant-loop-part
invariant-loop-part l = record {
  values : l.all.items ++ values_in (split l.end l.done.items).0 ≡ values_in (split l.end l.initial.done.items).0;
  left : (split l.end l.done.items).1 ≡ (split l.end l.initial.done.items).1;
}

abbrev pub decreases-loop-part : goal.decreases-loop-part
decreases-loop-part l = length l.done.items
