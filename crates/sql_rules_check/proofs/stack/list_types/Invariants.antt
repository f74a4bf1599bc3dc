use Rattle.std.proofs.Common.{◌≡◌, ◌++◌, length}
use Rattle.sql_rules_check.specs.inside.Stacks.{split}
use Rattle.sql_rules_check.specs.inside.Typing.{types_of_each}
use Rattle.sql_rules_check.proofs.stack.list_types.Given as goal

abbrev pub invariant-loop-given : goal.invariant-loop-given
invariant-loop-given l = record {
  types : l.all.items ++ types_of_each (split l.end l.done.items).0
      ≡ types_of_each (split l.end l.initial.done.items).0;
  left : (split l.end l.done.items).1 ≡ (split l.end l.initial.done.items).1;
}

abbrev pub decreases-loop-given : goal.decreases-loop-given
decreases-loop-given l = length l.done.items
