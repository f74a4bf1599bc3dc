use Rattle.std.proofs.Common.{◌≡◌, length}
use Rattle.sql_flat.specs.inside.Parts.{put_clauses}
use Rattle.sql_flat_back.specs.inside.Stacks.{clauses_of, split}
use Rattle.sql_flat_back.proofs.stack.take_clauses.Given as goal

abbrev pub invariant-loop-part : goal.invariant-loop-part
invariant-loop-part l = record {
  clauses : put_clauses (clauses_of l.clauses) (split l.end l.done.items).0
      ≡ put_clauses (clauses_of l.initial.clauses) (split l.end l.initial.done.items).0;
  left : (split l.end l.done.items).1 ≡ (split l.end l.initial.done.items).1;
}

abbrev pub decreases-loop-part : goal.decreases-loop-part
decreases-loop-part l = length l.done.items
