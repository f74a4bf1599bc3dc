use Rattle.std.proofs.Common.{◌≡◌, ◌||◌, drop}
use Rattle.sql_schema.specs.Refusals.{any_two, relate_alike}
use Rattle.sql_schema.specs.inside.NameSets.{has_pair}
use Rattle.sql_schema.proofs.Repeats.{repeats}
use Rattle.sql_schema.proofs.refusal.has_repeated_relation.Given as goal

abbrev pub invariant-loop-joinable : goal.invariant-loop-joinable
invariant-loop-joinable l =
    repeats relate_alike (λ j. has_pair l.related j.parent j.child || has_pair l.related j.child j.parent)
    (drop l.joinable-index l.joinables)
    ≡ any_two relate_alike l.joinables
