use Rattle.std.proofs.Common.{◌≡◌, ◌++◌}
use Rattle.sql_audit.specs.inside.Settled.{columns_among}
use Rattle.sql_audit.proofs.settled.columns.Given as goal

abbrev pub invariant-loop-meaning : goal.invariant-loop-meaning
invariant-loop-meaning l =
    l.all.items ++ columns_among l.meaning-iterator.rest.items ≡ columns_among l.fn.meanings.items
