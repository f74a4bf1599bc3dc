use Rattle.std.proofs.Common.{◌≡◌, map}
use Rattle.sql_raw.specs.Debug.{bound_debug}
use Rattle.sql_raw.specs.Shown.{shown_debug}
use Rattle.sql_raw.proofs.shown.show_all.Given as goal

abbrev pub invariant-loop-bound : goal.invariant-loop-bound
invariant-loop-bound l = map shown_debug l.all.items ≡ map bound_debug l.yielded
