use Rattle.std.proofs.Common.{◌≡◌, map}
use Rattle.sql_raw.specs.Shown.{shown_value}
use Rattle.sql_raw.proofs.shown.show_values.Given as goal

abbrev pub invariant-loop-value : goal.invariant-loop-value
invariant-loop-value l = map shown_value l.all.items ≡ l.yielded
