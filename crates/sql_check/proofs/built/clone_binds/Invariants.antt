use Rattle.std.proofs.Common.{◌≡◌, take}
use Rattle.sql_check.proofs.built.clone_binds.Given as goal

abbrev pub invariant-loop-bound : goal.invariant-loop-bound
invariant-loop-bound l = l.all.items ≡ take l.bound-index l.binds
