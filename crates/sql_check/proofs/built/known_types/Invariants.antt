use Rattle.std.proofs.Common.{◌≡◌, ◌++◌, drop}
use Rattle.sql_check.specs.Typed.{known}
use Rattle.sql_check.proofs.built.known_types.Given as goal

abbrev pub invariant-loop-ty : goal.invariant-loop-ty
invariant-loop-ty l = l.all.items ++ known (drop l.ty-index l.types) ≡ known l.types
