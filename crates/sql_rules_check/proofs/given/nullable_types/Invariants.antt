use Rattle.std.proofs.Common.{◌≡◌, ◌++◌, map}
use Rattle.sql_rules.specs.Types.{as_nullable}
use Rattle.sql_rules_check.proofs.given.nullable_types.Given as goal

abbrev pub invariant-loop-ty : goal.invariant-loop-ty
invariant-loop-ty l = l.all.items ++ map as_nullable l.ty-iterator.rest.items ≡ map as_nullable l.fn.types.items
