use Rattle.std.proofs.Common.{◌≡◌, map, take}
use Rattle.sql_pass.specs.declared.value.Value.TheVariants as of
use Rattle.sql_expr.proofs.as_in_expression.RefSliceI64AsInExpression.as_in_expression.Given as goal

abbrev pub invariant-loop-number : goal.invariant-loop-number
invariant-loop-number l = l.all.items ≡ map of.BigInt (take l.number-index l.self)
