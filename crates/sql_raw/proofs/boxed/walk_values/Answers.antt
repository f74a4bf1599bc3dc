use Rattle.std.proofs.Common.{rules}
use Rattle.sql_raw.proofs.Lists.{values-next, values-fail, values-end}
use Rattle.sql_raw.proofs.boxed.walk_values.Goals as goal

pub returns-in_err-walk_value : goal.returns-in_err-walk_value
returns-in_err-walk_value g c =
    c.loop-value.invariant _ _
    (values-fail c.args.values.now _ c.value-item.result c.loop-value-test.true c.value-item.is
    c.in_err-walk_value.ensures (search rules))

pub loop-value-preserved : goal.loop-value-preserved
loop-value-preserved g c =
    λ r k w. c.loop-value.invariant r k
    (values-next c.args.values.now _ c.value-item.result c.loop-value-test.true c.value-item.is
    c.in_ok-walk_value.ensures w)

pub returns : goal.returns
returns g c = c.loop-value.invariant _ _ (values-end c.args.values.now _ (search rules))
