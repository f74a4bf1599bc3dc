use Rattle.std.proofs.Common.{drop-cons, arith}
use Rattle.sql_read_writer.proofs.Digits.{high-none, step-high}
use Rattle.sql_read_writer.proofs.fits.number.Goals as goal

pub returns-then-value-gt4294967295 : goal.returns-then-value-gt4294967295
returns-then-value-gt4294967295 c =
    let here = c.loop-digit-test.true in
    let whole = rw (drop-cons c.args.digits.now c.loop-digit.digit-index 0) at c.loop-digit.invariant.whole in
    high-none c.args.digits.now
    (step-high _ _ c.args.digits.now _ whole (omega (arith, c.if-value-gt4294967295.true, c.saturating_sub.ensures)))
