use Rattle.std.proofs.Common.{drop-cons, Some, ap, ◌∙◌, rules, arith}
use Rattle.sql_read_lexer.proofs.Digits.{empty-none, low-none, high-none, within-some, step-high, whole-value}
use Rattle.sql_read_lexer.proofs.number.placeholder_number.Goals as goal

pub returns-then-is_empty : goal.returns-then-is_empty
returns-then-is_empty c = empty-none c.args.digits.now (search rules)

pub returns-then-digits-le48 : goal.returns-then-digits-le48
returns-then-digits-le48 c = low-none c.args.digits.now (omega (arith, c.if-digits-le48.true))

pub returns-then-value-gt4294967295 : goal.returns-then-value-gt4294967295
returns-then-value-gt4294967295 c =
    let here = c.loop-digit-test.true in
    let whole = rw (drop-cons c.args.digits.now c.loop-digit.digit-index 0) at c.loop-digit.invariant.whole in
    high-none c.args.digits.now
    (step-high _ _ c.args.digits.now _ whole (omega (arith, c.if-value-gt4294967295.true, c.saturating_sub.ensures)))

pub returns : goal.returns
returns c =
    let is =
    whole-value c.loop-digit.value c.loop-digit.digit-index c.args.digits.now (omega (arith, c.loop-digit-test.false))
    c.loop-digit.invariant.whole in
    ap Some is
    ∙ within-some c.args.digits.now (omega (arith, c.if-digits-le48.false)) (omega
    (arith, is, c.loop-digit.invariant.small))
