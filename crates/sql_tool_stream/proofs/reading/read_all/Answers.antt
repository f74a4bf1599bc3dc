use Rattle.std.proofs.Common.{◌≡◌, ℕ, ◌-◌, ◌<◌, List, ◌++◌, refl, rules, arith, length, take, sym, ◌∙◌, ◌≤◌, length-append, length-take-le}
use Rattle.std.proofs.lemmas.Result.{err_from_is_err_and}
use Rattle.std.proofs.KnownBytes.{Consumes-trans}
use Rattle.sql_tool_stream.specs.declared.reading.ReadError.TheVariants.{NoMemory, TooLarge}
use Rattle.sql_tool_stream.proofs.Readings.{gives-consumed}
use Rattle.sql_tool_stream.proofs.reading.read_all.Goals as goal

joined : (limit : ℕ) (xs ys : List ℕ) (n : ℕ) → n ≤ length ys → limit - length xs < n → limit < length (xs ++ take n ys)
joined limit xs ys n fits over = omega (arith, length-append xs (take n ys), length-take-le n ys fits)

within : (limit : ℕ) (xs ys : List ℕ) (n : ℕ) → n ≤ length ys → length xs ≤ limit → n ≤ limit - length xs
    → length (xs ++ take n ys) ≤ limit
within limit xs ys n fits few room = omega (arith, length-append xs (take n ys), length-take-le n ys fits)

pub returns-then-count-limit-clause-given : goal.returns-then-count-limit-clause-given
returns-then-count-limit-clause-given g c =
    let l = c.loop-bytes in
    let n = c.in_ok-count.count in
    let over : c.args.limit - length l.bytes.items < n = search rules in
    let given = Consumes-trans _ _ _ _ _ l.invariant.given c.in_ok-count.ensures.bytes.0 in (
      l.bytes.items ++ take n c.read.new.out,
      gives-consumed _ _ _ given,
      (λ other. given),
      (λ _. joined c.args.limit l.bytes.items c.read.new.out n c.in_ok-count.ensures.bound.0 over, λ _. refl),
    )

pub returns-in_err-extend_from_slice-clause-given : goal.returns-in_err-extend_from_slice-clause-given
returns-in_err-extend_from_slice-clause-given g c =
    let l = c.loop-bytes in
    let n = c.in_ok-count.count in
    let some = l.bytes.items ++ take n c.read.new.out in
    let room : n ≤ c.args.limit - length l.bytes.items = search rules in
    let few =
    within c.args.limit l.bytes.items c.read.new.out n c.in_ok-count.ensures.bound.0 l.invariant.within room in
    let given = Consumes-trans _ _ _ _ _ l.invariant.given c.in_ok-count.ensures.bytes.0 in
    let (e, is, made) =
    err_from_is_err_and c.from_residual-in_err-extend_from_slice.result
    c.from_residual-in_err-extend_from_slice.ensures.1 in
    rw is (
      some,
      gives-consumed _ _ _ given,
      (λ other. given),
      (λ large. absurd (let wrong : NoMemory ≡ TooLarge = sym made ∙ large in cc), λ over. absurd (omega arith)),
    )
