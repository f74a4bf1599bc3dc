use Rattle.std.proofs.Common.{◌≡◌, ◌∙◌, sym, rules, arith}
use Rattle.sql_read_writer.proofs.Digits.{none-place, place-written, written-place}
use Rattle.sql_read_writer.proofs.fits.is_place.Goals as goal

pub returns-in-None : goal.returns-in-None
returns-in-None c =
    let found = sym c.in-None.is ∙ rw c.as_bytes.ensures.value at c.number.ensures in
    ((λ k. absurd (search rules)), (λ p. absurd (none-place _ found p)))

pub returns-in-Some : goal.returns-in-Some
returns-in-Some c =
    let found = sym c.in-Some.is ∙ rw c.as_bytes.ensures.value at c.number.ensures in (
      (λ k.
          let same : c.format.result.now ≡ c.args.digits.now = search rules in
          written-place _ _ found (sym c.format.ensures.text ∙ same)),
      (λ p.
          let same : c.format.result.now ≡ c.args.digits.now = c.format.ensures.text ∙ place-written _ _ found p in
          search rules),
    )
