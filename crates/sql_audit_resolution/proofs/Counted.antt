-- A count below the greatest number is exact.
use Rattle.std.proofs.Common.{◌≡◌, ℕ, ◌+◌, ◌<◌, ap, arith}
use Rattle.std.proofs.lemmas.Bool.Decides.{nat_tests}
use Rattle.sql_read_tree.specs.Counts as counts
use Rattle.sql_read_tree.specs.Counts.{capped}
use Rattle.sql_read_tree.proofs.Capped.{capped_again}

pub below_cap : (m n : ℕ) → n ≡ capped m → n < 18446744073709551615 → n ≡ m
unfolding counts.capped
below_cap m n e h = grind (arith, nat_tests)

pub capped_seven : (n a b c d e f g : ℕ)
    → capped (capped (capped (capped (capped (capped (capped (n + a) + b) + c) + d) + e) + f) + g)
    ≡ capped (n + (a + (b + (c + (d + (e + (f + g)))))))
capped_seven n a b c d e f g =
    rw (
      capped_again n a b,
      capped_again n (a + b) c,
      capped_again n (a + b + c) d,
      capped_again n (a + b + c + d) e,
      capped_again n (a + b + c + d + e) f,
      capped_again n (a + b + c + d + e + f) g,
    )
    (ap capped (omega arith))
