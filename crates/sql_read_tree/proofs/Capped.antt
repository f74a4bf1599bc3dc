-- A count that stops at the greatest number can be taken in parts.
use Rattle.std.proofs.Common.{◌≡◌, ℕ, ◌+◌, ◌<◌, List, ◌++◌, length, length-append, sym, ap, ◌∙◌, arith}
use Rattle.std.proofs.lemmas.Bool.Decides.{nat_tests}
use Rattle.sql_read_tree.specs.Counts as counts
use Rattle.sql_read_tree.specs.Counts.{capped}

pub capped_again : (n a b : ℕ) → capped (capped (n + a) + b) ≡ capped (n + (a + b))
unfolding counts.capped
capped_again n a b = grind (arith, nat_tests)

pub capped_lists : {A : Type 0} (n : ℕ) (xs ys : List A)
    → capped (capped (n + length xs) + length ys) ≡ capped (n + length (xs ++ ys))
capped_lists n xs ys = capped_again n (length xs) (length ys) ∙ ap (λ k. capped (n + k)) (sym (length-append xs ys))

pub ruleset capped_laws = (capped_again, capped_lists)

pub capped_fits : (n : ℕ) → n < 18446744073709551616 → capped n ≡ n
unfolding counts.capped
capped_fits n h = grind (arith, nat_tests)

pub capped_parts : (n a b c d e f g h : ℕ)
    → capped (capped (capped (capped (capped (capped (capped (capped (n + a) + b) + c) + d) + e) + f) + g) + h)
    ≡ capped (n + (a + (b + (c + (d + (e + (f + (g + h))))))))
capped_parts n a b c d e f g h =
    rw (
      capped_again n a b,
      capped_again n (a + b) c,
      capped_again n (a + b + c) d,
      capped_again n (a + b + c + d) e,
      capped_again n (a + b + c + d + e) f,
      capped_again n (a + b + c + d + e + f) g,
      capped_again n (a + b + c + d + e + f + g) h,
    )
    (ap capped (omega arith))
