-- An expression under nullables.
use Rattle.std.proofs.Common.{◌≡◌, ℕ, zero, suc, ◌-◌, refl, ap, arith}
use Rattle.sql_node.specs.Tree.{Expr, nullable, under}

pub under-front : (n : ℕ) (e : Expr) → (n ≡ 0 → ⊥) → under n e ≡ nullable (under (n - 1) e)
under-front zero e h = absurd (h refl)
under-front (suc n) e h = let back : n ≡ suc n - 1 = omega arith in ap (λ m. nullable (under m e)) back
