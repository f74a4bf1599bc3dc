-- Rows of a combination come from one of its sides.
use Rattle.std.proofs.Common.{◌≡◌, ℕ, suc, ◌<◌, min, Bool, true, false, List, [], ◌∷◌, refl, inl, inr, ◌⊎◌, arith, if◌then◌else◌, nat_eq}
use Rattle.std.specs.Cmp.Lexicographic.{lists_equiv}
use Rattle.std.specs.Cmp.{signed_Decides}
use Rattle.sql_schema.proofs.Exact.{IsExact, exact-enum, none, one, exact-list}
use Rattle.sql_schema.proofs.ExactTypes.{exact-bool, exact-text}
use Rattle.sql_dialect.specs.declared.combination.Combinator.{Combinator}
use Rattle.sql_dialect.specs.declared.combination.Combinator.TheVariants.{Union, Intersect, Except}
use Rattle.sql_dialect.specs.declared.combination.DuplicateRule.{DuplicateRule}
use Rattle.sql_dialect.specs.declared.combination.DuplicateRule.TheVariants.{All, Distinct}
use Rattle.sql_pass.specs.contracts.value.Value.{enum}
use Rattle.sql_pass.specs.contracts.value.ValueEq.TheImpl.Laws.{laws-law}
use Rattle.sql_rules.specs.Lists.{Each}
use Rattle.sql_rows_meaning.specs.Rows.{Row, same_row, count_row, combined}
use Rattle.sql_rows_meaning.specs.Values.{same_value}
use Rattle.std.specs.Ordering.{int_eq}

exact-signed : IsExact int_eq
exact-signed a b h = (signed_Decides a b).0 h

pub exact-value : IsExact same_value
exact-value =
    exact-enum enum _ (
      one exact-signed,
      (one exact-signed, (one exact-signed, (one exact-text, (one exact-text, (one exact-bool, (none, tt)))))),
    )

pub exact-row : IsExact same_row
exact-row = exact-list exact-value

pub same_row-itself : (row : Row) → same_row row row ≡ true
same_row-itself row = (lists_equiv laws-law).refl row

-- what holds of each row of a list holds of one that it has
counted-each : (P : Row → Type 0) (row : Row) (xs : List Row) → Each P xs → 0 < count_row row xs → P row
counted-each P row [] h n = absurd (omega arith)
counted-each P row (x ∷ xs) h n = go (same_row row x) refl n (counted-each P row xs h.1)
  where
    go : (b : Bool) → same_row row x ≡ b → 0 < (if b then suc (count_row row xs) else count_row row xs)
        → (0 < count_row row xs → P row) → P row
    go true e m rest = rw (exact-row row x e) h.0
    go false e m rest = rest m

each-counted : (P : Row → Type 0) (rows : List Row) → ((row : Row) → 0 < count_row row rows → P row) → Each P rows
each-counted P [] h = tt
each-counted P (x ∷ xs) h =
    (h x (rw (same_row-itself x) (omega arith)), each-counted P xs (λ row n. h row (go row (same_row row x) refl n)))
  where
    go : (row : Row) (b : Bool) → same_row row x ≡ b → 0 < count_row row xs → 0 < count_row row (x ∷ xs)
    go row true e n = rw e (omega arith)
    go row false e n = rw e n

combined-side : (by : Combinator) (all : DuplicateRule) (m n : ℕ) → 0 < combined by all m n → (0 < m) ⊎ (0 < n)
combined-side Union All m n h = grind arith
combined-side Union Distinct m n h = grind arith
combined-side Intersect All m n h = inl (omega arith)
combined-side Intersect Distinct m n h = inl (omega arith)
combined-side Except All m n h = inl (omega arith)
combined-side Except Distinct m n h = inl (go (nat_eq n 0) h)
  where
    go : (b : Bool) → 0 < (if b then min 1 m else 0) → 0 < m
    go true k = omega arith
    go false k = absurd (omega arith)

pub combination-each : (by : Combinator) (all : DuplicateRule) (P : Row → Type 0) (xs ys both : List Row) → Each P xs
    → Each P ys → ((row : Row) → count_row row both ≡ combined by all (count_row row xs) (count_row row ys))
    → Each P both
combination-each by all P xs ys both hx hy h =
    each-counted P both (λ row n. go row (combined-side by all (count_row row xs) (count_row row ys) (rw (h row) at n)))
  where
    go : (row : Row) → (0 < count_row row xs) ⊎ (0 < count_row row ys) → P row
    go row (inl n) = counted-each P row xs hx n
    go row (inr n) = counted-each P row ys hy n
