-- Lists with the counts of rows that a combination asks for.
use Rattle.std.proofs.Common.{◌≡◌, ℕ, suc, ◌+◌, ◌-◌, ◌<◌, ◌≤◌, min, nat_lt, nat_eq, Bool, true, false, List, [], ◌∷◌, ◌++◌, refl, sym, ap, subst, ◌∙◌, if◌then◌else◌, arith}
use Rattle.sql_dialect.specs.declared.combination.Combinator.{Combinator}
use Rattle.sql_dialect.specs.declared.combination.Combinator.TheVariants.{Union, Intersect, Except}
use Rattle.sql_dialect.specs.declared.combination.DuplicateRule.{DuplicateRule}
use Rattle.sql_dialect.specs.declared.combination.DuplicateRule.TheVariants.{All, Distinct as Once}
use Rattle.sql_rows_meaning.specs.Rows.{Row, same_row, count_row, combined}
use Rattle.sql_rows_meaning.proofs.Counts.{exact-row, same_row-itself}
use Rattle.sql_rows_meaning.proofs.Sorting.{insert, sorted}

-- a list with the counts that are asked for, where another has as many
pub thinned : (zs : List Row) (c : Row → ℕ) → ((row : Row) → c row ≤ count_row row zs)
    → (out : List Row) × ((row : Row) → count_row row out ≡ c row)
thinned [] c h = ([], λ row. let l = h row in omega arith)
thinned (z ∷ zs) c h = go (nat_lt (count_row z zs) (c z)) refl (λ fewer_of k. thinned zs fewer_of k)
  where
    at_most : c z ≤ suc (count_row z zs)
    at_most = subst (λ b. c z ≤ (if b then suc (count_row z zs) else count_row z zs)) (same_row-itself z) (h z)

    fewer : (row : Row) (b : Bool) → same_row row z ≡ b
        → c row ≤ (if b then suc (count_row row zs) else count_row row zs)
        → (if b then c row - 1 else c row) ≤ count_row row zs
    fewer row true e l = omega arith
    fewer row false e l = l

    as_many : (row : Row) (b : Bool) → same_row row z ≡ b → c z ≤ count_row z zs
        → c row ≤ (if b then suc (count_row row zs) else count_row row zs) → c row ≤ count_row row zs
    as_many row true e k l = subst (λ r. c r ≤ count_row r zs) (sym (exact-row row z e)) k
    as_many row false e k l = l

    one_more : (row : Row) (n : ℕ) (b : Bool) → same_row row z ≡ b → 0 < c z → n ≡ (if b then c row - 1 else c row)
        → (if b then suc n else n) ≡ c row
    one_more row n true e k q =
        let l : 0 < c row = subst (λ r. 0 < c r) (sym (exact-row row z e)) k in omega arith
    one_more row n false e k q = q

    go : (b : Bool) → nat_lt (count_row z zs) (c z) ≡ b
        → ((k : Row → ℕ) → ((row : Row) → k row ≤ count_row row zs)
        → (out : List Row) × ((row : Row) → count_row row out ≡ k row))
        → (out : List Row) × ((row : Row) → count_row row out ≡ c row)
    go true e thin =
        let rest = thin (λ row. if same_row row z then c row - 1 else c row)
        (λ row. fewer row (same_row row z) refl (h row)) in
        let l : 0 < c z = grind arith in
        (z ∷ rest.0, λ row. one_more row (count_row row rest.0) (same_row row z) refl l (rest.1 row))
    go false e thin =
        let l : c z ≤ count_row z zs = grind arith in
        thin c (λ row. as_many row (same_row row z) refl l (h row))

pub count-append : (row : Row) (xs ys : List Row) → count_row row (xs ++ ys) ≡ count_row row xs + count_row row ys
count-append row [] ys = omega arith
count-append row (x ∷ xs) ys = go (same_row row x) (count-append row xs ys)
  where
    go : (b : Bool) → count_row row (xs ++ ys) ≡ count_row row xs + count_row row ys
        → (if b then suc (count_row row (xs ++ ys)) else count_row row (xs ++ ys))
        ≡ (if b then suc (count_row row xs) else count_row row xs) + count_row row ys
    go true e = omega arith
    go false e = e

pub combined-bound : (by : Combinator) (all : DuplicateRule) (m n : ℕ) → combined by all m n ≤ m + n
combined-bound Union All m n = omega arith
combined-bound Union Once m n = omega arith
combined-bound Intersect All m n = omega arith
combined-bound Intersect Once m n = omega arith
combined-bound Except All m n = omega arith
combined-bound Except Once m n = go (nat_eq n 0)
  where
    go : (b : Bool) → (if b then min 1 m else 0) ≤ m + n
    go true = omega arith
    go false = omega arith

module _ (before : Row → Row → Bool) where
  count-insert : (row x : Row) (ys : List Row) → count_row row (insert before x ys) ≡ count_row row (x ∷ ys)
  count-insert row x [] = refl
  count-insert row x (y ∷ ys) = go (before y x) (count-insert row x ys)
    where
      exchanged : (a b : Bool) (n : ℕ) → (if a then suc (if b then suc n else n) else (if b then suc n else n))
          ≡ (if b then suc (if a then suc n else n) else (if a then suc n else n))
      exchanged true true n = refl
      exchanged true false n = refl
      exchanged false b n = refl

      go : (b : Bool) → count_row row (insert before x ys) ≡ count_row row (x ∷ ys)
          → count_row row (if b then y ∷ insert before x ys else x ∷ (y ∷ ys)) ≡ count_row row (x ∷ (y ∷ ys))
      go true e =
          ap (λ n. if same_row row y then suc n else n) e
          ∙ exchanged (same_row row y) (same_row row x) (count_row row ys)
      go false e = refl

  pub count-sorted : (row : Row) (xs : List Row) → count_row row (sorted before xs) ≡ count_row row xs
  count-sorted row [] = refl
  count-sorted row (x ∷ xs) =
      count-insert row x (sorted before xs) ∙ ap (λ n. if same_row row x then suc n else n) (count-sorted row xs)
