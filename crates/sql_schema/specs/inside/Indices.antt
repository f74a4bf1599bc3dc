-- Indexes: at which index of a list the element that passes a test is.
use Rattle.std.specs.Prelude.{◌≡◌, ◌<◌, ℕ, suc, zero, cond, List, [], ◌∷◌, Option, Some, None, option_map, Bool, true, false, take, get_or, MatchOption}
use Rattle.std.specs.List.{list_any}
use Rattle.std.specs.Str.{bytes_eq}

-- the first index of an element that passes
abbrev pub index_by : {A : Type 0} → (A → Bool) → List A → Option ℕ
index_by test [] = None
index_by test (x ∷ xs) = cond (test x) (Some zero) (option_map suc (index_by test xs))

-- what an index of the first n elements says of a test: none of them passes, or the one at that index does
module _ {A : Type 0} (test : A → Bool) where
  abbrev pub Says : List A → ℕ → Option ℕ → Type 0
  Says xs n index =
      MatchOption index (list_any test (take n xs) ≡ false)
      (λ i. (i < n) × ((d : A) → test (get_or xs i d) ≡ true))

-- an index of the first n elements, by a test for each query
module _ {A Q : Type 0} (test : Q → A → Bool) where
  abbrev pub IndexesBy : (Q → Option ℕ) → List A → ℕ → Type 0
  IndexesBy at xs n = (q : Q) → Says (test q) xs n (at q)

-- an index of the first n elements, by their names
module _ {A : Type 0} (name_of : A → List ℕ) where
  abbrev pub Indexes : (List ℕ → Option ℕ) → List A → ℕ → Type 0
  Indexes at xs n = IndexesBy (λ q x. bytes_eq (name_of x) q) at xs n
