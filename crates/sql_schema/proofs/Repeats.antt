-- How one pass finds that two elements of a list pass a test: it asks of each element whether it passes with an earlier one.
use Rattle.std.proofs.Common.{◌≡◌, ◌<◌, ◌≤◌, ◌+◌, ℕ, Bool, true, false, ◌||◌, List, [], ◌∷◌, length, drop, get_or, refl, ap, sym, ◌∙◌}
use Rattle.std.proofs.lemmas.List.{drop_more, drop_all}
use Rattle.std.specs.List.{list_any}
use Rattle.sql_schema.specs.Refusals.{any_two}

-- two later elements pass, or one passes with an earlier one, of which `seen` tells
abbrev pub repeats : {A : Type 0} → (A → A → Bool) → (A → Bool) → List A → Bool
repeats test seen xs = any_two test xs || list_any seen xs

shuffled : (a b c : Bool) → (a || (b || c)) ≡ ((b || a) || c)
shuffled true true c = refl
shuffled true false c = refl
shuffled false true c = refl
shuffled false false c = refl

pub crossed : (a b c d : Bool) → ((a || b) || (c || d)) ≡ ((a || c) || (b || d))
crossed true b c d = refl
crossed false true true d = refl
crossed false true false d = refl
crossed false false c d = refl

pub or-swapped : (a b : Bool) → (a || b) ≡ (b || a)
or-swapped true true = refl
or-swapped true false = refl
or-swapped false true = refl
or-swapped false false = refl

or-true : (b : Bool) → (b || true) ≡ true
or-true true = refl
or-true false = refl

or-false : (b : Bool) → (b || false) ≡ b
or-false true = refl
or-false false = refl

module _ {A : Type 0} (test : A → A → Bool) (seen : A → Bool) where
  both-any : (x : A) (later : A → Bool) → ((y : A) → later y ≡ (test x y || seen y)) → (xs : List A)
      → list_any later xs ≡ (list_any (test x) xs || list_any seen xs)
  both-any x later more [] = refl
  both-any x later more (y ∷ ys) =
      ap (λ b. b || list_any later ys) (more y) ∙ ap (λ b. (test x y || seen y) || b) (both-any x later more ys)
      ∙ crossed (test x y) (seen y) (list_any (test x) ys) (list_any seen ys)

  -- an element that passes with no earlier one is itself an earlier one from then on
  pub repeats-more : (later : A → Bool) (x : A) (xs : List A) → seen x ≡ false
      → ((y : A) → later y ≡ (test x y || seen y)) → repeats test later xs ≡ repeats test seen (x ∷ xs)
  repeats-more later x xs new more =
      ap (λ b. any_two test xs || b) (both-any x later more xs)
      ∙ shuffled (any_two test xs) (list_any (test x) xs) (list_any seen xs)
      ∙ ap (λ b. (list_any (test x) xs || any_two test xs) || (b || list_any seen xs)) (sym new)

  -- one that passes with an earlier one
  repeats-found : (x : A) (xs : List A) → seen x ≡ true → repeats test seen (x ∷ xs) ≡ true
  repeats-found x xs found =
      ap (λ b. (list_any (test x) xs || any_two test xs) || (b || list_any seen xs)) found
      ∙ or-true (list_any (test x) xs || any_two test xs)

  none-seen : ((y : A) → seen y ≡ false) → (ys : List A) → list_any seen ys ≡ false
  none-seen none [] = refl
  none-seen none (y ∷ ys) = ap (λ b. b || list_any seen ys) (none y) ∙ none-seen none ys

  -- at first there is no earlier one
  pub repeats-none : (xs : List A) → ((y : A) → seen y ≡ false) → repeats test seen xs ≡ any_two test xs
  repeats-none xs none = ap (λ b. any_two test xs || b) (none-seen none xs) ∙ or-false (any_two test xs)

  module _ (xs : List A) (i : ℕ) where
    module _ (x : A) (within : i < length xs) (is : x ≡ get_or xs i x) where
      next : drop i xs ≡ x ∷ drop (i + 1) xs
      next = drop_more xs i x within ∙ ap (λ y. y ∷ drop (i + 1) xs) (sym is)

      -- a turn of the pass
      pub turn : (later : A → Bool) → seen x ≡ false → ((y : A) → later y ≡ (test x y || seen y))
          → repeats test later (drop (i + 1) xs) ≡ repeats test seen (drop i xs)
      turn later new more = repeats-more later x (drop (i + 1) xs) new more ∙ ap (repeats test seen) (sym next)

      pub found : seen x ≡ true → repeats test seen (drop i xs) ≡ true
      found known = ap (repeats test seen) next ∙ repeats-found x (drop (i + 1) xs) known

    pub over : length xs ≤ i → repeats test seen (drop i xs) ≡ false
    over done = ap (repeats test seen) (drop_all i xs done)
