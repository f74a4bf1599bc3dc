-- A list can be put into an order in which no element has to come before its predecessor. The test need not be transitive, only
-- asymmetric: an element goes before the first that need not come before it.
use Rattle.std.proofs.Common.{◌≡◌, ℕ, zero, suc, ◌+◌, ◌<◌, Bool, true, false, List, [], ◌∷◌, map, length, get_or, set, swap, refl, sym, ap, ap₂, subst, ◌∙◌, arith, IsPermutation, IsSortedBy, if◌then◌else◌}
use Rattle.std.proofs.lemmas.List.{get_or-map, map-set, length-map}
use Rattle.std.proofs.lemmas.List.Sorted.{IsPermutation-refl, IsPermutation-trans, IsPermutation-cons, IsPermutation-keeps, IsPermutation-swap}
use Rattle.sql_rows_meaning.proofs.Permutations.{to_front}

abbrev pub IsAsymmetric : {A : Type 0} → (A → A → Bool) → Type 0
IsAsymmetric {A} before = (x y : A) → before x y ≡ true → before y x ≡ false

-- the first of the list, where there is one, need not come before x
abbrev Follows : {A : Type 0} → (A → A → Bool) → A → List A → Type 0
Follows before x [] = Unit {0}
Follows before x (y ∷ ys) = before y x ≡ false

abbrev pub IsPath : {A : Type 0} → (A → A → Bool) → List A → Type 0
IsPath before [] = Unit {0}
IsPath before (x ∷ xs) = Follows before x xs × IsPath before xs

abbrev pub insert : {A : Type 0} → (A → A → Bool) → A → List A → List A
insert before x [] = x ∷ []
insert before x (y ∷ ys) = if before y x then y ∷ insert before x ys else x ∷ (y ∷ ys)

abbrev pub sorted : {A : Type 0} → (A → A → Bool) → List A → List A
sorted before [] = []
sorted before (x ∷ xs) = insert before x (sorted before xs)

module _ {A : Type 0} (before : A → A → Bool) where
  follows-insert : (x y : A) (ys : List A) → before x y ≡ false → Follows before y ys
      → Follows before y (insert before x ys)
  follows-insert x y [] e h = e
  follows-insert x y (z ∷ zs) e h = go (before z x)
    where
      go : (b : Bool) → Follows before y (if b then z ∷ insert before x zs else x ∷ (z ∷ zs))
      go true = h
      go false = e

  path-insert : IsAsymmetric before → (x : A) (ys : List A) → IsPath before ys → IsPath before (insert before x ys)
  path-insert asymmetric x [] h = (tt, tt)
  path-insert asymmetric x (y ∷ ys) h = go (before y x) refl (path-insert asymmetric x ys h.1)
    where
      go : (b : Bool) → before y x ≡ b → IsPath before (insert before x ys)
          → IsPath before (if b then y ∷ insert before x ys else x ∷ (y ∷ ys))
      go true e r = (follows-insert x y ys (asymmetric y x e) h.0, r)
      go false e r = (e, h)

  pub path-sorted : IsAsymmetric before → (xs : List A) → IsPath before (sorted before xs)
  path-sorted asymmetric [] = tt
  path-sorted asymmetric (x ∷ xs) = path-insert asymmetric x (sorted before xs) (path-sorted asymmetric xs)

  permutation-insert : (x : A) (ys : List A) → IsPermutation (x ∷ ys) (insert before x ys)
  permutation-insert x [] = IsPermutation-refl (x ∷ [])
  permutation-insert x (y ∷ ys) = go (before y x) (permutation-insert x ys)
    where
      go : (b : Bool) → IsPermutation (x ∷ ys) (insert before x ys)
          → IsPermutation (x ∷ (y ∷ ys)) (if b then y ∷ insert before x ys else x ∷ (y ∷ ys))
      go true p =
          IsPermutation-trans (x ∷ (y ∷ ys)) (y ∷ (x ∷ ys)) (y ∷ insert before x ys) (to_front (x ∷ []) (y ∷ []) ys)
          (IsPermutation-cons y (x ∷ ys) (insert before x ys) p)
      go false p = IsPermutation-refl (x ∷ (y ∷ ys))

  pub permutation-sorted : (xs : List A) → IsPermutation xs (sorted before xs)
  permutation-sorted [] = IsPermutation-refl []
  permutation-sorted (x ∷ xs) =
      IsPermutation-trans (x ∷ xs) (x ∷ sorted before xs) (insert before x (sorted before xs))
      (IsPermutation-cons x xs (sorted before xs) (permutation-sorted xs)) (permutation-insert x (sorted before xs))

  pub in-order : (xs : List A) → IsPath before xs → IsSortedBy before xs
  in-order [] h k d l u = absurd (omega arith)
  in-order (x ∷ []) h k d l u = absurd (omega arith)
  in-order (x ∷ (y ∷ ys)) h zero d l u = h.0
  in-order (x ∷ (y ∷ ys)) h (suc k) d l u =
      let next : suc k + 1 ≡ suc (k + 1) = omega arith in
      subst (λ n. before (get_or (x ∷ (y ∷ ys)) n d) (get_or (y ∷ ys) k d) ≡ false) (sym next)
      (in-order (y ∷ ys) h.1 k d (omega arith) (omega arith))

-- a path by what is taken of each element
pub path-map : {A B : Type 0} (f : A → B) (before : B → B → Bool) (xs : List A) → IsPath (λ x y. before (f x) (f y)) xs
    → IsPath before (map f xs)
path-map f before [] h = tt
path-map f before (x ∷ []) h = (tt, tt)
path-map f before (x ∷ (y ∷ ys)) h = (h.0, path-map f before (y ∷ ys) h.1)

-- ---- an order of what is taken of each element is one of the elements

swap-map : {A B : Type 0} (f : A → B) (xs : List A) (i j : ℕ) → i < length xs → j < length xs
    → map f (swap xs i j) ≡ swap (map f xs) i j
swap-map f [] i j h k = refl
swap-map f (x ∷ xs) i j h k =
    map-set f (set (x ∷ xs) i (get_or (x ∷ xs) j x)) j (get_or (x ∷ xs) i x)
    ∙ ap₂ (λ a b. set a j b)
    (map-set f (x ∷ xs) i (get_or (x ∷ xs) j x)
    ∙ ap (set (map f (x ∷ xs)) i) (sym (get_or-map f (x ∷ xs) j x (f x) k))) (sym (get_or-map f (x ∷ xs) i x (f x) h))

pub lifted : {A B : Type 0} (f : A → B) (xs : List A) (ys : List B) → IsPermutation (map f xs) ys
    → (zs : List A) × IsPermutation xs zs × (map f zs ≡ ys)
lifted {A} {B} f xs ys p =
    IsPermutation-keeps (map f xs) (λ l. (zs : List A) × IsPermutation xs zs × (map f zs ≡ l))
    (xs, IsPermutation-refl xs, refl) step ys p
  where
    step : (l : List B) (i j : ℕ) → i < length l → j < length l
        → (zs : List A) × IsPermutation xs zs × (map f zs ≡ l)
        → (zs : List A) × IsPermutation xs zs × (map f zs ≡ swap l i j)
    step l i j h k (zs, q, e) =
        let long : length l ≡ length zs = sym (ap length e) ∙ length-map zs f in
        let hi : i < length zs = subst (λ n. i < n) long h in
        let hj : j < length zs = subst (λ n. j < n) long k in (
          swap zs i j,
          IsPermutation-trans xs zs (swap zs i j) q (IsPermutation-swap zs (swap zs i j) i j hi hj refl),
          swap-map f zs i j hi hj ∙ ap (λ x. swap x i j) e,
        )
