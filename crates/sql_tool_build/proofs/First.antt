-- The first of a list, by the program's keys and by shapes.
use Rattle.std.proofs.Common.{◌≡◌, ◌↔◌, ◌<◌, ◌+◌, ℕ, zero, suc, Bool, true, false, cond, Option, Some, None, List, [], ◌∷◌, ◌++◌, map, refl, sym, ap, ◌∙◌, arith, ◌⊎◌, inl, inr}
use Rattle.std.specs.List.{slice_get}
use Rattle.sql_tool_build.specs.Ids.{RequestShape, IsFirst, IsId}
use Rattle.sql_tool_build.specs.inside.Keys.{index_from, same_key}
use Rattle.sql_rows.specs.declared.cache.RequestKey.{RequestKey}
use Rattle.sql_rows.specs.contracts.cache.NamedRequestEq.TheImpl.Laws.{laws-law}
use Rattle.sql_rules.specs.Lists.{Each}

pub none_some : {X : Type 0} (x : X) → Prim.Path (Option X) None (Some x) → ⊥
none_some x h = cc

some_one : {X : Type 0} (x y : X) → Prim.Path (Option X) (Some x) (Some y) → x ≡ y
some_one x y h = cc

true_false : true ≡ false → ⊥
true_false h = cc

-- ---- the first by keys is the first by shapes

module _ {A : Type 0} (key_at : A → Option RequestKey) (shape_at : A → Option RequestShape) (k : RequestKey) (own : RequestShape) (alike : (x : A) → (key_at x ≡ Some k) ↔ (shape_at x ≡ Some own)) where
  -- `==` tells the element's key from this one
  abbrev pub IsTold : A → Type 0
  IsTold x = (q : RequestKey) → key_at x ≡ Some q → same_key q k ≡ true → q ≡ k

  abbrev Stands : List A → ℕ → Type 0
  Stands xs i =
      (slice_get (map shape_at xs) i ≡ Some (Some own))
      × ((j : ℕ) → j < i → ¬ (slice_get (map shape_at xs) j ≡ Some (Some own)))

  abbrev Found : ℕ → List A → ℕ → Type 0
  Found m xs n = (i : ℕ) × (n ≡ m + i) × Stands xs i

  stands-next : (x : A) (xs : List A) (i : ℕ) → ¬ (shape_at x ≡ Some own) → Stands xs i → Stands (x ∷ xs) (suc i)
  stands-next x xs i other (at, none) = (at, before)
    where
      before : (j : ℕ) → j < suc i → ¬ (slice_get (map shape_at (x ∷ xs)) j ≡ Some (Some own))
      before zero within e = other (some_one _ _ e)
      before (suc j) within e = none j (omega (arith, within)) e

  found-later : (m : ℕ) (x : A) (xs : List A) (n : ℕ) → ¬ (shape_at x ≡ Some own) → Found (m + 1) xs n
      → Found m (x ∷ xs) n
  found-later m x xs n other (i, at, stands) =
      (suc i, let next : n ≡ m + suc i = omega (arith, at) in next, stands-next x xs i other stands)

  found-here : (m : ℕ) (x : A) (xs : List A) (n : ℕ) → shape_at x ≡ Some own → m ≡ n → Found m (x ∷ xs) n
  found-here m x xs n is same =
      (0, let at : n ≡ m + 0 = omega (arith, same) in at, (ap Some is, λ j within. absurd (omega (arith, within))))

  found-by : (m : ℕ) (x : A) (xs : List A) (n : ℕ) → IsTold x → (q : RequestKey) → key_at x ≡ Some q
      → (index_from (m + 1) (map key_at xs) k ≡ Some n → Found (m + 1) xs n) → (b : Bool) → same_key q k ≡ b
      → cond b (Some m) (index_from (m + 1) (map key_at xs) k) ≡ Some n → Found m (x ∷ xs) n
  found-by m x xs n told q is later true same e =
      found-here m x xs n ((alike x).0 (is ∙ ap Some (told q is same))) (some_one _ _ e)
  found-by m x xs n told q is later false same e =
      found-later m x xs n
      (λ s. let one : q ≡ k = some_one _ _ (sym is ∙ (alike x).1 s) in
      true_false (sym (laws-law.refl k) ∙ ap (λ c. same_key c k) (sym one) ∙ same))
      (later e)

  found-at : (m : ℕ) (x : A) (xs : List A) (n : ℕ) → IsTold x
      → (index_from (m + 1) (map key_at xs) k ≡ Some n → Found (m + 1) xs n) → (o : Option RequestKey) → key_at x ≡ o
      → index_from m (o ∷ map key_at xs) k ≡ Some n → Found m (x ∷ xs) n
  found-at m x xs n told later None is e =
      found-later m x xs n (λ s. none_some k (sym is ∙ (alike x).1 s)) (later e)
  found-at m x xs n told later (Some q) is e = found-by m x xs n told q is later (same_key q k) refl e

  pub first-found : (m : ℕ) (xs : List A) (n : ℕ) → Each IsTold xs → index_from m (map key_at xs) k ≡ Some n
      → Found m xs n
  first-found m [] n told h = absurd (none_some n h)
  first-found m (x ∷ xs) n told h = found-at m x xs n told.0 (first-found (m + 1) xs n told.1) (key_at x) refl h

-- ---- one index

before-or-after : (i j : ℕ) → (i ≡ j) ⊎ ((i < j) ⊎ (j < i))
before-or-after zero zero = inl refl
before-or-after zero (suc j) = inr (inl (omega arith))
before-or-after (suc i) zero = inr (inr (omega arith))
before-or-after (suc i) (suc j) =
    elim (before-or-after i j) [ inl e ↦ inl (ap suc e) | inr (inl l) ↦ inr (inl (omega (arith, l))) | inr (inr l) ↦ inr (inr (omega (arith, l))) ]

pub one-index : (xs : List (Option RequestShape)) (own : RequestShape) (m n : ℕ) → IsFirst m xs own → IsFirst n xs own
    → m ≡ n
one-index xs own m n (i, at, is, none) (j, also, it, before) =
    elim (before-or-after i j) [ inl e ↦ at ∙ ap (λ k. k + 1) e ∙ sym also | inr (inl l) ↦ absurd (before i l is) | inr (inr l) ↦ absurd (none j l it) ]

pub one-id : (xs : List (Option RequestShape)) (o : Option RequestShape) (a b : Option ℕ) → IsId xs o a → IsId xs o b
    → a ≡ b
one-id xs None a b first second = first ∙ sym second
one-id xs (Some own) None b first second = absurd first
one-id xs (Some own) (Some m) None first second = absurd second
one-id xs (Some own) (Some m) (Some n) first second = ap Some (one-index xs own m n first second)

-- two at one index are one
pub one-own : (xs : List (Option RequestShape)) (a b : RequestShape) (n : ℕ) → IsFirst n xs a → IsFirst n xs b → a ≡ b
one-own xs a b n (i, at, is, none) (j, also, it, before) =
    let same : i ≡ j = omega (arith, at, also) in
    some_one _ _ (some_one _ _ (sym is ∙ ap (slice_get xs) same ∙ it))

-- ---- in a longer list

longer : {X : Type 0} (xs ys : List X) (i : ℕ) (x : X) → slice_get xs i ≡ Some x → slice_get (xs ++ ys) i ≡ Some x
longer [] ys i x h = absurd (none_some x h)
longer (y ∷ xs) ys zero x h = h
longer (y ∷ xs) ys (suc i) x h = longer xs ys i x h

shorter : {X : Type 0} (xs ys : List X) (i j : ℕ) (x : X) → slice_get xs i ≡ Some x → j < i
    → slice_get (xs ++ ys) j ≡ slice_get xs j
shorter [] ys i j x h within = absurd (none_some x h)
shorter (y ∷ xs) ys zero j x h within = absurd (omega (arith, within))
shorter (y ∷ xs) ys (suc i) zero x h within = refl
shorter (y ∷ xs) ys (suc i) (suc j) x h within = shorter xs ys i j x h (omega (arith, within))

first-longer : (xs ys : List (Option RequestShape)) (own : RequestShape) (n : ℕ) → IsFirst n xs own
    → IsFirst n (xs ++ ys) own
first-longer xs ys own n (i, at, is, none) =
    (i, at, longer xs ys i _ is, λ j within e. none j within (sym (shorter xs ys i j _ is within) ∙ e))

pub id-longer : (xs ys : List (Option RequestShape)) (o : Option RequestShape) (id : Option ℕ) → IsId xs o id
    → IsId (xs ++ ys) o id
id-longer xs ys None id h = h
id-longer xs ys (Some own) None h = absurd h
id-longer xs ys (Some own) (Some n) h = first-longer xs ys own n h
