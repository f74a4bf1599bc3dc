-- The relations on lists of rows where a test has one answer.
use Rattle.std.proofs.Common.{◌≡◌, ℕ, zero, suc, ◌<◌, Bool, true, false, List, [], ◌∷◌, ◌++◌, map, length, refl, sym, ap, ap₂, subst, ◌∙◌, inl, inr, ◌⊎◌, arith, IsPermutation, filter, cond, swap, append-nil}
use Rattle.std.specs.List.{AllZip}
use Rattle.std.proofs.lemmas.List.Sorted.{IsPermutation-keeps}
use Rattle.sql_leaf.specs.declared.table_source.JoinKind.{JoinKind}
use Rattle.sql_rows_meaning.specs.Answers.{or_padded, Joined, no_rows, a_row}
use Rattle.sql_rows_meaning.specs.Frames.{Frame}
use Rattle.sql_rows_meaning.specs.Rows.{Filtered, none, kept, dropped, IsPart}

pub Filtered-is : {A : Type 0} (Test : A → Bool → Type 0) (g : A → Bool) → ((x : A) (t : Bool) → Test x t → t ≡ g x)
    → {xs ys : List A} → Filtered Test xs ys → ys ≡ filter g xs
Filtered-is Test g one none = refl
Filtered-is Test g one (kept {x = x} t f) = rw (← one x true t) (ap (λ zs. x ∷ zs) (Filtered-is Test g one f))
Filtered-is Test g one (dropped {x = x} t f) = rw (← one x false t) (Filtered-is Test g one f)

pub is-Filtered : {A : Type 0} (Test : A → Bool → Type 0) (g : A → Bool) → ((x : A) → Test x (g x)) → (xs : List A)
    → Filtered Test xs (filter g xs)
is-Filtered Test g has [] = none
is-Filtered Test g has (x ∷ xs) = go (g x) (has x) (is-Filtered Test g has xs)
  where
    go : (b : Bool) → Test x b → Filtered Test xs (filter g xs)
        → Filtered Test (x ∷ xs) (cond b (x ∷ filter g xs) (filter g xs))
    go true t f = kept t f
    go false t f = dropped t f

-- a join by a test
abbrev pub joined_rows : JoinKind → Frame → (Frame → Bool) → List Frame → List Frame → List Frame
joined_rows kind padding g ys [] = []
joined_rows kind padding g ys (x ∷ xs) =
    or_padded kind padding x (filter g (map (λ y. x ++ y) ys)) ++ joined_rows kind padding g ys xs

pub Joined-is : (kind : JoinKind) (padding : Frame) (Test : Frame → Bool → Type 0) (g : Frame → Bool)
    → ((x : Frame) (t : Bool) → Test x t → t ≡ g x) → (ys : List Frame) → {xs rows : List Frame}
    → Joined kind padding Test ys xs rows → rows ≡ joined_rows kind padding g ys xs
Joined-is kind padding Test g one ys no_rows = refl
Joined-is kind padding Test g one ys (a_row {x = x} f j) =
    ap₂ (λ pairs rest. or_padded kind padding x pairs ++ rest) (Filtered-is Test g one f)
    (Joined-is kind padding Test g one ys j)

pub is-Joined : (kind : JoinKind) (padding : Frame) (Test : Frame → Bool → Type 0) (g : Frame → Bool)
    → ((x : Frame) → Test x (g x)) → (ys xs : List Frame)
    → Joined kind padding Test ys xs (joined_rows kind padding g ys xs)
is-Joined kind padding Test g has ys [] = no_rows
is-Joined kind padding Test g has ys (x ∷ xs) =
    a_row (is-Filtered Test g has (map (λ y. x ++ y) ys)) (is-Joined kind padding Test g has ys xs)

pub whole-permutation : {A : Type 0} (xs ys : List A) → IsPart false xs ys → IsPermutation xs ys
whole-permutation xs ys p = subst (λ zs. IsPermutation xs zs) (ap (λ r. ys ++ r) (p.whole refl) ∙ append-nil ys) p.order

pub permutation-whole : {A : Type 0} (may_lack : Bool) (xs ys : List A) → IsPermutation xs ys → IsPart may_lack xs ys
permutation-whole may_lack xs ys p =
    record { rest = []; order = subst (λ zs. IsPermutation xs zs) (sym (append-nil ys)) p; whole = λ e. refl }

-- the two orders of two elements
pub two-orders : {A : Type 0} (a b : A) (ys : List A) → IsPermutation (a ∷ b ∷ []) ys → (ys ≡ a ∷ b ∷ [])
    ⊎ (ys ≡ b ∷ a ∷ [])
two-orders {A} a b ys p =
    IsPermutation-keeps (a ∷ b ∷ []) (λ l. (l ≡ a ∷ b ∷ []) ⊎ (l ≡ b ∷ a ∷ [])) (inl refl) step ys p
  where
    swapped : (c d : A) (i j : ℕ) → i < 2 → j < 2 → (swap (c ∷ d ∷ []) i j ≡ c ∷ d ∷ [])
        ⊎ (swap (c ∷ d ∷ []) i j ≡ d ∷ c ∷ [])
    swapped c d zero zero h k = inl refl
    swapped c d zero (suc zero) h k = inr refl
    swapped c d (suc zero) zero h k = inr refl
    swapped c d (suc zero) (suc zero) h k = inl refl
    swapped c d (suc (suc i)) j h k = absurd (omega arith)
    swapped c d zero (suc (suc j)) h k = absurd (omega arith)
    swapped c d (suc zero) (suc (suc j)) h k = absurd (omega arith)

    step : (l : List A) (i j : ℕ) → i < length l → j < length l → (l ≡ a ∷ b ∷ []) ⊎ (l ≡ b ∷ a ∷ [])
        → (swap l i j ≡ a ∷ b ∷ []) ⊎ (swap l i j ≡ b ∷ a ∷ [])
    step l i j h k (inl e) = rw e (swapped a b i j (rw e at h) (rw e at k))
    step l i j h k (inr e) = other (swapped b a i j (rw e at h) (rw e at k))
      where
        other : (swap (b ∷ a ∷ []) i j ≡ b ∷ a ∷ []) ⊎ (swap (b ∷ a ∷ []) i j ≡ a ∷ b ∷ []) → (swap l i j ≡ a ∷ b ∷ [])
            ⊎ (swap l i j ≡ b ∷ a ∷ [])
        other (inl s) = inr (rw e s)
        other (inr s) = inl (rw e s)

pub one-order : {A : Type 0} (a : A) (ys : List A) → IsPermutation (a ∷ []) ys → ys ≡ a ∷ []
one-order {A} a ys p = IsPermutation-keeps (a ∷ []) (λ l. l ≡ a ∷ []) refl step ys p
  where
    swapped : (i j : ℕ) → i < 1 → j < 1 → swap (a ∷ []) i j ≡ a ∷ []
    swapped zero zero h k = refl
    swapped (suc i) j h k = absurd (omega arith)
    swapped zero (suc j) h k = absurd (omega arith)

    step : (l : List A) (i j : ℕ) → i < length l → j < length l → l ≡ a ∷ [] → swap l i j ≡ a ∷ []
    step l i j h k e = rw e (swapped i j (rw e at h) (rw e at k))

pub AllZip-map_is : {A B C : Type 0} (R : A → B → Type 0) (f : A → C) (g : B → C)
    → ((a : A) (b : B) → R a b → g b ≡ f a) → (xs : List A) (ys : List B) → AllZip R xs ys → map g ys ≡ map f xs
AllZip-map_is R f g one [] [] h = refl
AllZip-map_is R f g one [] (y ∷ ys) h = absurd h
AllZip-map_is R f g one (x ∷ xs) [] h = absurd h
AllZip-map_is R f g one (x ∷ xs) (y ∷ ys) h = ap₂ ◌∷◌ (one x y h.0) (AllZip-map_is R f g one xs ys h.1)
