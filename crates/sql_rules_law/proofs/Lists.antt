-- What the words on lists give.
use Rattle.std.proofs.Common.{◌≡◌, ℕ, zero, suc, ◌<◌, List, [], ◌∷◌, ◌++◌, map, Option, Some, None, sym, ap, arith, inl, inr, ◌⊎◌, subst}
use Rattle.std.specs.Prelude.{slice_get}
use Rattle.sql_rules.specs.Lists.{AnyOf, Each, AnyPair}
use Rattle.sql_rules.proofs.Lists.{any_left}

-- none holds, so each fails
pub each_not : {X : Type 0} (P : X → Type 0) (xs : List X) → ¬ AnyOf P xs → Each (λ x. ¬ P x) xs
each_not P [] h = tt
each_not P (x ∷ xs) h = ((λ p. h (inl p)), each_not P xs (λ p. h (inr p)))

pub each_both : {X : Type 0} (P Q R : X → Type 0) → ((x : X) → P x → Q x → R x) → (xs : List X) → Each P xs → Each Q xs
    → Each R xs
each_both P Q R f [] p q = tt
each_both P Q R f (x ∷ xs) p q = (f x p.0 q.0, each_both P Q R f xs p.1 q.1)

pub each_map : {X : Type 0} (P Q : X → Type 0) → ((x : X) → P x → Q x) → (xs : List X) → Each P xs → Each Q xs
each_map P Q f [] p = tt
each_map P Q f (x ∷ xs) p = (f x p.0, each_map P Q f xs p.1)

pub each_append : {X : Type 0} (P : X → Type 0) (xs ys : List X) → Each P xs → Each P ys → Each P (xs ++ ys)
each_append P [] ys p q = q
each_append P (x ∷ xs) ys p q = (p.0, each_append P xs ys p.1 q)

pub pair_left : {X : Type 0} (R : X → X → Type 0) (xs ys : List X) → AnyPair R xs → AnyPair R (xs ++ ys)
pair_left R [] ys h = absurd h
pair_left R (x ∷ xs) ys (inl p) = inl (any_left (R x) xs ys p)
pair_left R (x ∷ xs) ys (inr h) = inr (pair_left R xs ys h)

pub pair_right : {X : Type 0} (R : X → X → Type 0) (xs ys : List X) → AnyPair R ys → AnyPair R (xs ++ ys)
pair_right R [] ys h = h
pair_right R (x ∷ xs) ys h = inr (pair_right R xs ys h)

-- an element that is there has a place
pub place_of : {X : Type 0} (a : X) (xs : List X) → AnyOf (λ x. x ≡ a) xs → (k : ℕ) × (slice_get xs k ≡ Some a)
place_of a [] h = absurd h
place_of a (x ∷ xs) (inl e) = (0, ap Some e)
place_of a (x ∷ xs) (inr h) = let r = place_of a xs h in (suc r.0, r.1)

some_inverse : {X : Type 0} → X → Option X → X
some_inverse x None = x
some_inverse x (Some y) = y

none_some : {Y : Type 0} (y : Y) → Path (Option Y) None (Some y) → ⊥
none_some y h = cc

pub any_at : {X : Type 0} (P : X → Type 0) (xs : List X) (k : ℕ) (b : X) → slice_get xs k ≡ Some b → P b → AnyOf P xs
unfolding some_inverse
any_at P [] k b e p = absurd (none_some b e)
any_at P (x ∷ xs) zero b e p = inl (subst P (sym (ap (some_inverse x) e)) p)
any_at P (x ∷ xs) (suc k) b e p = inr (any_at P xs k b e p)

pub pair_at : {X : Type 0} (R : X → X → Type 0) (xs : List X) (j k : ℕ) (a b : X) → j < k → slice_get xs j ≡ Some a
    → slice_get xs k ≡ Some b → R a b → AnyPair R xs
unfolding some_inverse
pair_at R [] j k a b l e f r = absurd (none_some a e)
pair_at R (x ∷ xs) zero zero a b l e f r = absurd (omega arith)
pair_at R (x ∷ xs) zero (suc k) a b l e f r =
    inl (any_at (R x) xs k b f (subst (λ y. R y b) (sym (ap (some_inverse x) e)) r))
pair_at R (x ∷ xs) (suc j) zero a b l e f r = absurd (omega arith)
pair_at R (x ∷ xs) (suc j) (suc k) a b l e f r = inr (pair_at R xs j k a b (omega arith) e f r)

pub any_or_none : {X : Type 0} (P : X → Type 0) → ((x : X) → P x ⊎ ¬ P x) → (xs : List X) → AnyOf P xs ⊎ ¬ AnyOf P xs
any_or_none P test [] = inr (λ h. h)
any_or_none P test (x ∷ xs) = go (test x) (any_or_none P test xs)
  where
    go : P x ⊎ ¬ P x → AnyOf P xs ⊎ ¬ AnyOf P xs → AnyOf P (x ∷ xs) ⊎ ¬ AnyOf P (x ∷ xs)
    go (inl p) t = inl (inl p)
    go (inr n) (inl h) = inl (inr h)
    go (inr n) (inr m) = inr (λ h. elim h [ inl p ↦ n p | inr q ↦ m q ])

pub each_front : {X : Type 0} (P : X → Type 0) (xs ys : List X) → Each P (xs ++ ys) → Each P xs
each_front P [] ys h = tt
each_front P (x ∷ xs) ys h = (h.0, each_front P xs ys h.1)

pub each_back : {X : Type 0} (P : X → Type 0) (xs ys : List X) → Each P (xs ++ ys) → Each P ys
each_back P [] ys h = h
each_back P (x ∷ xs) ys h = each_back P xs ys h.1

pub each_under : {X Y : Type 0} (P : Y → Type 0) (f : X → Y) (xs : List X) → Each P (map f xs) → Each (λ x. P (f x)) xs
each_under P f [] h = tt
each_under P f (x ∷ xs) h = (h.0, each_under P f xs h.1)

pub each_apply : {X : Type 0} (P Q : X → Type 0) (xs : List X) → Each (λ x. P x → Q x) xs → Each P xs → Each Q xs
each_apply P Q [] f h = tt
each_apply P Q (x ∷ xs) f h = (f.0 h.0, each_apply P Q xs f.1 h.1)
