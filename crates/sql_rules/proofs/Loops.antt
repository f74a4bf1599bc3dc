-- A loop over a list, seen by f, that looks for an element, or for two.
use Rattle.std.proofs.Common.{◌≡◌, ℕ, ◌+◌, ◌<◌, ◌≤◌, Bool, List, [], ◌∷◌, ◌++◌, map, length, take, drop, get_or, sym, ap, ◌∙◌, subst, inl, inr, ◌⊎◌}
use Rattle.std.specs.Bool.{Decides}
use Rattle.std.specs.List.{list_any}
use Rattle.std.proofs.lemmas.Bool.{true≢false}
use Rattle.std.proofs.lemmas.Bool.Decides.{Decides-or}
use Rattle.std.proofs.lemmas.List.{drop_more, drop_all, take-append-drop}
use Rattle.sql_rules.specs.Lists.{AnyOf, AnyPair}
use Rattle.sql_rules.proofs.Lists.{any_left, any_right}

pub any_split : {X : Type 0} (P : X → Type 0) (xs ys : List X) → AnyOf P (xs ++ ys) → AnyOf P xs ⊎ AnyOf P ys
any_split P [] ys h = inr h
any_split P (x ∷ xs) ys (inl p) = inl (inl p)
any_split P (x ∷ xs) ys (inr h) = elim (any_split P xs ys h) [ inl l ↦ inl (inr l) | inr r ↦ inr r ]

pub any_each : {X : Type 0} (P Q : X → Type 0) → ((x : X) → P x → Q x) → (xs : List X) → AnyOf P xs → AnyOf Q xs
any_each P Q f [] h = absurd h
any_each P Q f (x ∷ xs) (inl p) = inl (f x p)
any_each P Q f (x ∷ xs) (inr h) = inr (any_each P Q f xs h)

pub any_map : {X Y : Type 0} (P : Y → Type 0) (f : X → Y) (xs : List X) → AnyOf P (map f xs) → AnyOf (λ x. P (f x)) xs
any_map P f [] h = h
any_map P f (x ∷ xs) (inl p) = inl p
any_map P f (x ∷ xs) (inr h) = inr (any_map P f xs h)

pub map_any : {X Y : Type 0} (P : Y → Type 0) (f : X → Y) (xs : List X) → AnyOf (λ x. P (f x)) xs → AnyOf P (map f xs)
map_any P f [] h = h
map_any P f (x ∷ xs) (inl p) = inl p
map_any P f (x ∷ xs) (inr h) = inr (map_any P f xs h)

-- a test of each, of which one says yes
pub any-decides : {X : Type 0} (P : X → Type 0) (t : X → Bool) → ((x : X) → Decides (t x) (P x)) → (xs : List X)
    → Decides (list_any t xs) (AnyOf P xs)
any-decides P t d [] = (λ e. absurd (true≢false (sym e)), λ h. absurd h)
any-decides P t d (x ∷ xs) = Decides-or (t x) (list_any t xs) (d x) (any-decides P t d xs)

-- ---- one element: none before i

module _ {X Y : Type 0} (f : X → Y) (P : Y → Type 0) (xs : List X) (i : ℕ) where
  pub step_any : (d x : X) → i < length xs → x ≡ get_or xs i d → ¬ P (f x) → AnyOf P (map f (drop i xs))
      → AnyOf P (map f (drop (i + 1) xs))
  step_any d x l e n a =
      elim (subst (λ ys. AnyOf P (map f ys)) (drop_more xs i d l) a) [
        | inl p ↦ absurd
            (n (subst (λ y. P (f y)) (sym e) p))
        | inr r ↦ r
      ]

  pub here_any : (d x : X) → i < length xs → x ≡ get_or xs i d → P (f x) → AnyOf P (map f xs)
  here_any d x l e p =
      map_any P f xs (subst (AnyOf (λ y. P (f y))) (take-append-drop i xs)
      (any_right (λ y. P (f y)) (take i xs) (drop i xs)
      (subst (AnyOf (λ y. P (f y))) (sym (drop_more xs i d l)) (inl (subst (λ y. P (f y)) e p)))))

  pub end_any : length xs ≤ i → AnyOf P (map f (drop i xs)) → ⊥
  end_any l a = subst (λ ys. AnyOf P (map f ys)) (drop_all i xs l) a

-- ---- one of the elements that those of a list give, L of the list together

module _ {X Y : Type 0} (g : X → List Y) (L : List X → List Y) (none : L [] ≡ []) (more : (x : X) (xs : List X) → L (x ∷ xs) ≡ g x ++ L xs) (P : Y → Type 0) (xs : List X) (i : ℕ) where
  at_next : (x : X) → i < length xs → x ≡ get_or xs i x → L (drop i xs) ≡ g x ++ L (drop (i + 1) xs)
  at_next x l e =
      ap L (drop_more xs i x l) ∙ more (get_or xs i x) (drop (i + 1) xs) ∙ ap (λ y. g y ++ L (drop (i + 1) xs)) (sym e)

  pub step_given : (x : X) → i < length xs → x ≡ get_or xs i x → ¬ AnyOf P (g x) → AnyOf P (L (drop i xs))
      → AnyOf P (L (drop (i + 1) xs))
  step_given x l e n a =
      elim (any_split P (g x) (L (drop (i + 1) xs)) (subst (AnyOf P) (at_next x l e) a)) [
        | inl p ↦ absurd (n p)
        | inr r ↦ r
      ]

  in_front : (ys zs : List X) → AnyOf P (L zs) → AnyOf P (L (ys ++ zs))
  in_front [] zs h = h
  in_front (y ∷ ys) zs h =
      subst (AnyOf P) (sym (more y (ys ++ zs))) (any_right P (g y) (L (ys ++ zs)) (in_front ys zs h))

  pub here_given : (x : X) → i < length xs → x ≡ get_or xs i x → AnyOf P (g x) → AnyOf P (L xs)
  here_given x l e p =
      subst (λ ys. AnyOf P (L ys)) (take-append-drop i xs)
      (in_front (take i xs) (drop i xs)
      (subst (AnyOf P) (sym (at_next x l e)) (any_left P (g x) (L (drop (i + 1) xs)) p)))

  pub end_given : length xs ≤ i → AnyOf P (L (drop i xs)) → ⊥
  end_given l a = subst (AnyOf P) (ap L (drop_all i xs l) ∙ none) a

-- ---- two elements

pair_right : {X : Type 0} (R : X → X → Type 0) (xs ys : List X) → AnyPair R ys → AnyPair R (xs ++ ys)
pair_right R [] ys h = h
pair_right R (x ∷ xs) ys h = inr (pair_right R xs ys h)

pub pair_map : {X Y : Type 0} (R : Y → Y → Type 0) (f : X → Y) (xs : List X) → AnyPair R (map f xs)
    → AnyPair (λ x y. R (f x) (f y)) xs
pair_map R f [] h = h
pair_map R f (x ∷ xs) (inl p) = inl (any_map (R (f x)) f xs p)
pair_map R f (x ∷ xs) (inr h) = inr (pair_map R f xs h)

pub map_pair : {X Y : Type 0} (R : Y → Y → Type 0) (f : X → Y) (xs : List X) → AnyPair (λ x y. R (f x) (f y)) xs
    → AnyPair R (map f xs)
map_pair R f [] h = h
map_pair R f (x ∷ xs) (inl p) = inl (map_any (R (f x)) f xs p)
map_pair R f (x ∷ xs) (inr h) = inr (map_pair R f xs h)

module _ {X Y : Type 0} (f : X → Y) (R : Y → Y → Type 0) (xs : List X) (i : ℕ) where
  pub step_pair : (d x : X) → i < length xs → x ≡ get_or xs i d → ¬ AnyOf (R (f x)) (map f (drop (i + 1) xs))
      → AnyPair R (map f (drop i xs)) → AnyPair R (map f (drop (i + 1) xs))
  step_pair d x l e n a =
      elim (subst (λ ys. AnyPair R (map f ys)) (drop_more xs i d l) a) [
        | inl p ↦ absurd
            (n (subst (λ y. AnyOf (R (f y)) (map f (drop (i + 1) xs))) (sym e) p))
        | inr r ↦ r
      ]

  pub here_pair : (d x : X) → i < length xs → x ≡ get_or xs i d → AnyOf (R (f x)) (map f (drop (i + 1) xs))
      → AnyPair R (map f xs)
  here_pair d x l e p =
      map_pair R f xs
      (subst (AnyPair (λ y z. R (f y) (f z))) (take-append-drop i xs)
      (pair_right (λ y z. R (f y) (f z)) (take i xs) (drop i xs)
      (subst (AnyPair (λ y z. R (f y) (f z))) (sym (drop_more xs i d l))
      (inl (any_map (R (f (get_or xs i d))) f (drop (i + 1) xs)
      (subst (λ y. AnyOf (R (f y)) (map f (drop (i + 1) xs))) e p))))))

  pub end_pair : length xs ≤ i → AnyPair R (map f (drop i xs)) → ⊥
  end_pair l a = subst (λ ys. AnyPair R (map f ys)) (drop_all i xs l) a
