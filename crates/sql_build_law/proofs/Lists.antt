-- What holds of each element of a list, and of a thing that may be there.
use Rattle.std.proofs.Common.{◌≡◌, List, [], ◌∷◌, ◌++◌, map, flat_map, find, Bool, true, false, cond, Option, Some, None, option_map, IfSome, refl, inl, inr}
use Rattle.std.proofs.lemmas.Option.{IfSome_then}
use Rattle.sql_rules.specs.Lists.{AnyOf, Each}
use Rattle.sql_build.specs.Named.{◌>>=◌, both, only_where}

-- ## Lists

-- each fails, so none holds
pub none_of : {X : Type 0} (P : X → Type 0) (xs : List X) → Each (λ x. ¬ P x) xs → ¬ AnyOf P xs
none_of P [] h = λ any. any
none_of P (x ∷ xs) h = elim [ inl p ↦ h.0 p | inr any ↦ none_of P xs h.1 any ]

pub each_append : {X : Type 0} (P : X → Type 0) (xs ys : List X) → Each P xs → Each P ys → Each P (xs ++ ys)
each_append P [] ys h k = k
each_append P (x ∷ xs) ys h k = (h.0, each_append P xs ys h.1 k)

pub each_weaken : {X : Type 0} (P Q : X → Type 0) → ((x : X) → P x → Q x) → (xs : List X) → Each P xs → Each Q xs
each_weaken P Q f [] h = tt
each_weaken P Q f (x ∷ xs) h = (f x h.0, each_weaken P Q f xs h.1)

pub each_map : {X Y : Type 0} (P : X → Type 0) (Q : Y → Type 0) (f : X → Y) → ((x : X) → P x → Q (f x))
    → (xs : List X) → Each P xs → Each Q (map f xs)
each_map P Q f g [] h = tt
each_map P Q f g (x ∷ xs) h = (g x h.0, each_map P Q f g xs h.1)

pub each_flat : {X Y : Type 0} (P : X → Type 0) (Q : Y → Type 0) (f : X → List Y) → ((x : X) → P x → Each Q (f x))
    → (xs : List X) → Each P xs → Each Q (flat_map f xs)
each_flat P Q f g [] h = tt
each_flat P Q f g (x ∷ xs) h = each_append Q (f x) (flat_map f xs) (g x h.0) (each_flat P Q f g xs h.1)

-- each element of a list is one of the list's
pub each_own : {X : Type 0} (xs : List X) → Each (λ x. AnyOf (λ y. y ≡ x) xs) xs
each_own [] = tt
each_own (x ∷ xs) =
    let more = each_weaken (λ z. AnyOf (λ y. y ≡ z) xs) (λ z. AnyOf (λ y. y ≡ z) (x ∷ xs)) (λ z h. inr h) xs in
    (inl refl, more (each_own xs))

-- ## What may be there

pub if_map : {A B : Type 0} (P : A → Type 0) (Q : B → Type 0) (f : A → B) → ((x : A) → P x → Q (f x))
    → (o : Option A) → IfSome o P → IfSome (option_map f o) Q
if_map P Q f g None h = tt
if_map P Q f g (Some x) h = g x h

pub if_both : {A B C : Type 0} (P : A → Type 0) (Q : B → Type 0) (R : C → Type 0) (f : A → B → C)
    → ((x : A) (y : B) → P x → Q y → R (f x y)) → (o : Option A) (p : Option B) → IfSome o P → IfSome p Q
    → IfSome (both f o p) R
if_both P Q R f g None p h k = tt
if_both P Q R f g (Some x) p h k = if_map Q R (f x) (λ y. g x y h) p k

pub if_then : {A B : Type 0} (P : A → Type 0) (Q : B → Type 0) (f : A → Option B) → ((x : A) → P x → IfSome (f x) Q)
    → (o : Option A) → IfSome o P → IfSome (o >>= f) Q
if_then P Q f g None h = tt
if_then P Q f g (Some x) h = g x h

pub if_where : {A : Type 0} (P : A → Type 0) (o : Option A) (b : Bool) → IfSome o P → IfSome (only_where o b) P
if_where P None b h = tt
if_where P (Some x) true h = h
if_where P (Some x) false h = tt

pub if_cond : {A : Type 0} (P : A → Type 0) (b : Bool) (o p : Option A) → IfSome o P → IfSome p P
    → IfSome (cond b o p) P
if_cond P true o p h k = h
if_cond P false o p h k = k

-- what is found in a list is one of its elements
pub if_found : {A : Type 0} (test : A → Bool) (xs : List A) → IfSome (find test xs) (λ x. AnyOf (λ y. y ≡ x) xs)
if_found test [] = tt
if_found test (x ∷ xs) =
    if_cond (λ z. AnyOf (λ y. y ≡ z) (x ∷ xs)) (test x) (Some x) (find test xs) (inl refl)
    (IfSome_then (find test xs) (if_found test xs) (λ z h. inr h))
