-- Things looked up one after the other, as a loop does.
use Rattle.std.proofs.Common.{◌≡◌, ℕ, ◌+◌, ◌<◌, List, [], ◌∷◌, ◌++◌, length, drop, get_or, Option, Some, None, option_map, refl, sym, ap, ◌∙◌, append-nil, append_assoc}
use Rattle.std.proofs.lemmas.List.{drop_more}
use Rattle.sql_build.specs.Named.{both}

-- those that were found before, and those that are still looked up
abbrev pub with_front : {A : Type 0} → List A → Option (List A) → Option (List A)
with_front front rest = option_map (λ others. front ++ others) rest

pub front_starts : {A : Type 0} (rest : Option (List A)) → with_front [] rest ≡ rest
front_starts None = refl
front_starts (Some xs) = refl

pub front_ends : {A : Type 0} (front : List A) → with_front front (Some []) ≡ Some front
front_ends front = ap Some (append-nil front)

pub front_grows : {A : Type 0} (front : List A) (x : A) (rest : Option (List A))
    → with_front front (both (λ first others. first ∷ others) (Some x) rest) ≡ with_front (front ++ x ∷ []) rest
front_grows front x None = refl
front_grows front x (Some xs) = ap Some (sym (append_assoc front (x ∷ []) xs))

pub ruleset fronts = (front_starts, front_ends, front_grows)

-- `one` looks up a thing, and `all` those of a list: where the i-th is found, those before it and it are the next front
pub goes_on : {X A : Type 0} (one : X → Option A) (all : List X → Option (List A))
    → ((x : X) (xs : List X) → all (x ∷ xs) ≡ both (λ first others. first ∷ others) (one x) (all xs))
    → (front : List A) (xs : List X) (i : ℕ) (x : X) (y : A) (total : Option (List A)) → i < length xs
    → x ≡ get_or xs i x → Some y ≡ one x → with_front front (all (drop i xs)) ≡ total
    → with_front (front ++ y ∷ []) (all (drop (i + 1) xs)) ≡ total
goes_on one all more front xs i x y total below is found so_far =
    let rest = drop (i + 1) xs in
    let here : drop i xs ≡ x ∷ rest = drop_more xs i x below ∙ ap (λ z. z ∷ rest) (sym is) in
    let now : all (drop i xs) ≡ both (λ first others. first ∷ others) (Some y) (all rest) =
    ap all here ∙ more x rest ∙ ap (λ o. both (λ first others. first ∷ others) o (all rest)) (sym found) in
    sym (front_grows front y (all rest)) ∙ sym (ap (with_front front) now) ∙ so_far
