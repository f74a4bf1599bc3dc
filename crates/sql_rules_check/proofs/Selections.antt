-- The elements of which something holds, one more at a time.
use Rattle.std.proofs.Common.{ℕ, ◌+◌, ◌<◌, List, [], ◌∷◌, ◌++◌, length, take, get_or, refl, sym, ap, subst, inl, inr}
use Rattle.std.proofs.lemmas.List.{take_more, append-nil}
use Rattle.sql_rules.specs.Lists.{Selects}

pub selects-append : {X : Type 0} (P : X → Type 0) (xs ys a b : List X) → Selects P xs a → Selects P ys b
    → Selects P (xs ++ ys) (a ++ b)
selects-append P [] ys a b h k = subst (λ x. Selects P ys (x ++ b)) (sym h) k
selects-append P (x ∷ xs) ys a b (inl h) k =
    inl (h.0, (h.1.0 ++ b, ap (λ y. y ++ b) h.1.1, selects-append P xs ys h.1.0 b h.1.2 k))
selects-append P (x ∷ xs) ys a b (inr h) k = inr (h.0, selects-append P xs ys a b h.1 k)

pub selects_more : {X : Type 0} (P : X → Type 0) (xs : List X) (i : ℕ) (d : X) (out : List X) → i < length xs
    → Selects P (take i xs) out → P (get_or xs i d) → Selects P (take (i + 1) xs) (out ++ get_or xs i d ∷ [])
selects_more P xs i d out l h p =
    let x = get_or xs i d in
    subst (λ q. Selects P q (out ++ x ∷ [])) (sym (take_more xs i d l))
    (selects-append P (take i xs) (x ∷ []) out (x ∷ []) h (inl (p, ([], refl, refl))))

pub selects_skip : {X : Type 0} (P : X → Type 0) (xs : List X) (i : ℕ) (d : X) (out : List X) → i < length xs
    → Selects P (take i xs) out → ¬ P (get_or xs i d) → Selects P (take (i + 1) xs) out
selects_skip P xs i d out l h n =
    let x = get_or xs i d in
    subst (λ q. Selects P q out) (sym (take_more xs i d l))
    (subst (Selects P (take i xs ++ x ∷ [])) (append-nil out)
    (selects-append P (take i xs) (x ∷ []) out [] h (inr (n, refl))))
