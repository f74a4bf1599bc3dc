-- Words on lists.
use Rattle.std.proofs.Common.{◌≡◌, ℕ, zero, suc, ◌+◌, List, [], ◌∷◌, ◌++◌, map, length, Some, refl, ap, ◌∙◌, arith}
use Rattle.std.specs.Prelude.{slice_get}
use Rattle.sql_audit_law.specs.Own.{AllPairs}

pub both : {X : Type 0} {a b c d : List X} → a ≡ b → c ≡ d → a ++ c ≡ b ++ d
both p q = λ i. p i ++ q i

pub pairs_append : {X Y : Type 0} (R : X → Y → Type 0) (xs : List X) (ys : List Y) (zs : List X) (ws : List Y)
    → AllPairs R xs ys → AllPairs R zs ws → AllPairs R (xs ++ zs) (ys ++ ws)
pairs_append R [] [] zs ws p q = q
pairs_append R [] (y ∷ ys) zs ws p q = absurd p
pairs_append R (x ∷ xs) [] zs ws p q = absurd p
pairs_append R (x ∷ xs) (y ∷ ys) zs ws p q = (p.0, pairs_append R xs ys zs ws p.1 q)

pub get_front : {X : Type 0} (xs ys : List X) (k : ℕ) (x : X) → slice_get xs k ≡ Some x
    → slice_get (xs ++ ys) k ≡ Some x
get_front [] ys k x e = cc
get_front (y ∷ xs) ys zero x e = e
get_front (y ∷ xs) ys (suc k) x e = get_front xs ys k x e

pub get_back : {X : Type 0} (xs ys : List X) (k : ℕ) (x : X) → slice_get ys k ≡ Some x
    → slice_get (xs ++ ys) (length xs + k) ≡ Some x
get_back [] ys k x e =
    let z : zero + k ≡ k = omega arith in
    ap (λ j. slice_get ys j) z ∙ e
get_back (y ∷ xs) ys k x e =
    let z : suc (length xs) + k ≡ suc (length xs + k) = omega arith in
    ap (λ j. slice_get (y ∷ (xs ++ ys)) j) z ∙ get_back xs ys k x e
