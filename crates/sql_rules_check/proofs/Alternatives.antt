-- Alternatives over the elements of a list.
use Rattle.std.proofs.Common.{List, [], ◌∷◌, ◌⊎◌, inl, inr}
use Rattle.sql_rules.specs.Lists.{AnyOf}

-- where an element with P has Q or R, one has Q or one has R
pub any-either : {X : Type 0} (P Q R : X → Type 0) → ((x : X) → P x → Q x ⊎ R x) → (xs : List X) → AnyOf P xs
    → AnyOf Q xs ⊎ AnyOf R xs
any-either P Q R f [] h = absurd h
any-either P Q R f (x ∷ xs) (inl p) = elim (f x p) [ inl q ↦ inl (inl q) | inr r ↦ inr (inl r) ]
any-either P Q R f (x ∷ xs) (inr h) =
    elim (any-either P Q R f xs h) [ inl q ↦ inl (inr q) | inr r ↦ inr (inr r) ]

-- where none of the elements can have P
pub none-of : {X : Type 0} (P : X → Type 0) → ((x : X) → P x → ⊥) → (xs : List X) → AnyOf P xs → ⊥
none-of P f [] h = h
none-of P f (x ∷ xs) (inl p) = f x p
none-of P f (x ∷ xs) (inr h) = none-of P f xs h
