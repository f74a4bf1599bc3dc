-- Pairs that pass a test only where a cheaper one lets them, and answers of ordered sets.
use Rattle.std.proofs.Common.{◌≡◌, ℕ, Bool, true, false, not, ◌&&◌, ◌||◌, List, [], ◌∷◌, Option, Some, None, refl, sym, ap, ◌∙◌, inl, inr}
use Rattle.std.specs.List.{list_any}
use Rattle.std.specs.Option.{option_eq}
use Rattle.std.specs.Str.{bytes_eq}
use Rattle.std.proofs.lemmas.Cmp.{nat_list_eq_equiv}
use Rattle.sql_schema.specs.Refusals.{any_two}
use Rattle.sql_rules.specs.Lists.{AnyOf, AnyPair}

or-true : (b : Bool) → (b || true) ≡ true
or-true true = refl
or-true false = refl

module _ {X : Type 0} (R : X → X → Type 0) (test : X → X → Bool) (passes : (x y : X) → R x y → test x y ≡ true) where
  one-passes : (x : X) (ys : List X) → AnyOf (R x) ys → list_any (test x) ys ≡ true
  one-passes x [] h = absurd h
  one-passes x (y ∷ ys) (inl r) = ap (λ b. b || list_any (test x) ys) (passes x y r)
  one-passes x (y ∷ ys) (inr h) = ap (λ b. test x y || b) (one-passes x ys h) ∙ or-true (test x y)

  pub two-pass : (xs : List X) → AnyPair R xs → any_two test xs ≡ true
  two-pass [] h = absurd h
  two-pass (x ∷ xs) (inl h) = ap (λ b. b || any_two test xs) (one-passes x xs h)
  two-pass (x ∷ xs) (inr h) = ap (λ b. list_any (test x) xs || b) (two-pass xs h) ∙ or-true (list_any (test x) xs)

-- what a set answers as it takes a key
pub was-known : (new known : Bool) → new ≡ not known → new ≡ false → known ≡ true
was-known new true e f = refl
was-known new false e f = absurd (let wrong : true ≡ false = sym e ∙ f in cc)

pub was-new : (new known : Bool) → new ≡ not known → new ≡ true → known ≡ false
was-new new true e f = absurd (let wrong : false ≡ true = sym e ∙ f in cc)
was-new new false e f = refl

pub and-swapped : (a b : Bool) → (a && b) ≡ (b && a)
and-swapped true true = refl
and-swapped true false = refl
and-swapped false true = refl
and-swapped false false = refl

pub same-alias : (o : Option (List ℕ)) → option_eq bytes_eq o o ≡ true
same-alias None = refl
same-alias (Some a) = nat_list_eq_equiv.refl a
