-- The types that there are in a list of types that may lack.
use Rattle.std.specs.Prelude.{List, [], ◌∷◌, Option, None, Some}

abbrev pub known : {A : Type 0} → List (Option A) → List A
known [] = []
known (None ∷ xs) = known xs
known (Some x ∷ xs) = x ∷ known xs
