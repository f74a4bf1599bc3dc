-- The stack of a loop over the nodes from the last to the first: where each tree begins that is finished, and what the loop has of it.
use Rattle.std.specs.Prelude.{ℕ, cond, List, [], ◌∷◌, map, reverse}
use Rattle.std.proofs.Common.{ltb}
use Rattle.sql_flat_law.specs.declared.finished.Finished as declared

module _ {A : Type 0} where
  abbrev pub pair_of : declared.Finished A → ℕ × A
  pair_of t = (t.start, t.value)

  -- from the first tree on
  abbrev pub finished : List (declared.Finished A) → List (ℕ × A)
  finished ts = map pair_of (reverse ts)

  abbrev pub first : A → List A × List (ℕ × A) → List A × List (ℕ × A)
  first a p = (a ∷ p.0, p.1)

  -- what the loop has of those that begin before e, and the others
  abbrev pub before : ℕ → List (ℕ × A) → List A × List (ℕ × A)
  before e [] = ([], [])
  before e (p ∷ σ) = cond (ltb p.0 e) (first p.1 (before e σ)) ([], p ∷ σ)
