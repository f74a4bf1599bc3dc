-- The stack of a loop over the nodes from the first to the last: where each node ends that is open, and what is known within it.
use Rattle.std.specs.Prelude.{ℕ, cond, List, [], ◌∷◌, map, reverse}
use Rattle.std.proofs.Common.{ltb}
use Rattle.sql_flat_law.specs.declared.opened.Opened as declared

module _ {V : Type 0} where
  abbrev pub pair_of : declared.Opened V → ℕ × V
  pair_of o = (o.end, o.known)

  -- from the innermost on
  abbrev pub opens : List (declared.Opened V) → List (ℕ × V)
  opens os = map pair_of (reverse os)

  -- those that are open still at the index i
  abbrev pub still_open : ℕ → List (ℕ × V) → List (ℕ × V)
  still_open i [] = []
  still_open i (p ∷ σ) = cond (ltb i p.0) (p ∷ σ) (still_open i σ)

  -- what is known within the innermost, or around all
  abbrev pub innermost : V → List (ℕ × V) → V
  innermost outer [] = outer
  innermost outer (p ∷ σ) = p.1
