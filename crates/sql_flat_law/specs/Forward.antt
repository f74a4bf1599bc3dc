-- A loop over the nodes from the first to the last that passes over what is inside nodes of some kinds.
use Rattle.std.specs.Prelude.{ℕ, ◌+◌, true, false, Bool, cond, List, [], ◌∷◌, ◌++◌}
use Rattle.std.proofs.Common.{ltb}

module _ {K N B : Type 0} (kind : N → K) (end : N → ℕ) (at : K → List B) (passed : K → Bool) where
  -- where the node after this one is that is not passed over
  abbrev pub next : Bool → ℕ → ℕ → ℕ
  next true e u = e
  next false e u = u

  -- what is gathered from the index i to the end e, where nothing is before the index u
  abbrev pub gather : ℕ → ℕ → ℕ → List N → List B
  gather e u i [] = []
  gather e u i (x ∷ xs) =
      cond (ltb i e)
      (cond (ltb i u) (gather e u (i + 1) xs)
      (at (kind x) ++ gather e (next (passed (kind x)) (end x) u) (i + 1) xs))
      []
