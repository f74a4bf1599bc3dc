-- A list of nodes that grows: what was appended, with indices from its length on.
use Rattle.std.specs.Prelude.{◌≡◌, ℕ, ◌+◌, List, [], ◌∷◌, ◌++◌, length}
use Rattle.sql_flat_law.specs.Rose.{Roses, node, one, joined, flats}

module _ {K N : Type 0} (make : K → ℕ → N) where
  -- the flat lists of these trees
  pub data Adds (old : List N) (ts : Roses K) (new : List N) : Type 0 where
    adds : new ≡ old ++ flats make (length old) ts [] → Adds old ts new

  -- a node of kind k, at this place and without its end yet, with the flat lists of its first children
  pub data Opens (old : List N) (k : K) (ts : Roses K) (at : ℕ) (new : List N) : Type 0 where
    opens : at ≡ length old → new ≡ old ++ make k 0 ∷ flats make (length old + 1) ts [] → Opens old k ts at new

  -- nothing, but the node at a place got its end, the list's length
  pub data Closes (old : List N) (at : ℕ) (new : List N) : Type 0 where
    closes : ((k : K) (e : ℕ) (before behind : List N) → old ≡ before ++ make k e ∷ behind → at ≡ length before
        → new ≡ before ++ make k (length old) ∷ behind)
        → Closes old at new

  -- the last children of the node that was opened at a place, and its end
  pub data Finishes (old : List N) (at : ℕ) (us : Roses K) (new : List N) : Type 0 where
    finishes : ((before : List N) (k : K) (ts : Roses K) → Opens before k ts at old
        → Adds before (one (node k (joined ts us))) new)
        → Finishes old at us new
