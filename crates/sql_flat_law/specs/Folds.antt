-- The results of a tree: from below, from above, and gathered with parts left out.
use Rattle.std.specs.Prelude.{List, [], ◌∷◌, ◌++◌, Bool, if◌then◌else◌}
use Rattle.sql_flat_law.specs.Rose.{Rose, node, Roses, none, more}

-- from below: what a node of a kind gives over what its children give, from left to right
module _ {K A : Type 0} (over : K → List A → A) where
  abbrev mutual
    pub folded : Rose K → A
    folded (node k ts) = over k (folded_each ts)

    pub folded_each : Roses K → List A
    folded_each none = []
    folded_each (more t ts) = folded t ∷ folded_each ts

-- a node, what is known around it, and what is known within it
pub record Site (V K : Type 0) : Type 0 where
  pub around : V
  pub kind : K
  pub within : V

-- from above: what is known within a node, by what is known around it
module _ {V K : Type 0} (below : V → K → Roses K → V) where
  abbrev mutual
    pub sites : V → Rose K → List (Site V K)
    sites v (node k ts) =
        record { around = v; kind = k; within = below v k ts } ∷ sites_of (below v k ts) ts

    pub sites_of : V → Roses K → List (Site V K)
    sites_of v none = []
    sites_of v (more t ts) = sites v t ++ sites_of v ts

-- in the order of the list, without what is inside nodes that are passed over
module _ {K B : Type 0} (at : K → List B) (passed : K → Bool) where
  abbrev mutual
    pub gathered : Rose K → List B
    gathered (node k ts) = at k ++ (if passed k then [] else gathered_each ts)

    pub gathered_each : Roses K → List B
    gathered_each none = []
    gathered_each (more t ts) = gathered t ++ gathered_each ts
