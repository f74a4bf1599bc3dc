-- A test of nodes by what their children give, over all nodes of a list and of a tree.
use Rattle.std.specs.Prelude.{ℕ, ◌+◌, Bool, false, ◌||◌, List, [], ◌∷◌}
use Rattle.sql_flat_law.specs.Rose.{Rose, node, Roses, none, more}
use Rattle.sql_flat_law.specs.Backward.{run}
use Rattle.sql_flat_law.specs.Finished.{before}
use Rattle.sql_flat_law.specs.Folds.{folded_each}

module _ {K A : Type 0} (over : K → List A → A) (test : K → List A → Bool) where
  abbrev mutual
    pub any_node : Rose K → Bool
    any_node (node k ts) = test k (folded_each over ts) || any_node_of ts

    pub any_node_of : Roses K → Bool
    any_node_of none = false
    any_node_of (more t ts) = any_node t || any_node_of ts

  -- the nodes from the index i on
  module _ {N : Type 0} (kind : N → K) (end : N → ℕ) where
    abbrev pub any_from : ℕ → List N → Bool
    any_from i [] = false
    any_from i (x ∷ xs) =
        test (kind x) (before (end x) (run kind end over (i + 1) xs)).0 || any_from (i + 1) xs
