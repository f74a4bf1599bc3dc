-- Tests of nodes that read ahead what is below a node.
use Rattle.std.specs.Prelude.{ℕ, ◌+◌, Bool, false, ◌||◌, List, [], ◌∷◌, drop}
use Rattle.sql_flat_law.specs.Rose.{Rose, node, Roses, none, more}
use Rattle.sql_flat_law.specs.Forward.{gather}
use Rattle.sql_flat.specs.declared.kind.FlatKind.{FlatKind}
use Rattle.sql_flat.specs.declared.kind.FlatNode.{FlatNode}
use Rattle.sql_rules_check.specs.inside.Lists.{kind_of, end_of}

-- the test of a node of a tree, by its children
module _ (test : FlatKind → Roses FlatKind → Bool) where
  abbrev mutual
    pub any_over : Rose FlatKind → Bool
    any_over (node k ts) = test k ts || any_over_each ts

    pub any_over_each : Roses FlatKind → Bool
    any_over_each none = false
    any_over_each (more t ts) = any_over t || any_over_each ts

-- the test of a node of a list, by its index and what follows it
module _ (test : ℕ → FlatNode → List FlatNode → Bool) where
  abbrev pub any_ahead : ℕ → List FlatNode → Bool
  any_ahead i [] = false
  any_ahead i (x ∷ xs) = test i x xs || any_ahead (i + 1) xs

-- what is gathered of the nodes between two indices
module _ {B : Type 0} (at : FlatKind → List B) (passed : FlatKind → Bool) where
  abbrev pub gathered_from : ℕ → ℕ → List FlatNode → List B
  gathered_from e i nodes = gather kind_of end_of at passed e i i (drop i nodes)

  -- the same of those that follow the node at an index, up to its end
  abbrev pub gathered_behind : ℕ → FlatNode → List FlatNode → List B
  gathered_behind i x xs = gather kind_of end_of at passed x.end (i + 1) (i + 1) xs
