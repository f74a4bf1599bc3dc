-- The nodes that a way through a flat list meets, from the first to the last, each with what is read ahead of it.
use Rattle.std.specs.Prelude.{ℕ, ◌+◌, ◌&&◌, Bool, true, cond, if◌then◌else◌, List, [], ◌∷◌, drop}
use Rattle.std.proofs.Common.{ltb}
use Rattle.sql_flat_law.specs.Rose.{Rose, node, Roses, none, more}
use Rattle.sql_flat.specs.declared.kind.FlatKind.{FlatKind}
use Rattle.sql_flat.specs.declared.kind.FlatNode.{FlatNode}
use Rattle.sql_rules_check.specs.declared.walk.Walk.{Walk}
use denote.Ref.{Bor}

abbrev pub all_passed : FlatKind → Bool
all_passed k = true

-- of a list: `at` of a node by its index and what follows it, but for what is below nodes that are passed over
module _ {B : Type 0} (passed : FlatKind → Bool) (at : ℕ → FlatNode → List FlatNode → B) where
  -- up to the end e, where nothing is before the index u
  abbrev pub met : ℕ → ℕ → ℕ → List FlatNode → List B
  met e u i [] = []
  met e u i (x ∷ xs) =
      cond (ltb i e)
      (cond (ltb i u) (met e u (i + 1) xs) (at i x xs ∷ met e (cond (passed x.kind) x.end u) (i + 1) xs))
      []

  abbrev pub met_from : ℕ → ℕ → List FlatNode → List B
  met_from e i nodes = met e i i (drop i nodes)

-- the index of the node after the one at p
abbrev pub after : (FlatKind → Bool) → ℕ → FlatNode → ℕ
after passed p x = if passed x.kind && ltb p x.end then x.end else p + 1

-- of a child, where all are passed over
module _ {B : Type 0} (at : ℕ → FlatNode → List FlatNode → B) where
  abbrev pub kids : ℕ → ℕ → ℕ → List FlatNode → List B
  kids = met all_passed at

  abbrev pub kids_from : ℕ → ℕ → List FlatNode → List B
  kids_from = met_from all_passed at

  -- of those that follow the node at an index, up to its end
  abbrev pub kids_behind : ℕ → FlatNode → List FlatNode → List B
  kids_behind i x xs = kids x.end (i + 1) (i + 1) xs

-- the nodes themselves, each with its index
abbrev pub node_at : ℕ → FlatNode → List FlatNode → ℕ × FlatNode
node_at i x xs = (i, x)

abbrev pub nodes_from : (FlatKind → Bool) → ℕ → ℕ → List FlatNode → List (ℕ × FlatNode)
nodes_from passed = met_from passed node_at

abbrev pub nodes_left : {P : Type 0} → (FlatKind → Bool) → Walk P → List (ℕ × FlatNode)
nodes_left passed w = nodes_from passed w.end w.index w.nodes.now

abbrev pub node_of : ℕ × Bor FlatNode → ℕ × FlatNode
node_of c = (c.0, c.1.now)

-- of a tree
module _ {B : Type 0} (of : FlatKind → Roses FlatKind → B) where
  abbrev pub kid_of : Rose FlatKind → B
  kid_of (node k ts) = of k ts

  abbrev pub kids_of : Roses FlatKind → List B
  kids_of none = []
  kids_of (more t ts) = kid_of t ∷ kids_of ts
