-- Without the values alone, a tree is mapped node by node.
use Rattle.std.proofs.Common.{◌≡◌, Bool, true, false, refl, ap, sym, ◌∙◌}
use Rattle.sql_node.specs.Tree.{Statement}
use Rattle.sql_flat_law.specs.Rose.{Rose, node, Roses, none, more, one, joined, flat, flats, rose_map, roses_map}
use Rattle.sql_flat_law.proofs.Maps.{list-map}
use Rattle.sql_flat.specs.Flat.{flat_node, flat_of, rose}
use Rattle.sql_flat.specs.declared.kind.FlatKind.{FlatKind}
use Rattle.sql_flat.specs.declared.kind.FlatKind.TheVariants as K
use Rattle.std.proofs.Common.{map, List, []}
use Rattle.sql_shape.specs.Shape.{nulls, shape}
use Rattle.sql_key.specs.Keys.{key}
use Rattle.sql_key.specs.Blank.{blank_kind, blank_node}
use Rattle.sql_key.specs.inside.Swept.{goes, swept, swept_each}
use Rattle.sql_key.proofs.Sweeping.{statement-swept}

none-goes : (k : FlatKind) → goes true k ≡ false
none-goes (K.Element t v) = refl
none-goes k = refl

mutual
  swept-map : (t : Rose FlatKind) → swept true t ≡ one (rose_map blank_kind t)
  swept-map (node k ts) = rw (none-goes k) (ap (λ us. one (node (blank_kind k) us)) (swepts-map ts))

  swepts-map : (ts : Roses FlatKind) → swept_each true ts ≡ roses_map blank_kind ts
  swepts-map none = refl
  swepts-map (more t ts) = λ i. joined (swept-map t i) (swepts-map ts i)

-- the key is the flat list, each node without its value
pub key-blank : (s : Statement) → key s ≡ map blank_node (flat_of s)
key-blank s =
    ap (λ ts. flats flat_node 0 ts []) (sym (statement-swept true s) ∙ swept-map (rose s))
    ∙ list-map flat_node flat_node blank_kind blank_node (λ k e. refl) (rose s)

pub ruleset blanks = (key-blank)
