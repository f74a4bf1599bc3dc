-- A tree of nodes without their values, and perhaps without the values of lists.
use Rattle.std.specs.Prelude.{Bool, true, false, not, List, [], if◌then◌else◌}
use Rattle.sql_pass.specs.declared.value.Value.{Value}
use Rattle.sql_flat_law.specs.Rose.{Rose, node, Roses, none, more, one, joined}
use Rattle.sql_flat.specs.declared.kind.FlatKind.{FlatKind}
use Rattle.sql_flat.specs.declared.kind.FlatKind.TheVariants as K
use Rattle.sql_shape.specs.Shape.{nulls}
use Rattle.sql_key.specs.Blank.{blank_kind}

-- what stands for a list of values
abbrev pub many : Bool → List Value → List Value
many true xs = nulls xs
many false xs = []

abbrev pub is_element : FlatKind → Bool
is_element (K.Element t v) = true
is_element k = false

-- whether a node goes: where lists of values go, their values
abbrev pub goes : Bool → FlatKind → Bool
goes lists (K.Element t v) = not lists
goes lists k = false

module _ (lists : Bool) where
  abbrev mutual
    pub swept : Rose FlatKind → Roses FlatKind
    swept (node k ts) = if goes lists k then swept_each ts else one (node (blank_kind k) (swept_each ts))

    pub swept_each : Roses FlatKind → Roses FlatKind
    swept_each none = none
    swept_each (more t ts) = joined (swept t) (swept_each ts)
