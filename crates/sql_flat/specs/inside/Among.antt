-- The tree of what a membership looks in.
use Rattle.std.specs.Prelude.{Bool, true, false}
use Rattle.sql_node.specs.View.{Among, among_list, among_query}
use Rattle.sql_flat_law.specs.Rose.{Rose, node, leaf, roses_of}
use Rattle.sql_flat.specs.declared.kind.FlatKind.{FlatKind}
use Rattle.sql_flat.specs.declared.kind.FlatKind.TheVariants as K
use Rattle.sql_flat.specs.Flat.{rose}

abbrev pub looks_in_list : Among → Bool
looks_in_list (among_list t vs) = true
looks_in_list (among_query q) = false

abbrev pub among_rose : Among → Rose FlatKind
among_rose (among_list t vs) = node (K.Values t) (roses_of (λ v. leaf (K.Element t v)) vs)
among_rose (among_query q) = rose q
