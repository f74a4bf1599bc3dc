-- The tree of an item of an order.
use Rattle.sql_node.specs.View.{Item}
use Rattle.sql_flat_law.specs.Rose.{Rose, node, one}
use Rattle.sql_flat.specs.declared.kind.FlatKind.{FlatKind}
use Rattle.sql_flat.specs.declared.kind.FlatKind.TheVariants as K
use Rattle.sql_flat.specs.Flat.{expr_rose}

abbrev pub item_rose : Item → Rose FlatKind
item_rose i = node (K.Item i.1) (one (expr_rose i.0))
