-- The nodes of a list of parts: those of each element.
use Rattle.std.proofs.Common.{◌≡◌, List, [], ◌∷◌, map, refl, ap}
use Rattle.sql_schema.specs.declared.types.SqlType.{SqlType}
use Rattle.sql_pass.specs.declared.value.Value.{Value}
use Rattle.sql_leaf.specs.declared.position.PositionalItem.{PositionalItem}
use Rattle.sql_node.specs.View.{expr_tree, exprs_of, items_of, order_item_tree}
use Rattle.sql_node.specs.declared.expr.Expr.{Expr}
use Rattle.sql_node.specs.declared.order.OrderItem.{OrderItem}
use Rattle.sql_flat_law.specs.Rose.{Rose, leaf, more, roses_of}
use Rattle.sql_flat.specs.Flat.{expr_rose, exprs_roses, items_roses}
use Rattle.sql_flat.specs.inside.Items.{item_rose}
use Rattle.sql_flat.specs.declared.kind.FlatKind.{FlatKind}
use Rattle.sql_flat.specs.declared.kind.FlatKind.TheVariants as K

abbrev pub of_expr : Expr → Rose FlatKind
of_expr e = expr_rose (expr_tree e)

abbrev pub of_item : OrderItem → Rose FlatKind
of_item i = item_rose (order_item_tree i)

abbrev pub of_position : PositionalItem → Rose FlatKind
of_position p = leaf (K.Position p)

abbrev pub of_element : SqlType → Value → Rose FlatKind
of_element t v = leaf (K.Element t v)

pub exprs-nodes : (es : List Expr) → exprs_roses (exprs_of (map expr_tree es)) ≡ roses_of of_expr es
exprs-nodes [] = refl
exprs-nodes (e ∷ es) = ap (more (of_expr e)) (exprs-nodes es)

pub items-nodes : (es : List OrderItem) → items_roses (items_of (map order_item_tree es)) ≡ roses_of of_item es
items-nodes [] = refl
items-nodes (e ∷ es) = ap (more (of_item e)) (items-nodes es)
