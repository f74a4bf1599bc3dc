-- Items after items.
use Rattle.std.proofs.Common.{◌≡◌, List, [], ◌∷◌, ◌++◌, map, refl, ap}
use Rattle.sql_node.specs.Tree.{more_items}
use Rattle.sql_node.specs.View.{items_of, order_item_tree}
use Rattle.sql_node.specs.declared.order.OrderItem.{OrderItem}
use Rattle.sql_select.specs.Changes.{items_then}

pub items_of-append : (xs ys : List OrderItem)
    → items_of (map order_item_tree (xs ++ ys))
    ≡ items_then (items_of (map order_item_tree xs)) (items_of (map order_item_tree ys))
items_of-append [] ys = refl
items_of-append (x ∷ xs) ys = ap (more_items (order_item_tree x).0 (order_item_tree x).1) (items_of-append xs ys)

pub ruleset appends = (items_of-append)
