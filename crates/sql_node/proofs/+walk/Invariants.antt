use Rattle.std.proofs.Common.{◌≡◌, drop, map, Result, List}
use Rattle.sql_pass.specs.Commas.{commas}
use Rattle.sql_pass.specs.Held.{Held, held}
use Rattle.sql_pass.specs.Walks.{Walks}
use Rattle.sql_pass.specs.declared.pass.PassError.{PassError}
use Rattle.sql_node.specs.View.{expr_tree, order_item_tree}
use Rattle.sql_dialect.specs.declared.backend.Dialect.{Dialect}
use Rattle.sql_pass.specs.Pieces.{Piece}
use Rattle.sql_node.specs.Pieces.{Written, expr_parts, item_pieces, stays}
use Rattle.sql_node.specs.declared.expr.Expr.{Expr}
use Rattle.sql_node.specs.declared.order.OrderItem.{OrderItem}
use Rattle.sql_node.proofs.Lists.{all_of}
use Rattle.sql_node.proofs.+walk.Given as goal

abbrev pub parts : Dialect → Expr → Written
parts d e = expr_parts d (expr_tree e)

abbrev pub item_written : Dialect → OrderItem → List Piece
item_written d i = item_pieces d (order_item_tree i)

abbrev pub invariant-list::walk_list-loop-expr : goal.invariant-list::walk_list-loop-expr
invariant-list::walk_list-loop-expr g l =
    let at = held g.DB.QueryBuilder.QueryBuilder.text g.DB.QueryBuilder.QueryBuilder.count in
    ((r : Result (Unit {0}) PassError) (k : Held g.row.DB.Denot)
    → Walks g.DB.Backend.speaks (at l.pass)
    (commas l.first (all_of (parts g.DB.Backend.speaks) (drop l.expr-index l.items))) r k
    → Walks g.DB.Backend.speaks (at l.initial.pass)
    (commas l.initial.first (all_of (parts g.DB.Backend.speaks) l.items)) r k)
    × (stays l.first (all_of (parts g.DB.Backend.speaks) (drop l.expr-index l.items))
    ≡ stays l.initial.first (all_of (parts g.DB.Backend.speaks) l.items))

abbrev pub invariant-order::walk_items-loop-item : goal.invariant-order::walk_items-loop-item
invariant-order::walk_items-loop-item g l =
    let at = held g.DB.QueryBuilder.QueryBuilder.text g.DB.QueryBuilder.QueryBuilder.count in
    (r : Result (Unit {0}) PassError) (k : Held g.row.DB.Denot)
    → Walks g.DB.Backend.speaks (at l.pass)
    (commas l.first (map (item_written g.DB.Backend.speaks) (drop l.item-index l.items))) r k
    → Walks g.DB.Backend.speaks (at l.initial.pass)
    (commas l.initial.first (map (item_written g.DB.Backend.speaks) l.items)) r k
