-- The plain tree of each syntax type: one level at a time, where what stands below is a tree already.
use Rattle.std.specs.Prelude.{List, [], ◌∷◌, Option, Some, None}
use Rattle.sql_leaf.specs.declared.position.Direction.{Direction}
use Rattle.sql_build_syntax.specs.Tree as t
use Rattle.sql_build_syntax.specs.declared.call.Call.{Call, Call-F, fold-Call}
use Rattle.sql_build_syntax.specs.declared.expr.Expr.{Expr, Expr-F, fold-Expr}
use Rattle.sql_build_syntax.specs.declared.expr.Membership.{Membership, Membership-F, fold-Membership}
use Rattle.sql_build_syntax.specs.declared.order.OrderItem.{OrderItem, OrderItem-F, fold-OrderItem}
use Rattle.sql_build_syntax.specs.declared.query.Query.{Query, Query-F, fold-Query}
use Rattle.sql_build_syntax.specs.declared.query.QueryStart.{QueryStart, QueryStart-F, fold-QueryStart}
use Rattle.sql_build_syntax.specs.declared.source.Join.{Join, Join-F, fold-Join}
use Rattle.sql_build_syntax.specs.declared.source.Source.{Source, Source-F, fold-Source}

abbrev pub Item : Type 0
Item = t.Expr × Direction

abbrev pub exprs_of : List t.Expr → t.Exprs
exprs_of [] = t.no_exprs
exprs_of (e ∷ es) = t.more_exprs e (exprs_of es)

abbrev pub items_of : List Item → t.Items
items_of [] = t.no_items
items_of (i ∷ is) = t.more_items i.0 i.1 (items_of is)

abbrev pub calls_of : List t.Call → t.Calls
calls_of [] = t.no_calls
calls_of (c ∷ cs) = t.more_calls c (calls_of cs)

abbrev pub maybe_of : Option t.Expr → t.MaybeExpr
maybe_of None = t.no_expr
maybe_of (Some e) = t.an_expr e

abbrev pub Level : (Type 0 → Type 0 → Type 0 → Type 0 → Type 0 → Type 0 → Type 0 → Type 0 → Type 0) → Type 0
Level F = F t.Call t.Expr t.Membership t.Start t.Source Item t.Query t.Source

abbrev pub call_level : Level Call-F → t.Call
call_level (Call-F.Plain x) = t.plain x
call_level (Call-F.Clause x y) = t.clause x y
call_level (Call-F.Call::Join x y z) = t.join_with x y (maybe_of z)
call_level (Call-F.Find x) = t.find (exprs_of x)
call_level (Call-F.Order x) = t.order (items_of x)
call_level (Call-F.ThenOrderBy x) = t.then_order_by (items_of x)
call_level (Call-F.Limit x) = t.limit x
call_level (Call-F.Offset x) = t.offset x
call_level (Call-F.IntoBoxed x) = t.into_boxed x
call_level (Call-F.Combine x y z) = t.combine x y z
call_level (Call-F.PositionalOrderBy x) = t.positional_order_by x

abbrev pub expr_level : Level Expr-F → t.Expr
expr_level (Expr-F.List x) = t.list (exprs_of x)
expr_level Expr-F.CountStar = t.count_star
expr_level (Expr-F.Column x) = t.column x
expr_level (Expr-F.Field x) = t.field x
expr_level (Expr-F.Bind x y) = t.bind x y
expr_level (Expr-F.Unary x y) = t.unary x y.value
expr_level (Expr-F.Binary x y z) = t.binary x y.value z.value
expr_level (Expr-F.Exists x) = t.exists x.value
expr_level (Expr-F.SingleValue x) = t.single_value x.value
expr_level (Expr-F.Quantified x y z) = t.quantified x y.value z

abbrev pub membership_level : Level Membership-F → t.Membership
membership_level (Membership-F.Values x y) = t.values x y
membership_level (Membership-F.Rows x) = t.rows x.value

abbrev pub query_start_level : Level QueryStart-F → t.Start
query_start_level (QueryStart-F.From x) = t.from x
query_start_level (QueryStart-F.Select x) = t.select x

abbrev pub source_level : Level Source-F → t.Source
source_level (Source-F.Table x) = t.of_table x
source_level (Source-F.Alias x) = t.of_alias x
source_level (Source-F.Source::Join x) = x.value

abbrev pub order_item_level : Level OrderItem-F → Item
order_item_level i = (i.expr, i.direction)

abbrev pub query_level : Level Query-F → t.Query
query_level q = t.query q.start (calls_of q.calls)

abbrev pub join_level : Level Join-F → t.Source
join_level j = t.join j.kind j.left j.right (maybe_of j.on)

abbrev pub call_tree : Call → t.Call
call_tree =
    fold-Call t.Call t.Expr t.Membership t.Start t.Source Item t.Query t.Source call_level expr_level membership_level
    query_start_level source_level order_item_level query_level join_level

abbrev pub expr_tree : Expr → t.Expr
expr_tree =
    fold-Expr t.Call t.Expr t.Membership t.Start t.Source Item t.Query t.Source call_level expr_level membership_level
    query_start_level source_level order_item_level query_level join_level

abbrev pub membership_tree : Membership → t.Membership
membership_tree =
    fold-Membership t.Call t.Expr t.Membership t.Start t.Source Item t.Query t.Source call_level expr_level
    membership_level query_start_level source_level order_item_level query_level join_level

abbrev pub query_start_tree : QueryStart → t.Start
query_start_tree =
    fold-QueryStart t.Call t.Expr t.Membership t.Start t.Source Item t.Query t.Source call_level expr_level
    membership_level query_start_level source_level order_item_level query_level join_level

abbrev pub source_tree : Source → t.Source
source_tree =
    fold-Source t.Call t.Expr t.Membership t.Start t.Source Item t.Query t.Source call_level expr_level membership_level
    query_start_level source_level order_item_level query_level join_level

abbrev pub order_item_tree : OrderItem → Item
order_item_tree =
    fold-OrderItem t.Call t.Expr t.Membership t.Start t.Source Item t.Query t.Source call_level expr_level
    membership_level query_start_level source_level order_item_level query_level join_level

abbrev pub query_tree : Query → t.Query
query_tree =
    fold-Query t.Call t.Expr t.Membership t.Start t.Source Item t.Query t.Source call_level expr_level membership_level
    query_start_level source_level order_item_level query_level join_level

abbrev pub join_tree : Join → t.Source
join_tree =
    fold-Join t.Call t.Expr t.Membership t.Start t.Source Item t.Query t.Source call_level expr_level membership_level
    query_start_level source_level order_item_level query_level join_level
