-- One level of each tree.
use Rattle.std.proofs.Common.{◌≡◌, ℤ, Option, Some, None, List, map, rules}
use Rattle.std.specs.Option.{option_map}
use Rattle.std.specs.declared.boxed.Box.{Box}
use Rattle.std.specs.declared.alloc.Global.{Global}
use Rattle.sql_dialect.specs.declared.backend.Dialect.{Dialect}
use Rattle.sql_dialect.specs.declared.combination.Combinator.{Combinator}
use Rattle.sql_dialect.specs.declared.combination.DuplicateRule.{DuplicateRule}
use Rattle.sql_leaf.specs.declared.position.PositionalItem.{PositionalItem}
use Rattle.sql_leaf.specs.declared.table_source.JoinKind.{JoinKind}
use Rattle.sql_schema.specs.declared.types.SqlType.{SqlType}
use Rattle.sql_pass.specs.declared.value.Value.{Value}
use Rattle.sql_build_syntax.specs.Tree as t
use Rattle.sql_build_syntax.specs.View.{Item, exprs_of, items_of, calls_of, maybe_of, call_tree, expr_tree, membership_tree, query_start_tree, source_tree, order_item_tree, query_tree, join_tree, call_level, expr_level, membership_level, query_start_level, source_level, order_item_level, query_level, join_level}
use Rattle.sql_build_syntax.specs.declared.call.Call.{Call, the_lemmas}
use Rattle.sql_build_syntax.specs.declared.call.ClauseCall.{ClauseCall}
use Rattle.sql_build_syntax.specs.declared.call.PlainCall.{PlainCall}
use Rattle.sql_build_syntax.specs.declared.expr.BinaryOperator.{BinaryOperator}
use Rattle.sql_build_syntax.specs.declared.expr.Expr.{Expr}
use Rattle.sql_build_syntax.specs.declared.expr.Membership.{Membership}
use Rattle.sql_build_syntax.specs.declared.expr.Quantified.{Quantified}
use Rattle.sql_build_syntax.specs.declared.expr.UnaryOperator.{UnaryOperator}
use Rattle.sql_build_syntax.specs.declared.name.AliasName.{AliasName}
use Rattle.sql_build_syntax.specs.declared.name.ColumnName.{ColumnName}
use Rattle.sql_build_syntax.specs.declared.name.FieldName.{FieldName}
use Rattle.sql_build_syntax.specs.declared.name.TableName.{TableName}
use Rattle.sql_build_syntax.specs.declared.order.OrderItem.{OrderItem, out-OrderItem, fold_out-OrderItem}
use Rattle.sql_build_syntax.specs.declared.query.Query.{Query, out-Query, fold_out-Query}
use Rattle.sql_build_syntax.specs.declared.query.QueryStart.{QueryStart}
use Rattle.sql_build_syntax.specs.declared.source.Join.{Join, out-Join, fold_out-Join}
use Rattle.sql_build_syntax.specs.declared.source.Source.{Source}
use Rattle.sql_build_syntax.specs.declared.call.Call.TheVariants as Call-V
use Rattle.sql_build_syntax.specs.declared.expr.Expr.TheVariants as Expr-V
use Rattle.sql_build_syntax.specs.declared.expr.Membership.TheVariants as Membership-V
use Rattle.sql_build_syntax.specs.declared.query.QueryStart.TheVariants as QueryStart-V
use Rattle.sql_build_syntax.specs.declared.source.Source.TheVariants as Source-V

pub order_item-out : (s : OrderItem)
    → order_item_tree s ≡ (expr_tree (out-OrderItem s).expr, (out-OrderItem s).direction)
order_item-out =
    fold_out-OrderItem t.Call t.Expr t.Membership t.Start t.Source Item t.Query t.Source call_level expr_level
    membership_level query_start_level source_level order_item_level query_level join_level

pub query-out : (s : Query)
    → query_tree s ≡ t.query (query_start_tree (out-Query s).start) (calls_of (map call_tree (out-Query s).calls))
query-out s = search (rules, the_lemmas, fold_out-Query)

pub join-out : (s : Join)
    → join_tree s
    ≡ t.join (out-Join s).kind (source_tree (out-Join s).left) (source_tree (out-Join s).right)
    (maybe_of (option_map expr_tree (out-Join s).on))
join-out s = search (rules, the_lemmas, fold_out-Join)

pub call-of_Plain : (x : PlainCall) → call_tree (Call-V.Plain x) ≡ t.plain x
call-of_Plain x = search (rules, the_lemmas)

pub call-of_Clause : (x : ClauseCall) → (y : Expr) → call_tree (Call-V.Clause x y) ≡ t.clause x (expr_tree y)
call-of_Clause x y = search (rules, the_lemmas)

pub call-of_Join : (x : JoinKind) → (y : Source) → (z : Option Expr)
    → call_tree (Call-V.Join x y z) ≡ t.join_with x (source_tree y) (maybe_of (option_map expr_tree z))
call-of_Join x y z = search (rules, the_lemmas)

pub call-of_Find : (x : List Expr) → call_tree (Call-V.Find x) ≡ t.find (exprs_of (map expr_tree x))
call-of_Find x = search (rules, the_lemmas)

pub call-of_Order : (x : List OrderItem) → call_tree (Call-V.Order x) ≡ t.order (items_of (map order_item_tree x))
call-of_Order x = search (rules, the_lemmas)

pub call-of_ThenOrderBy : (x : List OrderItem)
    → call_tree (Call-V.ThenOrderBy x) ≡ t.then_order_by (items_of (map order_item_tree x))
call-of_ThenOrderBy x = search (rules, the_lemmas)

pub call-of_Limit : (x : ℤ) → call_tree (Call-V.Limit x) ≡ t.limit x
call-of_Limit x = search (rules, the_lemmas)

pub call-of_Offset : (x : ℤ) → call_tree (Call-V.Offset x) ≡ t.offset x
call-of_Offset x = search (rules, the_lemmas)

pub call-of_IntoBoxed : (x : Option Dialect) → call_tree (Call-V.IntoBoxed x) ≡ t.into_boxed x
call-of_IntoBoxed x = search (rules, the_lemmas)

pub call-of_Combine : (x : Combinator) → (y : DuplicateRule) → (z : Query)
    → call_tree (Call-V.Combine x y z) ≡ t.combine x y (query_tree z)
call-of_Combine x y z = search (rules, the_lemmas)

pub call-of_PositionalOrderBy : (x : List PositionalItem)
    → call_tree (Call-V.PositionalOrderBy x) ≡ t.positional_order_by x
call-of_PositionalOrderBy x = search (rules, the_lemmas)

pub expr-of_List : (x : List Expr) → expr_tree (Expr-V.List x) ≡ t.list (exprs_of (map expr_tree x))
expr-of_List x = search (rules, the_lemmas)

pub expr-of_CountStar : expr_tree Expr-V.CountStar ≡ t.count_star
expr-of_CountStar = search (rules, the_lemmas)

pub expr-of_Column : (x : ColumnName) → expr_tree (Expr-V.Column x) ≡ t.column x
expr-of_Column x = search (rules, the_lemmas)

pub expr-of_Field : (x : FieldName) → expr_tree (Expr-V.Field x) ≡ t.field x
expr-of_Field x = search (rules, the_lemmas)

pub expr-of_Bind : (x : SqlType) → (y : Value) → expr_tree (Expr-V.Bind x y) ≡ t.bind x y
expr-of_Bind x y = search (rules, the_lemmas)

pub expr-of_Unary : (x : UnaryOperator) → (y : Box Expr Global)
    → expr_tree (Expr-V.Unary x y) ≡ t.unary x (expr_tree y.value)
expr-of_Unary x y = search (rules, the_lemmas)

pub expr-of_Binary : (x : BinaryOperator) → (y : Box Expr Global) → (z : Box Expr Global)
    → expr_tree (Expr-V.Binary x y z) ≡ t.binary x (expr_tree y.value) (expr_tree z.value)
expr-of_Binary x y z = search (rules, the_lemmas)

pub expr-of_Exists : (x : Box Query Global) → expr_tree (Expr-V.Exists x) ≡ t.exists (query_tree x.value)
expr-of_Exists x = search (rules, the_lemmas)

pub expr-of_SingleValue : (x : Box Query Global)
    → expr_tree (Expr-V.SingleValue x) ≡ t.single_value (query_tree x.value)
expr-of_SingleValue x = search (rules, the_lemmas)

pub expr-of_Quantified : (x : Quantified) → (y : Box Expr Global) → (z : Membership)
    → expr_tree (Expr-V.Quantified x y z) ≡ t.quantified x (expr_tree y.value) (membership_tree z)
expr-of_Quantified x y z = search (rules, the_lemmas)

pub membership-of_Values : (x : SqlType) → (y : List Value) → membership_tree (Membership-V.Values x y) ≡ t.values x y
membership-of_Values x y = search (rules, the_lemmas)

pub membership-of_Rows : (x : Box Query Global) → membership_tree (Membership-V.Rows x) ≡ t.rows (query_tree x.value)
membership-of_Rows x = search (rules, the_lemmas)

pub query_start-of_From : (x : Source) → query_start_tree (QueryStart-V.From x) ≡ t.from (source_tree x)
query_start-of_From x = search (rules, the_lemmas)

pub query_start-of_Select : (x : Expr) → query_start_tree (QueryStart-V.Select x) ≡ t.select (expr_tree x)
query_start-of_Select x = search (rules, the_lemmas)

pub source-of_Table : (x : TableName) → source_tree (Source-V.Table x) ≡ t.of_table x
source-of_Table x = search (rules, the_lemmas)

pub source-of_Alias : (x : AliasName) → source_tree (Source-V.Alias x) ≡ t.of_alias x
source-of_Alias x = search (rules, the_lemmas)

pub source-of_Join : (x : Box Join Global) → source_tree (Source-V.Join x) ≡ join_tree x.value
source-of_Join x = search (rules, the_lemmas)

pub ruleset opens_call = (call-of_Plain, call-of_Clause, call-of_Join, call-of_Find, call-of_Order, call-of_ThenOrderBy, call-of_Limit, call-of_Offset, call-of_IntoBoxed, call-of_Combine, call-of_PositionalOrderBy)

pub ruleset opens_expr = (expr-of_List, expr-of_CountStar, expr-of_Column, expr-of_Field, expr-of_Bind, expr-of_Unary, expr-of_Binary, expr-of_Exists, expr-of_SingleValue, expr-of_Quantified)

pub ruleset opens_membership = (membership-of_Values, membership-of_Rows)

pub ruleset opens_query_start = (query_start-of_From, query_start-of_Select)

pub ruleset opens_source = (source-of_Table, source-of_Alias, source-of_Join)

pub ruleset opens_order_item = (order_item-out)

pub ruleset opens_query = (query-out)

pub ruleset opens_join = (join-out)
