-- One level of each node's tree.
use Rattle.std.proofs.Common.{◌≡◌, Bool, true, false, Option, Some, None, List, map, rules}
use Rattle.std.specs.Option.{option_map}
use Rattle.std.specs.declared.boxed.Box.{Box}
use Rattle.std.specs.declared.alloc.Global.{Global}
use Rattle.sql_schema.specs.Columns.{DeclaredColumn}
use Rattle.sql_schema.specs.declared.types.SqlType.{SqlType}
use Rattle.sql_pass.specs.declared.value.Value.{Value}
use Rattle.sql_leaf.specs.declared.alias.Alias.{Alias}
use Rattle.sql_leaf.specs.declared.alias.AliasedField.{AliasedField}
use Rattle.sql_leaf.specs.declared.table_source.TableSource.{TableSource}
use Rattle.sql_leaf.specs.declared.operator.Unary.TheVariants.{Not, IsNull, IsNotNull}
use Rattle.sql_leaf.specs.declared.operator.Comparison.TheVariants.{Eq, Ne, Lt, Le, Gt, Ge}
use Rattle.sql_leaf.specs.declared.operator.Logic.TheVariants.{And, Or}
use Rattle.sql_node.specs.Tree as t
use Rattle.sql_node.specs.View.{Among, among_list, among_query, Selected, Item, Sides, exprs_of, items_of, maybe_of, among_of, column_of, field_of, distinct_clause_tree, from_clause_tree, group_by_clause_tree, having_clause_tree, select_clause_tree, where_clause_tree, expr_tree, in_values_tree, order_clause_tree, source_tree, statement_tree, boxed_select_statement_tree, combination_clause_tree, order_item_tree, join_tree, join_on_tree, select_statement_tree, distinct_clause_level, from_clause_level, group_by_clause_level, having_clause_level, select_clause_level, where_clause_level, expr_level, in_values_level, order_clause_level, source_level, statement_level, boxed_select_statement_level, combination_clause_level, order_item_level, join_level, join_on_level, select_statement_level}
use Rattle.sql_node.specs.declared.clause.DistinctClause.{DistinctClause, out-DistinctClause, fold_out-DistinctClause}
use Rattle.sql_node.specs.declared.clause.FromClause.{FromClause, out-FromClause, fold_out-FromClause}
use Rattle.sql_node.specs.declared.clause.GroupByClause.{GroupByClause, out-GroupByClause, fold_out-GroupByClause}
use Rattle.sql_node.specs.declared.clause.HavingClause.{HavingClause, out-HavingClause, fold_out-HavingClause}
use Rattle.sql_node.specs.declared.clause.SelectClause.{SelectClause, out-SelectClause, fold_out-SelectClause}
use Rattle.sql_node.specs.declared.clause.WhereClause.{WhereClause, out-WhereClause, fold_out-WhereClause}
use Rattle.sql_node.specs.declared.expr.Expr.{Expr, out-Expr, fold_out-Expr, the_lemmas}
use Rattle.sql_node.specs.declared.expr.InValues.{InValues, out-InValues, fold_out-InValues}
use Rattle.sql_node.specs.declared.order.OrderClause.{OrderClause, out-OrderClause, fold_out-OrderClause}
use Rattle.sql_node.specs.declared.source.Source.{Source, out-Source, fold_out-Source}
use Rattle.sql_node.specs.declared.statement.Statement.{Statement, out-Statement, fold_out-Statement}
use Rattle.sql_node.specs.declared.boxed.BoxedSelectStatement.{BoxedSelectStatement, out-BoxedSelectStatement, fold_out-BoxedSelectStatement}
use Rattle.sql_node.specs.declared.combination.CombinationClause.{CombinationClause, out-CombinationClause, fold_out-CombinationClause}
use Rattle.sql_node.specs.declared.order.OrderItem.{OrderItem, out-OrderItem, fold_out-OrderItem}
use Rattle.sql_node.specs.declared.source.Join.{Join, out-Join, fold_out-Join}
use Rattle.sql_node.specs.declared.source.JoinOn.{JoinOn, out-JoinOn, fold_out-JoinOn}
use Rattle.sql_node.specs.declared.statement.SelectStatement.{SelectStatement, out-SelectStatement, fold_out-SelectStatement}
use Rattle.sql_node.specs.declared.clause.DistinctClause.TheVariants as DistinctClause-V
use Rattle.sql_node.specs.declared.clause.FromClause.TheVariants as FromClause-V
use Rattle.sql_node.specs.declared.clause.GroupByClause.TheVariants as GroupByClause-V
use Rattle.sql_node.specs.declared.clause.HavingClause.TheVariants as HavingClause-V
use Rattle.sql_node.specs.declared.clause.SelectClause.TheVariants as SelectClause-V
use Rattle.sql_node.specs.declared.clause.WhereClause.TheVariants as WhereClause-V
use Rattle.sql_node.specs.declared.expr.Expr.TheVariants as Expr-V
use Rattle.sql_node.specs.declared.expr.InValues.TheVariants as InValues-V
use Rattle.sql_node.specs.declared.order.OrderClause.TheVariants as OrderClause-V
use Rattle.sql_node.specs.declared.source.Source.TheVariants as Source-V
use Rattle.sql_node.specs.declared.statement.Statement.TheVariants as Statement-V

pub order_item-out : (s : OrderItem)
    → order_item_tree s ≡ (expr_tree (out-OrderItem s).expr, (out-OrderItem s).direction)
order_item-out =
    fold_out-OrderItem t.Distinct t.From t.MaybeExpr t.MaybeExpr Selected t.MaybeExpr t.Expr Among t.Order t.Source
    t.Statement t.Statement t.Statement Item Sides t.Source t.Statement distinct_clause_level from_clause_level
    group_by_clause_level having_clause_level select_clause_level where_clause_level expr_level in_values_level
    order_clause_level source_level statement_level boxed_select_statement_level combination_clause_level
    order_item_level join_level join_on_level select_statement_level

pub join-out : (s : Join)
    → join_tree s ≡ (source_tree (out-Join s).left, source_tree (out-Join s).right, (out-Join s).kind)
join-out =
    fold_out-Join t.Distinct t.From t.MaybeExpr t.MaybeExpr Selected t.MaybeExpr t.Expr Among t.Order t.Source
    t.Statement t.Statement t.Statement Item Sides t.Source t.Statement distinct_clause_level from_clause_level
    group_by_clause_level having_clause_level select_clause_level where_clause_level expr_level in_values_level
    order_clause_level source_level statement_level boxed_select_statement_level combination_clause_level
    order_item_level join_level join_on_level select_statement_level

pub join_on-out : (s : JoinOn)
    → join_on_tree s
    ≡ t.join (join_tree (out-JoinOn s).join).2 (join_tree (out-JoinOn s).join).0 (join_tree (out-JoinOn s).join).1
    (maybe_of (option_map expr_tree (out-JoinOn s).on))
join_on-out s = search (rules, the_lemmas, fold_out-JoinOn)

pub select_statement-out : (s : SelectStatement)
    → select_statement_tree s
    ≡ t.select (select_clause_tree (out-SelectStatement s).select).0
    (select_clause_tree (out-SelectStatement s).select).1 (from_clause_tree (out-SelectStatement s).from)
    (distinct_clause_tree (out-SelectStatement s).distinct)
    (where_clause_tree (out-SelectStatement s).where_clause) (order_clause_tree (out-SelectStatement s).order)
    (out-SelectStatement s).limit_offset (group_by_clause_tree (out-SelectStatement s).group_by)
    (having_clause_tree (out-SelectStatement s).having) (t.unboxed (out-SelectStatement s).locking)
    (out-SelectStatement s).marks
select_statement-out =
    fold_out-SelectStatement t.Distinct t.From t.MaybeExpr t.MaybeExpr Selected t.MaybeExpr t.Expr Among t.Order
    t.Source t.Statement t.Statement t.Statement Item Sides t.Source t.Statement distinct_clause_level
    from_clause_level group_by_clause_level having_clause_level select_clause_level where_clause_level expr_level
    in_values_level order_clause_level source_level statement_level boxed_select_statement_level
    combination_clause_level order_item_level join_level join_on_level select_statement_level

pub boxed_select_statement-out : (s : BoxedSelectStatement)
    → boxed_select_statement_tree s
    ≡ t.select (select_clause_tree (out-BoxedSelectStatement s).select).0
    (select_clause_tree (out-BoxedSelectStatement s).select).1
    (from_clause_tree (out-BoxedSelectStatement s).from)
    (distinct_clause_tree (out-BoxedSelectStatement s).distinct)
    (where_clause_tree (out-BoxedSelectStatement s).where_clause)
    (order_clause_tree (out-BoxedSelectStatement s).order) (out-BoxedSelectStatement s).limit_offset
    (group_by_clause_tree (out-BoxedSelectStatement s).group_by)
    (having_clause_tree (out-BoxedSelectStatement s).having)
    (t.boxed (out-BoxedSelectStatement s).dialect (out-BoxedSelectStatement s).nullable)
    (out-BoxedSelectStatement s).marks
boxed_select_statement-out =
    fold_out-BoxedSelectStatement t.Distinct t.From t.MaybeExpr t.MaybeExpr Selected t.MaybeExpr t.Expr Among t.Order
    t.Source t.Statement t.Statement t.Statement Item Sides t.Source t.Statement distinct_clause_level
    from_clause_level group_by_clause_level having_clause_level select_clause_level where_clause_level expr_level
    in_values_level order_clause_level source_level statement_level boxed_select_statement_level
    combination_clause_level order_item_level join_level join_on_level select_statement_level

pub combination_clause-out : (s : CombinationClause)
    → combination_clause_tree s
    ≡ t.combination (out-CombinationClause s).combinator (out-CombinationClause s).duplicate_rule
    (statement_tree (out-CombinationClause s).source.value) (statement_tree (out-CombinationClause s).rhs.value)
    (out-CombinationClause s).order (out-CombinationClause s).limit_offset
combination_clause-out =
    fold_out-CombinationClause t.Distinct t.From t.MaybeExpr t.MaybeExpr Selected t.MaybeExpr t.Expr Among t.Order
    t.Source t.Statement t.Statement t.Statement Item Sides t.Source t.Statement distinct_clause_level
    from_clause_level group_by_clause_level having_clause_level select_clause_level where_clause_level expr_level
    in_values_level order_clause_level source_level statement_level boxed_select_statement_level
    combination_clause_level order_item_level join_level join_on_level select_statement_level

pub expr-of_Column : (x : DeclaredColumn) → expr_tree (Expr-V.Column x) ≡ column_of x
expr-of_Column x = search (rules, the_lemmas)

pub expr-of_Field : (x : AliasedField) → expr_tree (Expr-V.Field x) ≡ field_of x
expr-of_Field x = search (rules, the_lemmas)

pub expr-of_Value : (x : SqlType) → (y : Value) → expr_tree (Expr-V.Value x y) ≡ t.value x y
expr-of_Value x y = search (rules, the_lemmas)

pub expr-of_List : (x : List Expr) → expr_tree (Expr-V.List x) ≡ t.list (exprs_of (map expr_tree x))
expr-of_List x = search (rules, the_lemmas)

pub expr-of_CountStar : expr_tree Expr-V.CountStar ≡ t.count_star
expr-of_CountStar = search (rules, the_lemmas)

pub expr-of_Nullable : (x : Box Expr Global) → expr_tree (Expr-V.Nullable x) ≡ t.nullable (expr_tree x.value)
expr-of_Nullable x = search (rules, the_lemmas)

pub expr-of_Not : (x : Box Expr Global) → expr_tree (Expr-V.Not x) ≡ t.unary Not (expr_tree x.value)
expr-of_Not x = search (rules, the_lemmas)

pub expr-of_IsNull : (x : Box Expr Global) → expr_tree (Expr-V.IsNull x) ≡ t.unary IsNull (expr_tree x.value)
expr-of_IsNull x = search (rules, the_lemmas)

pub expr-of_IsNotNull : (x : Box Expr Global) → expr_tree (Expr-V.IsNotNull x) ≡ t.unary IsNotNull (expr_tree x.value)
expr-of_IsNotNull x = search (rules, the_lemmas)

pub expr-of_Count : (x : Box Expr Global) → expr_tree (Expr-V.Count x) ≡ t.count (expr_tree x.value)
expr-of_Count x = search (rules, the_lemmas)

pub expr-of_Exists : (x : Box Statement Global) → expr_tree (Expr-V.Exists x) ≡ t.exists (statement_tree x.value)
expr-of_Exists x = search (rules, the_lemmas)

pub expr-of_Subselect : (x : Box Statement Global) → expr_tree (Expr-V.Subselect x) ≡ t.single (statement_tree x.value)
expr-of_Subselect x = search (rules, the_lemmas)

pub expr-of_Eq : (x : Box Expr Global) → (y : Box Expr Global)
    → expr_tree (Expr-V.Eq x y) ≡ t.compared Eq (expr_tree x.value) (expr_tree y.value)
expr-of_Eq x y = search (rules, the_lemmas)

pub expr-of_Ne : (x : Box Expr Global) → (y : Box Expr Global)
    → expr_tree (Expr-V.Ne x y) ≡ t.compared Ne (expr_tree x.value) (expr_tree y.value)
expr-of_Ne x y = search (rules, the_lemmas)

pub expr-of_Gt : (x : Box Expr Global) → (y : Box Expr Global)
    → expr_tree (Expr-V.Gt x y) ≡ t.compared Gt (expr_tree x.value) (expr_tree y.value)
expr-of_Gt x y = search (rules, the_lemmas)

pub expr-of_Ge : (x : Box Expr Global) → (y : Box Expr Global)
    → expr_tree (Expr-V.Ge x y) ≡ t.compared Ge (expr_tree x.value) (expr_tree y.value)
expr-of_Ge x y = search (rules, the_lemmas)

pub expr-of_Lt : (x : Box Expr Global) → (y : Box Expr Global)
    → expr_tree (Expr-V.Lt x y) ≡ t.compared Lt (expr_tree x.value) (expr_tree y.value)
expr-of_Lt x y = search (rules, the_lemmas)

pub expr-of_Le : (x : Box Expr Global) → (y : Box Expr Global)
    → expr_tree (Expr-V.Le x y) ≡ t.compared Le (expr_tree x.value) (expr_tree y.value)
expr-of_Le x y = search (rules, the_lemmas)

pub expr-of_And : (x : Box Expr Global) → (y : Box Expr Global)
    → expr_tree (Expr-V.And x y) ≡ t.joined And (expr_tree x.value) (expr_tree y.value)
expr-of_And x y = search (rules, the_lemmas)

pub expr-of_Or : (x : Box Expr Global) → (y : Box Expr Global)
    → expr_tree (Expr-V.Or x y) ≡ t.joined Or (expr_tree x.value) (expr_tree y.value)
expr-of_Or x y = search (rules, the_lemmas)

pub expr-of_EqAny : (x : Box Expr Global) → (y : InValues)
    → expr_tree (Expr-V.EqAny x y) ≡ among_of false (expr_tree x.value) (in_values_tree y)
expr-of_EqAny x y = search (rules, the_lemmas)

pub expr-of_NeAll : (x : Box Expr Global) → (y : InValues)
    → expr_tree (Expr-V.NeAll x y) ≡ among_of true (expr_tree x.value) (in_values_tree y)
expr-of_NeAll x y = search (rules, the_lemmas)

pub in_values-of_List : (x : SqlType) → (y : List Value) → in_values_tree (InValues-V.List x y) ≡ among_list x y
in_values-of_List x y = search (rules, the_lemmas)

pub in_values-of_Query : (x : Box Statement Global)
    → in_values_tree (InValues-V.Query x) ≡ among_query (statement_tree x.value)
in_values-of_Query x = search (rules, the_lemmas)

pub source-of_Table : (x : TableSource) → source_tree (Source-V.Table x) ≡ t.of_table x.table x.only x.sample
source-of_Table x = search (rules, the_lemmas)

pub source-of_Alias : (x : Alias) → source_tree (Source-V.Alias x) ≡ t.of_alias x.name x.table
source-of_Alias x = search (rules, the_lemmas)

pub source-of_Join : (x : Box JoinOn Global) → source_tree (Source-V.Join x) ≡ join_on_tree x.value
source-of_Join x = search (rules, the_lemmas)

pub from_clause-of_NoFromClause : from_clause_tree FromClause-V.NoFromClause ≡ t.no_source
from_clause-of_NoFromClause = search (rules, the_lemmas)

pub from_clause-of_FromClause : (x : Source) → from_clause_tree (FromClause-V.FromClause x) ≡ t.from (source_tree x)
from_clause-of_FromClause x = search (rules, the_lemmas)

pub select_clause-of_DefaultSelectClause : (x : Expr)
    → select_clause_tree (SelectClause-V.DefaultSelectClause x) ≡ (true, expr_tree x)
select_clause-of_DefaultSelectClause x = search (rules, the_lemmas)

pub select_clause-of_SelectClause : (x : Expr)
    → select_clause_tree (SelectClause-V.SelectClause x) ≡ (false, expr_tree x)
select_clause-of_SelectClause x = search (rules, the_lemmas)

pub distinct_clause-of_NoDistinctClause : distinct_clause_tree DistinctClause-V.NoDistinctClause ≡ t.every
distinct_clause-of_NoDistinctClause = search (rules, the_lemmas)

pub distinct_clause-of_DistinctClause : distinct_clause_tree DistinctClause-V.DistinctClause ≡ t.distinct
distinct_clause-of_DistinctClause = search (rules, the_lemmas)

pub distinct_clause-of_DistinctOnClause : (x : Expr)
    → distinct_clause_tree (DistinctClause-V.DistinctOnClause x) ≡ t.distinct_on (expr_tree x)
distinct_clause-of_DistinctOnClause x = search (rules, the_lemmas)

pub where_clause-of_NoWhereClause : where_clause_tree WhereClause-V.NoWhereClause ≡ t.no_expr
where_clause-of_NoWhereClause = search (rules, the_lemmas)

pub where_clause-of_WhereClause : (x : Expr) → where_clause_tree (WhereClause-V.WhereClause x) ≡ t.an_expr (expr_tree x)
where_clause-of_WhereClause x = search (rules, the_lemmas)

pub group_by_clause-of_NoGroupByClause : group_by_clause_tree GroupByClause-V.NoGroupByClause ≡ t.no_expr
group_by_clause-of_NoGroupByClause = search (rules, the_lemmas)

pub group_by_clause-of_GroupByClause : (x : Expr)
    → group_by_clause_tree (GroupByClause-V.GroupByClause x) ≡ t.an_expr (expr_tree x)
group_by_clause-of_GroupByClause x = search (rules, the_lemmas)

pub having_clause-of_NoHavingClause : having_clause_tree HavingClause-V.NoHavingClause ≡ t.no_expr
having_clause-of_NoHavingClause = search (rules, the_lemmas)

pub having_clause-of_HavingClause : (x : Expr)
    → having_clause_tree (HavingClause-V.HavingClause x) ≡ t.an_expr (expr_tree x)
having_clause-of_HavingClause x = search (rules, the_lemmas)

pub order_clause-of_NoOrderClause : order_clause_tree OrderClause-V.NoOrderClause ≡ t.no_order
order_clause-of_NoOrderClause = search (rules, the_lemmas)

pub order_clause-of_OrderClause : (x : List OrderItem)
    → order_clause_tree (OrderClause-V.OrderClause x) ≡ t.order_by (items_of (map order_item_tree x))
order_clause-of_OrderClause x = search (rules, the_lemmas)

pub statement-of_Select : (x : SelectStatement) → statement_tree (Statement-V.Select x) ≡ select_statement_tree x
statement-of_Select x = search (rules, the_lemmas)

pub statement-of_Boxed : (x : BoxedSelectStatement)
    → statement_tree (Statement-V.Boxed x) ≡ boxed_select_statement_tree x
statement-of_Boxed x = search (rules, the_lemmas)

pub statement-of_Combination : (x : CombinationClause)
    → statement_tree (Statement-V.Combination x) ≡ combination_clause_tree x
statement-of_Combination x = search (rules, the_lemmas)

pub ruleset opens_expr = (expr-of_Column, expr-of_Field, expr-of_Value, expr-of_List, expr-of_CountStar, expr-of_Nullable, expr-of_Not, expr-of_IsNull, expr-of_IsNotNull, expr-of_Count, expr-of_Exists, expr-of_Subselect, expr-of_Eq, expr-of_Ne, expr-of_Gt, expr-of_Ge, expr-of_Lt, expr-of_Le, expr-of_And, expr-of_Or, expr-of_EqAny, expr-of_NeAll, in_values-of_List, in_values-of_Query)

pub ruleset opens_in_values = (in_values-of_List, in_values-of_Query)

pub ruleset opens_source = (source-of_Table, source-of_Alias, source-of_Join)

pub ruleset opens_from_clause = (from_clause-of_NoFromClause, from_clause-of_FromClause)

pub ruleset opens_select_clause = (select_clause-of_DefaultSelectClause, select_clause-of_SelectClause)

pub ruleset opens_distinct_clause = (distinct_clause-of_NoDistinctClause, distinct_clause-of_DistinctClause, distinct_clause-of_DistinctOnClause)

pub ruleset opens_where_clause = (where_clause-of_NoWhereClause, where_clause-of_WhereClause)

pub ruleset opens_group_by_clause = (group_by_clause-of_NoGroupByClause, group_by_clause-of_GroupByClause)

pub ruleset opens_having_clause = (having_clause-of_NoHavingClause, having_clause-of_HavingClause)

pub ruleset opens_order_clause = (order_clause-of_NoOrderClause, order_clause-of_OrderClause)

pub ruleset opens_statement = (statement-of_Select, statement-of_Boxed, statement-of_Combination)

pub ruleset opens_boxed_select_statement = (boxed_select_statement-out)

pub ruleset opens_combination_clause = (combination_clause-out)

pub ruleset opens_order_item = (order_item-out)

pub ruleset opens_join = (join-out)

pub ruleset opens_join_on = (join_on-out)

pub ruleset opens_select_statement = (select_statement-out)
