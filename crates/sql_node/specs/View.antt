-- The plain tree of each node, one level at a time, where the parts are trees already.
use Rattle.std.specs.Prelude.{Bool, true, false, Option, None, Some, List, [], ◌∷◌}
use Rattle.sql_schema.specs.Columns.{DeclaredColumn}
use Rattle.sql_schema.specs.declared.types.SqlType.{SqlType}
use Rattle.sql_pass.specs.declared.value.Value.{Value}
use Rattle.sql_leaf.specs.declared.alias.AliasedField.{AliasedField}
use Rattle.sql_leaf.specs.declared.position.Direction.{Direction}
use Rattle.sql_leaf.specs.declared.table_source.JoinKind.{JoinKind}
use Rattle.sql_leaf.specs.declared.operator.Unary.TheVariants.{Not, IsNull, IsNotNull}
use Rattle.sql_leaf.specs.declared.operator.Comparison.TheVariants.{Eq, Ne, Lt, Le, Gt, Ge}
use Rattle.sql_leaf.specs.declared.operator.Logic.TheVariants.{And, Or}
use Rattle.sql_node.specs.Tree as t
use Rattle.sql_node.specs.declared.clause.DistinctClause.{DistinctClause, DistinctClause-F, fold-DistinctClause}
use Rattle.sql_node.specs.declared.clause.FromClause.{FromClause, FromClause-F, fold-FromClause}
use Rattle.sql_node.specs.declared.clause.GroupByClause.{GroupByClause, GroupByClause-F, fold-GroupByClause}
use Rattle.sql_node.specs.declared.clause.HavingClause.{HavingClause, HavingClause-F, fold-HavingClause}
use Rattle.sql_node.specs.declared.clause.SelectClause.{SelectClause, SelectClause-F, fold-SelectClause}
use Rattle.sql_node.specs.declared.clause.WhereClause.{WhereClause, WhereClause-F, fold-WhereClause}
use Rattle.sql_node.specs.declared.expr.Expr.{Expr, Expr-F, fold-Expr}
use Rattle.sql_node.specs.declared.expr.InValues.{InValues, InValues-F, fold-InValues}
use Rattle.sql_node.specs.declared.order.OrderClause.{OrderClause, OrderClause-F, fold-OrderClause}
use Rattle.sql_node.specs.declared.source.Source.{Source, Source-F, fold-Source}
use Rattle.sql_node.specs.declared.statement.Statement.{Statement, Statement-F, fold-Statement}
use Rattle.sql_node.specs.declared.boxed.BoxedSelectStatement.{BoxedSelectStatement, BoxedSelectStatement-F, fold-BoxedSelectStatement}
use Rattle.sql_node.specs.declared.combination.CombinationClause.{CombinationClause, CombinationClause-F, fold-CombinationClause}
use Rattle.sql_node.specs.declared.order.OrderItem.{OrderItem, OrderItem-F, fold-OrderItem}
use Rattle.sql_node.specs.declared.source.Join.{Join, Join-F, fold-Join}
use Rattle.sql_node.specs.declared.source.JoinOn.{JoinOn, JoinOn-F, fold-JoinOn}
use Rattle.sql_node.specs.declared.statement.SelectStatement.{SelectStatement, SelectStatement-F, fold-SelectStatement}

-- what a membership looks in
pub data Among : Type 0 where
  among_list : SqlType → List Value → Among
  among_query : t.Statement → Among

-- whether it is the default, and the selection
abbrev pub Selected : Type 0
Selected = Bool × t.Expr

abbrev pub Item : Type 0
Item = t.Expr × Direction

abbrev pub Sides : Type 0
Sides = t.Source × t.Source × JoinKind

abbrev pub exprs_of : List t.Expr → t.Exprs
exprs_of [] = t.no_exprs
exprs_of (e ∷ es) = t.more_exprs e (exprs_of es)

abbrev pub items_of : List Item → t.Items
items_of [] = t.no_items
items_of (i ∷ is) = t.more_items i.0 i.1 (items_of is)

abbrev pub maybe_of : Option t.Expr → t.MaybeExpr
maybe_of None = t.no_expr
maybe_of (Some e) = t.an_expr e

abbrev pub from_of : Option t.Source → t.From
from_of None = t.no_source
from_of (Some s) = t.from s

-- whether it is negated, what is sought, and where
abbrev pub among_of : Bool → t.Expr → Among → t.Expr
among_of n e (among_list ty xs) = t.among_values n e ty xs
among_of n e (among_query q) = t.among_rows n e q

abbrev pub column_of : DeclaredColumn → t.Expr
column_of c = t.column (record { alias = None; table = c.table }) c.decl

abbrev pub field_of : AliasedField → t.Expr
field_of f = t.column (record { alias = Some f.alias; table = f.column.table }) f.column.decl

abbrev pub Level : (Type 0 → Type 0 → Type 0 → Type 0 → Type 0 → Type 0 → Type 0 → Type 0 → Type 0 → Type 0 → Type 0
    → Type 0 → Type 0 → Type 0 → Type 0 → Type 0 → Type 0 → Type 0)
    → Type 0
Level F =
    F t.Distinct t.From t.MaybeExpr t.MaybeExpr Selected t.MaybeExpr t.Expr Among t.Order t.Source t.Statement
    t.Statement t.Statement Item Sides t.Source t.Statement

abbrev pub expr_level : Level Expr-F → t.Expr
expr_level (Expr-F.Column x) = column_of x
expr_level (Expr-F.Field x) = field_of x
expr_level (Expr-F.Value x y) = t.value x y
expr_level (Expr-F.Expr::List x) = t.list (exprs_of x)
expr_level Expr-F.CountStar = t.count_star
expr_level (Expr-F.Nullable x) = t.nullable x.value
expr_level (Expr-F.Not x) = t.unary Not x.value
expr_level (Expr-F.IsNull x) = t.unary IsNull x.value
expr_level (Expr-F.IsNotNull x) = t.unary IsNotNull x.value
expr_level (Expr-F.Count x) = t.count x.value
expr_level (Expr-F.Exists x) = t.exists x.value
expr_level (Expr-F.Subselect x) = t.single x.value
expr_level (Expr-F.Eq x y) = t.compared Eq x.value y.value
expr_level (Expr-F.Ne x y) = t.compared Ne x.value y.value
expr_level (Expr-F.Gt x y) = t.compared Gt x.value y.value
expr_level (Expr-F.Ge x y) = t.compared Ge x.value y.value
expr_level (Expr-F.Lt x y) = t.compared Lt x.value y.value
expr_level (Expr-F.Le x y) = t.compared Le x.value y.value
expr_level (Expr-F.And x y) = t.joined And x.value y.value
expr_level (Expr-F.Or x y) = t.joined Or x.value y.value
expr_level (Expr-F.EqAny x y) = among_of false x.value y
expr_level (Expr-F.NeAll x y) = among_of true x.value y

abbrev pub in_values_level : Level InValues-F → Among
in_values_level (InValues-F.InValues::List x y) = among_list x y
in_values_level (InValues-F.Query x) = among_query x.value

abbrev pub source_level : Level Source-F → t.Source
source_level (Source-F.Table x) = t.of_table x.table x.only x.sample
source_level (Source-F.Alias x) = t.of_alias x.name x.table
source_level (Source-F.Join x) = x.value

abbrev pub from_clause_level : Level FromClause-F → t.From
from_clause_level FromClause-F.NoFromClause = t.no_source
from_clause_level (FromClause-F.FromClause x) = t.from x

abbrev pub select_clause_level : Level SelectClause-F → Selected
select_clause_level (SelectClause-F.DefaultSelectClause x) = (true, x)
select_clause_level (SelectClause-F.SelectClause x) = (false, x)

abbrev pub distinct_clause_level : Level DistinctClause-F → t.Distinct
distinct_clause_level DistinctClause-F.NoDistinctClause = t.every
distinct_clause_level DistinctClause-F.DistinctClause = t.distinct
distinct_clause_level (DistinctClause-F.DistinctOnClause x) = t.distinct_on x

abbrev pub where_clause_level : Level WhereClause-F → t.MaybeExpr
where_clause_level WhereClause-F.NoWhereClause = t.no_expr
where_clause_level (WhereClause-F.WhereClause x) = t.an_expr x

abbrev pub group_by_clause_level : Level GroupByClause-F → t.MaybeExpr
group_by_clause_level GroupByClause-F.NoGroupByClause = t.no_expr
group_by_clause_level (GroupByClause-F.GroupByClause x) = t.an_expr x

abbrev pub having_clause_level : Level HavingClause-F → t.MaybeExpr
having_clause_level HavingClause-F.NoHavingClause = t.no_expr
having_clause_level (HavingClause-F.HavingClause x) = t.an_expr x

abbrev pub order_clause_level : Level OrderClause-F → t.Order
order_clause_level OrderClause-F.NoOrderClause = t.no_order
order_clause_level (OrderClause-F.OrderClause x) = t.order_by (items_of x)

abbrev pub statement_level : Level Statement-F → t.Statement
statement_level (Statement-F.Select x) = x
statement_level (Statement-F.Boxed x) = x
statement_level (Statement-F.Combination x) = x

abbrev pub order_item_level : Level OrderItem-F → Item
order_item_level i = (i.expr, i.direction)

abbrev pub join_level : Level Join-F → Sides
join_level j = (j.left, j.right, j.kind)

abbrev pub join_on_level : Level JoinOn-F → t.Source
join_on_level j = t.join j.join.2 j.join.0 j.join.1 (maybe_of j.on)

abbrev pub select_statement_level : Level SelectStatement-F → t.Statement
select_statement_level s =
    t.select s.select.0 s.select.1 s.from s.distinct s.where_clause s.order s.limit_offset s.group_by s.having
    (t.unboxed s.locking) s.marks

abbrev pub boxed_select_statement_level : Level BoxedSelectStatement-F → t.Statement
boxed_select_statement_level s =
    t.select s.select.0 s.select.1 s.from s.distinct s.where_clause s.order s.limit_offset s.group_by s.having
    (t.boxed s.dialect s.nullable) s.marks

abbrev pub combination_clause_level : Level CombinationClause-F → t.Statement
combination_clause_level s =
    t.combination s.combinator s.duplicate_rule s.source.value s.rhs.value s.order s.limit_offset

abbrev pub distinct_clause_tree : DistinctClause → t.Distinct
distinct_clause_tree =
    fold-DistinctClause t.Distinct t.From t.MaybeExpr t.MaybeExpr Selected t.MaybeExpr t.Expr Among t.Order t.Source
    t.Statement t.Statement t.Statement Item Sides t.Source t.Statement distinct_clause_level from_clause_level
    group_by_clause_level having_clause_level select_clause_level where_clause_level expr_level in_values_level
    order_clause_level source_level statement_level boxed_select_statement_level combination_clause_level
    order_item_level join_level join_on_level select_statement_level

abbrev pub from_clause_tree : FromClause → t.From
from_clause_tree =
    fold-FromClause t.Distinct t.From t.MaybeExpr t.MaybeExpr Selected t.MaybeExpr t.Expr Among t.Order t.Source
    t.Statement t.Statement t.Statement Item Sides t.Source t.Statement distinct_clause_level from_clause_level
    group_by_clause_level having_clause_level select_clause_level where_clause_level expr_level in_values_level
    order_clause_level source_level statement_level boxed_select_statement_level combination_clause_level
    order_item_level join_level join_on_level select_statement_level

abbrev pub group_by_clause_tree : GroupByClause → t.MaybeExpr
group_by_clause_tree =
    fold-GroupByClause t.Distinct t.From t.MaybeExpr t.MaybeExpr Selected t.MaybeExpr t.Expr Among t.Order t.Source
    t.Statement t.Statement t.Statement Item Sides t.Source t.Statement distinct_clause_level from_clause_level
    group_by_clause_level having_clause_level select_clause_level where_clause_level expr_level in_values_level
    order_clause_level source_level statement_level boxed_select_statement_level combination_clause_level
    order_item_level join_level join_on_level select_statement_level

abbrev pub having_clause_tree : HavingClause → t.MaybeExpr
having_clause_tree =
    fold-HavingClause t.Distinct t.From t.MaybeExpr t.MaybeExpr Selected t.MaybeExpr t.Expr Among t.Order t.Source
    t.Statement t.Statement t.Statement Item Sides t.Source t.Statement distinct_clause_level from_clause_level
    group_by_clause_level having_clause_level select_clause_level where_clause_level expr_level in_values_level
    order_clause_level source_level statement_level boxed_select_statement_level combination_clause_level
    order_item_level join_level join_on_level select_statement_level

abbrev pub select_clause_tree : SelectClause → Selected
select_clause_tree =
    fold-SelectClause t.Distinct t.From t.MaybeExpr t.MaybeExpr Selected t.MaybeExpr t.Expr Among t.Order t.Source
    t.Statement t.Statement t.Statement Item Sides t.Source t.Statement distinct_clause_level from_clause_level
    group_by_clause_level having_clause_level select_clause_level where_clause_level expr_level in_values_level
    order_clause_level source_level statement_level boxed_select_statement_level combination_clause_level
    order_item_level join_level join_on_level select_statement_level

abbrev pub where_clause_tree : WhereClause → t.MaybeExpr
where_clause_tree =
    fold-WhereClause t.Distinct t.From t.MaybeExpr t.MaybeExpr Selected t.MaybeExpr t.Expr Among t.Order t.Source
    t.Statement t.Statement t.Statement Item Sides t.Source t.Statement distinct_clause_level from_clause_level
    group_by_clause_level having_clause_level select_clause_level where_clause_level expr_level in_values_level
    order_clause_level source_level statement_level boxed_select_statement_level combination_clause_level
    order_item_level join_level join_on_level select_statement_level

abbrev pub expr_tree : Expr → t.Expr
expr_tree =
    fold-Expr t.Distinct t.From t.MaybeExpr t.MaybeExpr Selected t.MaybeExpr t.Expr Among t.Order t.Source t.Statement
    t.Statement t.Statement Item Sides t.Source t.Statement distinct_clause_level from_clause_level
    group_by_clause_level having_clause_level select_clause_level where_clause_level expr_level in_values_level
    order_clause_level source_level statement_level boxed_select_statement_level combination_clause_level
    order_item_level join_level join_on_level select_statement_level

abbrev pub in_values_tree : InValues → Among
in_values_tree =
    fold-InValues t.Distinct t.From t.MaybeExpr t.MaybeExpr Selected t.MaybeExpr t.Expr Among t.Order t.Source
    t.Statement t.Statement t.Statement Item Sides t.Source t.Statement distinct_clause_level from_clause_level
    group_by_clause_level having_clause_level select_clause_level where_clause_level expr_level in_values_level
    order_clause_level source_level statement_level boxed_select_statement_level combination_clause_level
    order_item_level join_level join_on_level select_statement_level

abbrev pub order_clause_tree : OrderClause → t.Order
order_clause_tree =
    fold-OrderClause t.Distinct t.From t.MaybeExpr t.MaybeExpr Selected t.MaybeExpr t.Expr Among t.Order t.Source
    t.Statement t.Statement t.Statement Item Sides t.Source t.Statement distinct_clause_level from_clause_level
    group_by_clause_level having_clause_level select_clause_level where_clause_level expr_level in_values_level
    order_clause_level source_level statement_level boxed_select_statement_level combination_clause_level
    order_item_level join_level join_on_level select_statement_level

abbrev pub source_tree : Source → t.Source
source_tree =
    fold-Source t.Distinct t.From t.MaybeExpr t.MaybeExpr Selected t.MaybeExpr t.Expr Among t.Order t.Source t.Statement
    t.Statement t.Statement Item Sides t.Source t.Statement distinct_clause_level from_clause_level
    group_by_clause_level having_clause_level select_clause_level where_clause_level expr_level in_values_level
    order_clause_level source_level statement_level boxed_select_statement_level combination_clause_level
    order_item_level join_level join_on_level select_statement_level

abbrev pub statement_tree : Statement → t.Statement
statement_tree =
    fold-Statement t.Distinct t.From t.MaybeExpr t.MaybeExpr Selected t.MaybeExpr t.Expr Among t.Order t.Source
    t.Statement t.Statement t.Statement Item Sides t.Source t.Statement distinct_clause_level from_clause_level
    group_by_clause_level having_clause_level select_clause_level where_clause_level expr_level in_values_level
    order_clause_level source_level statement_level boxed_select_statement_level combination_clause_level
    order_item_level join_level join_on_level select_statement_level

abbrev pub boxed_select_statement_tree : BoxedSelectStatement → t.Statement
boxed_select_statement_tree =
    fold-BoxedSelectStatement t.Distinct t.From t.MaybeExpr t.MaybeExpr Selected t.MaybeExpr t.Expr Among t.Order
    t.Source t.Statement t.Statement t.Statement Item Sides t.Source t.Statement distinct_clause_level
    from_clause_level group_by_clause_level having_clause_level select_clause_level where_clause_level expr_level
    in_values_level order_clause_level source_level statement_level boxed_select_statement_level
    combination_clause_level order_item_level join_level join_on_level select_statement_level

abbrev pub combination_clause_tree : CombinationClause → t.Statement
combination_clause_tree =
    fold-CombinationClause t.Distinct t.From t.MaybeExpr t.MaybeExpr Selected t.MaybeExpr t.Expr Among t.Order t.Source
    t.Statement t.Statement t.Statement Item Sides t.Source t.Statement distinct_clause_level from_clause_level
    group_by_clause_level having_clause_level select_clause_level where_clause_level expr_level in_values_level
    order_clause_level source_level statement_level boxed_select_statement_level combination_clause_level
    order_item_level join_level join_on_level select_statement_level

abbrev pub order_item_tree : OrderItem → Item
order_item_tree =
    fold-OrderItem t.Distinct t.From t.MaybeExpr t.MaybeExpr Selected t.MaybeExpr t.Expr Among t.Order t.Source
    t.Statement t.Statement t.Statement Item Sides t.Source t.Statement distinct_clause_level from_clause_level
    group_by_clause_level having_clause_level select_clause_level where_clause_level expr_level in_values_level
    order_clause_level source_level statement_level boxed_select_statement_level combination_clause_level
    order_item_level join_level join_on_level select_statement_level

abbrev pub join_tree : Join → Sides
join_tree =
    fold-Join t.Distinct t.From t.MaybeExpr t.MaybeExpr Selected t.MaybeExpr t.Expr Among t.Order t.Source t.Statement
    t.Statement t.Statement Item Sides t.Source t.Statement distinct_clause_level from_clause_level
    group_by_clause_level having_clause_level select_clause_level where_clause_level expr_level in_values_level
    order_clause_level source_level statement_level boxed_select_statement_level combination_clause_level
    order_item_level join_level join_on_level select_statement_level

abbrev pub join_on_tree : JoinOn → t.Source
join_on_tree =
    fold-JoinOn t.Distinct t.From t.MaybeExpr t.MaybeExpr Selected t.MaybeExpr t.Expr Among t.Order t.Source t.Statement
    t.Statement t.Statement Item Sides t.Source t.Statement distinct_clause_level from_clause_level
    group_by_clause_level having_clause_level select_clause_level where_clause_level expr_level in_values_level
    order_clause_level source_level statement_level boxed_select_statement_level combination_clause_level
    order_item_level join_level join_on_level select_statement_level

abbrev pub select_statement_tree : SelectStatement → t.Statement
select_statement_tree =
    fold-SelectStatement t.Distinct t.From t.MaybeExpr t.MaybeExpr Selected t.MaybeExpr t.Expr Among t.Order t.Source
    t.Statement t.Statement t.Statement Item Sides t.Source t.Statement distinct_clause_level from_clause_level
    group_by_clause_level having_clause_level select_clause_level where_clause_level expr_level in_values_level
    order_clause_level source_level statement_level boxed_select_statement_level combination_clause_level
    order_item_level join_level join_on_level select_statement_level
