-- What the plain trees of nodes are, by their variants: for code that matches nodes, `using(hardieflax::proofs::Trees::opens_expr)`.
use Rattle.sql_node.proofs.Trees.{boxed_select_statement-out, combination_clause-out, distinct_clause-of_DistinctClause, distinct_clause-of_DistinctOnClause, distinct_clause-of_NoDistinctClause, expr-of_And, expr-of_Column, expr-of_Count, expr-of_CountStar, expr-of_Eq, expr-of_EqAny, expr-of_Exists, expr-of_Field, expr-of_Ge, expr-of_Gt, expr-of_IsNotNull, expr-of_IsNull, expr-of_Le, expr-of_List, expr-of_Lt, expr-of_Ne, expr-of_NeAll, expr-of_Not, expr-of_Nullable, expr-of_Or, expr-of_Subselect, expr-of_Value, from_clause-of_FromClause, from_clause-of_NoFromClause, group_by_clause-of_GroupByClause, group_by_clause-of_NoGroupByClause, having_clause-of_HavingClause, having_clause-of_NoHavingClause, in_values-of_List, in_values-of_Query, join-out, join_on-out, order_clause-of_NoOrderClause, order_clause-of_OrderClause, order_item-out, select_clause-of_DefaultSelectClause, select_clause-of_SelectClause, select_statement-out, source-of_Alias, source-of_Join, source-of_Table, statement-of_Boxed, statement-of_Combination, statement-of_Select, where_clause-of_NoWhereClause, where_clause-of_WhereClause}

pub ruleset opens_expr = (expr-of_Column, expr-of_Field, expr-of_Value, expr-of_List, expr-of_CountStar, expr-of_Nullable, expr-of_Not, expr-of_IsNull, expr-of_IsNotNull, expr-of_Count, expr-of_Exists, expr-of_Subselect, expr-of_Eq, expr-of_Ne, expr-of_Gt, expr-of_Ge, expr-of_Lt, expr-of_Le, expr-of_And, expr-of_Or, expr-of_EqAny, expr-of_NeAll, in_values-of_List, in_values-of_Query)

pub ruleset opens_in_values = (in_values-of_List, in_values-of_Query)

pub ruleset opens_source = (source-of_Table, source-of_Alias, source-of_Join)

pub ruleset opens_from_clause = (from_clause-of_NoFromClause, from_clause-of_FromClause)

pub ruleset opens_select_clause = (select_clause-of_DefaultSelectClause, select_clause-of_SelectClause)

pub ruleset opens_distinct_clause = (distinct_clause-of_NoDistinctClause, distinct_clause-of_DistinctClause, distinct_clause-of_DistinctOnClause)

pub ruleset opens_where_clause = (where_clause-of_NoWhereClause, where_clause-of_WhereClause)

pub ruleset opens_group_by_clause = (group_by_clause-of_NoGroupByClause, group_by_clause-of_GroupByClause)

pub ruleset opens_having_clause = (having_clause-of_NoHavingClause, having_clause-of_HavingClause)

pub ruleset opens_order_clause = (order_clause-of_NoOrderClause, order_clause-of_OrderClause)

pub ruleset opens_statement = (statement-of_Select, statement-of_Boxed, statement-of_Combination)

pub ruleset opens_boxed_select_statement = (boxed_select_statement-out)

pub ruleset opens_combination_clause = (combination_clause-out)

pub ruleset opens_order_item = (order_item-out)

pub ruleset opens_join = (join-out)

pub ruleset opens_join_on = (join_on-out)

pub ruleset opens_select_statement = (select_statement-out)
