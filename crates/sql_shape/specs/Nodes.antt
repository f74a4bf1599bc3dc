-- Whether all that the nodes of a statement hold passes tests.
use Rattle.std.specs.Prelude.{Bool, true, false, ◌&&◌, ◌||◌, List, Option}
use Rattle.sql_schema.specs.declared.types.SqlType.{SqlType}
use Rattle.sql_pass.specs.declared.value.Value.{Value}
use Rattle.sql_leaf.specs.declared.position.PositionalItem.{PositionalItem}
use Rattle.sql_leaf.specs.declared.table_source.Tablesample.{Tablesample}
use Rattle.sql_node.specs.Tree.{Form, unboxed, boxed, Expr, column, value, list, count_star, nullable, unary, count, compared, joined, exists, single, among_values, among_rows, Exprs, no_exprs, more_exprs, Items, no_items, more_items, MaybeExpr, no_expr, an_expr, Source, of_table, of_alias, join, From, no_source, from, Distinct, every, distinct, distinct_on, Order, no_order, order_by, Statement, select, combination}
use Rattle.sql_node.specs.View.{Among, among_list, among_query}

-- what passes
pub record NodeTests : Type 0 where
  -- whether a boxed statement passes
  pub boxed : Bool
  -- a value that is bound as of the type, and a list of them
  pub value : SqlType → Value → Bool
  pub values : SqlType → List Value → Bool
  -- the sample of a table, and the places that a combination is ordered by
  pub sample : Option Tablesample → Bool
  pub places : Option (List PositionalItem) → Bool

abbrev pub is_unboxed : Form → Bool
is_unboxed (unboxed l) = true
is_unboxed (boxed d n) = false

module _ (tests : NodeTests) where
  abbrev mutual
    pub all_expr : Expr → Bool
    all_expr (column o c) = true
    all_expr (value t x) = tests.value t x
    all_expr (list es) = all_exprs es
    all_expr count_star = true
    all_expr (nullable e) = all_expr e
    all_expr (unary n e) = all_expr e
    all_expr (count e) = all_expr e
    all_expr (compared by a b) = all_expr a && all_expr b
    all_expr (joined by a b) = all_expr a && all_expr b
    all_expr (exists q) = all_statement q
    all_expr (single q) = all_statement q
    all_expr (among_values n e t xs) = all_expr e && tests.values t xs
    all_expr (among_rows n e q) = all_expr e && all_statement q

    pub all_exprs : Exprs → Bool
    all_exprs no_exprs = true
    all_exprs (more_exprs e es) = all_expr e && all_exprs es

    pub all_items : Items → Bool
    all_items no_items = true
    all_items (more_items e by is) = all_expr e && all_items is

    pub all_maybe : MaybeExpr → Bool
    all_maybe no_expr = true
    all_maybe (an_expr e) = all_expr e

    pub all_source : Source → Bool
    all_source (of_table t only sample) = tests.sample sample
    all_source (of_alias a t) = true
    all_source (join k l r on) = all_source l && (all_source r && all_maybe on)

    pub all_from : From → Bool
    all_from no_source = true
    all_from (from s) = all_source s

    pub all_distinct : Distinct → Bool
    all_distinct every = true
    all_distinct distinct = true
    all_distinct (distinct_on e) = all_expr e

    pub all_order : Order → Bool
    all_order no_order = true
    all_order (order_by is) = all_items is

    -- in the order in which clauses are written
    pub all_statement : Statement → Bool
    all_statement (select default e f u w o rows g h form marks) =
        (tests.boxed || is_unboxed form)
        && (all_distinct u
        && (all_expr e && (all_from f && (all_maybe w && (all_maybe g && (all_maybe h && all_order o))))))
    all_statement (combination by all a b o rows) = all_statement a && (all_statement b && tests.places o)

  -- what a membership looks in
  abbrev pub all_among : Among → Bool
  all_among (among_list t xs) = tests.values t xs
  all_among (among_query q) = all_statement q
