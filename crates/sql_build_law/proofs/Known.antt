-- A tree names only what a schema declares, at every depth: each leaf of its sources is a table of the schema, or an
-- alias of one, and each column is one of its table's, which is the schema's.
use Rattle.std.specs.Prelude.{Option, IfSome}
use Rattle.sql_schema.specs.Columns.{DeclaredColumn}
use Rattle.sql_schema.specs.Declarations.{Declarations}
use Rattle.sql_node.specs.Tree.{Origin, Expr, column, value, list, count_star, nullable, unary, count, compared, joined, exists, single, among_values, among_rows, Exprs, no_exprs, more_exprs, Items, no_items, more_items, MaybeExpr, no_expr, an_expr, Source, of_table, of_alias, join, From, no_source, from, Distinct, every, distinct, distinct_on, Order, no_order, order_by, Statement, select, combination}
use Rattle.sql_node.specs.View.{Among, among_list, among_query}
use Rattle.sql_expr.specs.Joining.{Side}
use Rattle.sql_origin.specs.Leaves.{Leaf}
use Rattle.sql_select.specs.Clauses.{Clauses, statement_of}
use Rattle.sql_rules.specs.Rules.{IsTable, IsColumn}

module _ (schema : Declarations) where
  abbrev mutual
    pub KnownExpr : Expr → Type 0
    KnownExpr (column o c) = IsTable schema o.table × IsColumn o.table c
    KnownExpr (value t x) = Unit {0}
    KnownExpr (list es) = KnownExprs es
    KnownExpr count_star = Unit {0}
    KnownExpr (nullable e) = KnownExpr e
    KnownExpr (unary n e) = KnownExpr e
    KnownExpr (count e) = KnownExpr e
    KnownExpr (compared by a b) = KnownExpr a × KnownExpr b
    KnownExpr (joined by a b) = KnownExpr a × KnownExpr b
    KnownExpr (exists q) = Known q
    KnownExpr (single q) = Known q
    KnownExpr (among_values n e t xs) = KnownExpr e
    KnownExpr (among_rows n e q) = KnownExpr e × Known q

    pub KnownExprs : Exprs → Type 0
    KnownExprs no_exprs = Unit {0}
    KnownExprs (more_exprs e es) = KnownExpr e × KnownExprs es

    pub KnownItems : Items → Type 0
    KnownItems no_items = Unit {0}
    KnownItems (more_items e by is) = KnownExpr e × KnownItems is

    pub KnownMaybe : MaybeExpr → Type 0
    KnownMaybe no_expr = Unit {0}
    KnownMaybe (an_expr e) = KnownExpr e

    pub KnownSource : Source → Type 0
    KnownSource (of_table t only sample) = IsTable schema t
    KnownSource (of_alias a t) = IsTable schema t
    KnownSource (join k l r on) = KnownSource l × KnownSource r × KnownMaybe on

    pub KnownFrom : From → Type 0
    KnownFrom no_source = Unit {0}
    KnownFrom (from s) = KnownSource s

    pub KnownDistinct : Distinct → Type 0
    KnownDistinct every = Unit {0}
    KnownDistinct distinct = Unit {0}
    KnownDistinct (distinct_on e) = KnownExpr e

    pub KnownOrder : Order → Type 0
    KnownOrder no_order = Unit {0}
    KnownOrder (order_by is) = KnownItems is

    -- by clauses: the selection, the source, DISTINCT, WHERE, the order, GROUP BY and HAVING
    pub Known : Statement → Type 0
    Known (select default e f u w o rows g h form marks) =
        KnownExpr e × KnownFrom f × KnownDistinct u × KnownMaybe w × KnownOrder o × KnownMaybe g × KnownMaybe h
    Known (combination by all a b o rows) = Known a × Known b

  -- the same of what trees are made of
  abbrev pub KnownClauses : Clauses → Type 0
  KnownClauses c = Known (statement_of c)

  abbrev pub KnownOrigin : Origin → Type 0
  KnownOrigin o = IsTable schema o.table

  abbrev pub KnownLeaf : Leaf → Type 0
  KnownLeaf l = KnownOrigin l.origin

  abbrev pub KnownColumn : DeclaredColumn → Type 0
  KnownColumn c = IsTable schema c.table × IsColumn c.table c.decl

  abbrev pub KnownAmong : Among → Type 0
  KnownAmong (among_list t xs) = Unit {0}
  KnownAmong (among_query q) = Known q

  abbrev pub KnownOption : Option Expr → Type 0
  KnownOption o = IfSome o KnownExpr

  abbrev pub KnownSide : Side → Type 0
  KnownSide s = KnownSource s.source × KnownOption s.on
