-- The origins that each clause of a statement sees, and every place in a statement where something stands (PostgreSQL, SELECT, FROM
-- Clause and WHERE Clause; Value Expressions, Scalar Subqueries; diesel, `SelectableExpression`, `AppearsOnTable`).
use Rattle.std.specs.Prelude.{List, [], ◌∷◌, ◌++◌, map, Option}
use Rattle.sql_dialect.specs.declared.combination.Combinator.{Combinator}
use Rattle.sql_dialect.specs.declared.combination.DuplicateRule.{DuplicateRule}
use Rattle.sql_leaf.specs.declared.limit_offset.LimitOffsetClause.{LimitOffsetClause}
use Rattle.sql_leaf.specs.declared.marks.Marks.{Marks}
use Rattle.sql_leaf.specs.declared.position.PositionalItem.{PositionalItem}
use Rattle.sql_node.specs.Tree.{Origin, Form, unboxed, boxed, Expr, column, value, list, count_star, nullable, unary, count, compared, joined, exists, single, among_values, among_rows, Exprs, no_exprs, more_exprs, Items, no_items, more_items, MaybeExpr, no_expr, an_expr, Source, of_table, of_alias, join, From, no_source, from, Distinct, every, distinct, distinct_on, Order, no_order, order_by, Statement, select, combination}
use Rattle.sql_origin.specs.Leaves.{Leaf, leaves}
use Rattle.sql_rules.specs.Lists.{AnyOf, Each}

-- ---- views

-- the tables and aliases that a clause sees
abbrev pub View : Type 0
View = List Origin

-- the leaves of a source from left to right, as far as names go
abbrev pub origins : Source → View
origins s = map (λ l. l.origin) (leaves s)

abbrev pub leaves_of : From → List Leaf
leaves_of no_source = []
leaves_of (from f) = leaves f

abbrev pub origins_of : From → View
origins_of f = map (λ l. l.origin) (leaves_of f)

-- The widest view, which WHERE sees: its own leaves, and what the clause around the statement sees. A boxed statement and
-- one without a source see their own alone.
abbrev pub widest : Form → From → View → View
widest (unboxed l) no_source outer = []
widest (unboxed l) (from f) outer = origins f ++ outer
widest (boxed d n) f outer = origins_of f

-- ---- the statements inside a statement

-- a select statement with its clauses by name; the rules ignore whether its selection is the default
pub record Select : Type 0 where
  pub selection : Expr
  pub source : From
  pub distinctness : Distinct
  pub where_by : MaybeExpr
  pub order : Order
  pub rows : LimitOffsetClause
  pub group_by : MaybeExpr
  pub having_by : MaybeExpr
  pub form : Form
  pub marks : Marks

pub record Combination : Type 0 where
  pub combinator : Combinator
  pub duplicates : DuplicateRule
  pub left : Statement
  pub right : Statement
  pub order : Option (List PositionalItem)
  pub rows : LimitOffsetClause

-- a statement inside a statement; of a select statement also what the clause around it sees
pub data Part : Type 0 where
  a_select : View → Select → Part
  a_combination : Combination → Part

-- the statements inside each node, where the clause around it sees a view
abbrev mutual
  pub in_expr : View → Expr → List Part
  in_expr v (column o c) = []
  in_expr v (value t x) = []
  in_expr v (list es) = in_exprs v es
  in_expr v count_star = []
  in_expr v (nullable e) = in_expr v e
  in_expr v (unary n e) = in_expr v e
  in_expr v (count e) = in_expr v e
  in_expr v (compared by a b) = in_expr v a ++ in_expr v b
  in_expr v (joined by a b) = in_expr v a ++ in_expr v b
  in_expr v (exists q) = parts v q
  in_expr v (single q) = parts v q
  in_expr v (among_values n e t xs) = in_expr v e
  in_expr v (among_rows n e q) = in_expr v e ++ parts v q

  pub in_exprs : View → Exprs → List Part
  in_exprs v no_exprs = []
  in_exprs v (more_exprs e es) = in_expr v e ++ in_exprs v es

  pub in_items : View → Items → List Part
  in_items v no_items = []
  in_items v (more_items e by is) = in_expr v e ++ in_items v is

  pub in_maybe : View → MaybeExpr → List Part
  in_maybe v no_expr = []
  in_maybe v (an_expr e) = in_expr v e

  -- an ON sees the leaves of its join
  pub in_source : Source → List Part
  in_source (of_table t only sample) = []
  in_source (of_alias a t) = []
  in_source (join k l r on) = in_source l ++ (in_source r ++ in_maybe (origins l ++ origins r) on)

  pub in_from : From → List Part
  in_from no_source = []
  in_from (from f) = in_source f

  pub in_distinct : View → Distinct → List Part
  in_distinct v every = []
  in_distinct v distinct = []
  in_distinct v (distinct_on e) = in_expr v e

  pub in_order : View → Order → List Part
  in_order v no_order = []
  in_order v (order_by is) = in_items v is

  -- the statement and those inside it, in the order in which they are written
  pub parts : View → Statement → List Part
  parts outer (select default e f u w o rows g h form marks) =
      a_select outer
      (record {
        selection = e;
        source = f;
        distinctness = u;
        where_by = w;
        order = o;
        rows = rows;
        group_by = g;
        having_by = h;
        form = form;
        marks = marks;
      })
      ∷ (in_distinct (origins_of f) u ++ (in_expr (origins_of f) e ++ (in_from f ++ (in_maybe (widest form f outer) w
      ++ (in_maybe (origins_of f) g ++ (in_maybe (origins_of f) h ++ in_order (origins_of f) o))))))
  parts outer (combination by all a b o rows) =
      a_combination (record { combinator = by; duplicates = all; left = a; right = b; order = o; rows = rows })
      ∷ (parts outer a ++ parts outer b)

-- ---- the clauses of a select statement

pub data Place : Type 0 where
  in_selection : Place
  in_distinct_on : Place
  in_on : Place
  in_where : Place
  in_group_by : Place
  in_having : Place
  in_order_by : Place

-- a clause, or one item of an order, with what it sees
pub record Clause : Type 0 where
  pub place : Place
  pub view : View
  pub expr : Expr

abbrev pub maybe_clause : Place → View → MaybeExpr → List Clause
maybe_clause p v no_expr = []
maybe_clause p v (an_expr e) = record { place = p; view = v; expr = e } ∷ []

abbrev pub ons : Source → List Clause
ons (of_table t only sample) = []
ons (of_alias a t) = []
ons (join k l r on) = ons l ++ (ons r ++ maybe_clause in_on (origins l ++ origins r) on)

abbrev pub ons_of : From → List Clause
ons_of no_source = []
ons_of (from f) = ons f

abbrev pub distinct_clause : View → Distinct → List Clause
distinct_clause v every = []
distinct_clause v distinct = []
distinct_clause v (distinct_on e) = record { place = in_distinct_on; view = v; expr = e } ∷ []

abbrev pub item_clauses : View → Items → List Clause
item_clauses v no_items = []
item_clauses v (more_items e by is) = record { place = in_order_by; view = v; expr = e } ∷ item_clauses v is

abbrev pub order_clauses : View → Order → List Clause
order_clauses v no_order = []
order_clauses v (order_by is) = item_clauses v is

-- the statement's own leaves
abbrev pub own : Select → View
own s = origins_of s.source

-- in the order in which they are written: WHERE sees the second view, ON the leaves of its two sides, each other clause the first
abbrev pub clauses_by : View → View → Select → List Clause
clauses_by v w s =
    distinct_clause v s.distinctness
    ++ (record { place = in_selection; view = v; expr = s.selection } ∷ (ons_of s.source
    ++ (maybe_clause in_where w s.where_by ++ (maybe_clause in_group_by v s.group_by
    ++ (maybe_clause in_having v s.having_by ++ order_clauses v s.order)))))

-- the clause around the statement sees the outer view
abbrev pub clauses : View → Select → List Clause
clauses outer s = clauses_by (own s) (widest s.form s.source outer) s

-- ---- expressions

-- an expression and all that stands in it, outside subselects
abbrev mutual
  pub nodes : Expr → List Expr
  nodes (column o c) = column o c ∷ []
  nodes (value t x) = value t x ∷ []
  nodes (list es) = list es ∷ nodes_of es
  nodes count_star = count_star ∷ []
  nodes (nullable e) = nullable e ∷ nodes e
  nodes (unary n e) = unary n e ∷ nodes e
  nodes (count e) = count e ∷ nodes e
  nodes (compared by a b) = compared by a b ∷ (nodes a ++ nodes b)
  nodes (joined by a b) = joined by a b ∷ (nodes a ++ nodes b)
  nodes (exists q) = exists q ∷ []
  nodes (single q) = single q ∷ []
  nodes (among_values n e t xs) = among_values n e t xs ∷ nodes e
  nodes (among_rows n e q) = among_rows n e q ∷ nodes e

  pub nodes_of : Exprs → List Expr
  nodes_of no_exprs = []
  nodes_of (more_exprs e es) = nodes e ++ nodes_of es

-- P holds of an expression in a clause of the select statement, at any depth, outside subselects, by what the clause sees
abbrev pub AnyExpr : (View → Expr → Type 0) → View → Select → Type 0
AnyExpr P outer s = AnyOf (λ c. AnyOf (P c.view) (nodes c.expr)) (clauses outer s)

-- of each
abbrev pub EachExpr : (View → Expr → Type 0) → View → Select → Type 0
EachExpr P outer s = Each (λ c. Each (P c.view) (nodes c.expr)) (clauses outer s)

-- the same of a statement inside a statement; a combination has no expressions of its own
abbrev pub AnyExprIn : (View → Expr → Type 0) → Part → Type 0
AnyExprIn P (a_select outer s) = AnyExpr P outer s
AnyExprIn P (a_combination c) = ⊥

abbrev pub EachExprIn : (View → Expr → Type 0) → Part → Type 0
EachExprIn P (a_select outer s) = EachExpr P outer s
EachExprIn P (a_combination c) = Unit {0}

-- P holds of an expression anywhere in a statement
abbrev pub AnyNode : (View → Expr → Type 0) → Statement → Type 0
AnyNode P s = AnyOf (AnyExprIn P) (parts [] s)

-- of each
abbrev pub EachNode : (View → Expr → Type 0) → Statement → Type 0
EachNode P s = Each (EachExprIn P) (parts [] s)

-- the elements of a list, those of nested lists too, each under the nullables that stand over its lists
abbrev mutual
  pub flat : Expr → List Expr
  flat (list es) = flat_of es
  flat (nullable e) = map nullable (flat e)
  flat e = e ∷ []

  pub flat_of : Exprs → List Expr
  flat_of no_exprs = []
  flat_of (more_exprs e es) = flat e ++ flat_of es

abbrev pub flat_items : Items → List Expr
flat_items no_items = []
flat_items (more_items e by is) = flat e ++ flat_items is
