-- The filled tree of a statement: the tree of its nodes, with its values at their places. Each clause has its production
-- (PostgreSQL, SELECT and 4.2 Value Expressions; MySQL, SELECT Statement; SQLite, SELECT). Where a list stands as an operand,
-- a list is empty or a join has no condition there is no production, and COUNT(*) stands for what is missing.
use Rattle.std.specs.Prelude.{ℕ, ℤ, List, [], ◌∷◌, ◌++◌, map, Option, Some, None, option_map, decimal, Bool}
use Rattle.sql_dialect.specs.Supports.{is_all}
use Rattle.sql_dialect.specs.declared.backend.Dialect.{Dialect}
use Rattle.sql_dialect.specs.declared.backend.Dialect.TheVariants.{Pg, Mysql, Sqlite, Bracket}
use Rattle.sql_dialect.specs.Syntax.{array}
use Rattle.sql_dialect.specs.declared.syntax.ArrayComparison.{ArrayComparison}
use Rattle.sql_dialect.specs.declared.syntax.ArrayComparison.TheVariants.{AnsiSqlArrayComparison, PgStyleArrayComparison}
use Rattle.sql_schema.specs.declared.declaration.TableDecl.{TableDecl}
use Rattle.sql_grammar.specs.Numbering.{numbered}
use Rattle.sql_grammar.specs.Tree as g
use Rattle.sql_pass.specs.declared.value.Bound.{Bound}
use Rattle.sql_pass.specs.declared.value.Bound.TheVariants.{Value as OneValue, List as ManyValues}
use Rattle.sql_pass.specs.Bounds.{of_i16, of_i32, of_i64}
use Rattle.sql_leaf.specs.declared.position.PositionalItem.{PositionalItem}
use Rattle.sql_leaf.specs.declared.table_source.Tablesample.{Tablesample}
use Rattle.sql_node.specs.Tree.{Form, unboxed, boxed, Expr, column, value, list, count_star, nullable, unary, count, compared, joined, exists, single, among_values, among_rows, Exprs, no_exprs, more_exprs, Items, no_items, more_items, MaybeExpr, no_expr, an_expr, Source, of_table, of_alias, join, From, no_source, from, Distinct, every, distinct, distinct_on, Order, no_order, order_by, Statement, select, combination}
use Rattle.sql_normal.specs.Words.{comparison_of, logic_of, direction_of, kind_of, method_of, lock_of, operator_of, unary_tree}

-- ---- names

-- the first name of a path, and those after it
abbrev pub first_name : Option (List ℕ) → List ℕ → List ℕ
first_name None name = name
first_name (Some schema) name = schema

abbrev pub more_names : Option (List ℕ) → List ℕ → List (List ℕ) → List (List ℕ)
more_names None name more = more
more_names (Some schema) name more = name ∷ more

-- a column after its alias, or after its table with its schema
abbrev pub column_path : Option (List ℕ) → TableDecl → List ℕ → g.Expression Bound
column_path None t c = g.Path (first_name t.schema t.sql_name) (more_names t.schema t.sql_name (c ∷ []))
column_path (Some alias) t c = g.Path alias (c ∷ [])

-- ---- lists

-- the one expression that stands for an operand
abbrev pub lead : List (g.Expression Bound) → g.Expression Bound
lead [] = g.CountAll
lead (t ∷ ts) = t

abbrev pub expressions_from : g.Expression Bound → List (g.Expression Bound) → g.Expressions Bound
expressions_from t [] = g.OnlyExpression t
expressions_from t (next ∷ ts) = g.MoreExpression t (expressions_from next ts)

abbrev pub expressions_of : List (g.Expression Bound) → g.Expressions Bound
expressions_of [] = g.OnlyExpression g.CountAll
expressions_of (t ∷ ts) = expressions_from t ts

-- an expression in an order, with its direction
abbrev pub Item : Type 0
Item = g.Expression Bound × g.Direction

abbrev pub items_from : Item → List Item → g.Items Bound
items_from i [] = g.OnlyItem i.0 i.1
items_from i (next ∷ is) = g.MoreItem i.0 i.1 (items_from next is)

abbrev pub items_of : List Item → g.Items Bound
items_of [] = g.OnlyItem g.CountAll g.Plain
items_of (i ∷ is) = items_from i is

abbrev pub places_from : PositionalItem → List PositionalItem → g.Places
places_from p [] = g.OnlyPlace (decimal p.column.0) (direction_of p.direction)
places_from p (next ∷ ps) = g.MorePlace (decimal p.column.0) (direction_of p.direction) (places_from next ps)

abbrev pub places_of : Option (List PositionalItem) → g.MaybePlaces
places_of None = g.NoPlaces
places_of (Some []) = g.NoPlaces
places_of (Some (p ∷ ps)) = g.SomePlaces (places_from p ps)

-- ---- memberships

-- in a list of these values; nothing is among no values
abbrev pub one_by_one : Bool → g.Expression Bound → List Bound → g.Expression Bound
one_by_one negated x [] = g.Constant negated
one_by_one negated x (b ∷ bs) = g.InList negated x b bs

-- in one array of all the values, or in a list of each of them
abbrev pub among_as : ArrayComparison → Bool → g.Expression Bound → Bound → List Bound → g.Expression Bound
among_as PgStyleArrayComparison negated x all each = g.InList negated x all []
among_as AnsiSqlArrayComparison negated x all each = one_by_one negated x each

abbrev pub among : Dialect → Bool → g.Expression Bound → Bound → List Bound → g.Expression Bound
among d negated x all each = among_as (array d) negated x all each

-- ---- samples, pages and locks

abbrev pub sample_of : Option Tablesample → g.Sample Bound
sample_of None = g.Whole
sample_of (Some s) = g.Sampled (method_of s.method) (of_i16 s.portion) (option_map of_i32 s.seed)

-- a page with a limit; on Bracket the offset stands before it
abbrev pub limited : Dialect → Bound → Option Bound → g.Page Bound
limited Pg limit offset = g.PageBy (Some limit) offset
limited Mysql limit offset = g.PageBy (Some limit) offset
limited Sqlite limit offset = g.PageBy (Some limit) offset
limited Bracket limit offset = g.FetchBy offset limit

abbrev pub page_of : Dialect → (limit offset : Option ℤ) → g.Page Bound
page_of d None offset = g.PageBy None (option_map of_i64 offset)
page_of d (Some limit) offset = limited d (of_i64 limit) (option_map of_i64 offset)

abbrev pub lock_in : Form → g.Lock
lock_in (unboxed lock) = lock_of lock
lock_in (boxed d all_nullable) = g.Unlocked

-- ---- nodes

abbrev mutual
  -- of an expression that is no list its own tree alone, of a list those of each element
  pub trees : Dialect → Expr → List (g.Expression Bound)
  trees d (column o c) = column_path o.alias o.table c.sql_name ∷ []
  trees d (value t v) = g.Placeholder (OneValue t v) ∷ []
  trees d (list es) = trees_in d es
  trees d count_star = g.CountAll ∷ []
  trees d (nullable e) = trees d e
  trees d (unary u e) = unary_tree u (lead (trees d e)) ∷ []
  trees d (count e) = g.Count (lead (trees d e)) ∷ []
  trees d (compared by a b) = g.Compared (comparison_of by) (lead (trees d a)) (lead (trees d b)) ∷ []
  trees d (joined by a b) = g.Connected (logic_of by) (lead (trees d a)) (lead (trees d b)) ∷ []
  trees d (exists q) = g.Exists (filled d q) ∷ []
  trees d (single q) = g.SingleValue (filled d q) ∷ []
  trees d (among_values negated e t vs) =
      among d negated (lead (trees d e)) (ManyValues t vs) (map (OneValue t) vs) ∷ []
  trees d (among_rows negated e q) = g.InQuery negated (lead (trees d e)) (filled d q) ∷ []

  pub trees_in : Dialect → Exprs → List (g.Expression Bound)
  trees_in d no_exprs = []
  trees_in d (more_exprs e es) = trees d e ++ trees_in d es

  pub item_trees : Dialect → Items → List Item
  item_trees d no_items = []
  item_trees d (more_items e by is) = (lead (trees d e), direction_of by) ∷ item_trees d is

  -- WHERE and HAVING
  pub maybe_tree : Dialect → MaybeExpr → g.MaybeExpression Bound
  maybe_tree d no_expr = g.NoExpression
  maybe_tree d (an_expr e) = g.SomeExpression (lead (trees d e))

  -- GROUP BY
  pub group_tree : Dialect → MaybeExpr → g.MaybeExpressions Bound
  group_tree d no_expr = g.NoExpressions
  group_tree d (an_expr e) = g.SomeExpressions (expressions_of (trees d e))

  pub on_tree : Dialect → MaybeExpr → g.Expression Bound
  on_tree d no_expr = g.CountAll
  on_tree d (an_expr e) = lead (trees d e)

  pub source_tree : Dialect → Source → g.Source Bound
  source_tree d (of_table t only sample) =
      g.Table (first_name t.schema t.sql_name) (more_names t.schema t.sql_name []) only (sample_of sample)
  source_tree d (of_alias name t) = g.Alias (first_name t.schema t.sql_name) (more_names t.schema t.sql_name []) name
  source_tree d (join kind l r on) = g.Join (kind_of kind) (source_tree d l) (source_tree d r) (on_tree d on)

  pub from_tree : Dialect → From → g.MaybeSource Bound
  from_tree d no_source = g.NoSource
  from_tree d (from s) = g.SomeSource (source_tree d s)

  pub distinct_tree : Dialect → Distinct → g.Distinctness Bound
  distinct_tree d every = g.Every
  distinct_tree d distinct = g.Distinct
  distinct_tree d (distinct_on e) = g.DistinctOn (expressions_of (trees d e))

  pub order_tree : Dialect → Order → g.MaybeItems Bound
  order_tree d no_order = g.NoItems
  order_tree d (order_by is) = g.SomeItems (items_of (item_trees d is))

  pub filled : Dialect → Statement → g.Query Bound
  filled d (select default e f u w o rows by h form marks) =
      g.Select (distinct_tree d u) (expressions_of (trees d e)) (from_tree d f) (maybe_tree d w) (group_tree d by)
      (maybe_tree d h) (order_tree d o) (page_of d rows.limit_clause rows.offset_clause)
      (lock_in form)
  filled d (combination by all a b o rows) =
      g.Combined (filled d a) (operator_of by) (is_all all) (filled d b) (places_of o)
      (page_of d rows.limit_clause rows.offset_clause)

-- The normal tree: with a placeholder for each value, numbered from left to right where the dialect numbers them.
abbrev pub normal : Dialect → Statement → g.Query g.Mark
normal d s = numbered d (filled d s)
