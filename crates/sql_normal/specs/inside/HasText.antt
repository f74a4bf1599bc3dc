-- Which statements a text of the grammar says: a device between the rules that a statement keeps and the reading of its
-- text. A list stands in list positions alone, and none is empty; each join has its condition; and each form is one that
-- the dialect has.
use Rattle.std.specs.Prelude.{ℕ, ℤ, ◌≤◌, List, [], ◌∷◌, Option, Some, None, Bool, true, false, IsTrue, ◌⊎◌}
use Rattle.sql_dialect.specs.Supports.{combines}
use Rattle.sql_dialect.specs.Written.{numbers, MAX_BINDS}
use Rattle.sql_dialect.specs.declared.backend.Dialect.{Dialect}
use Rattle.sql_dialect.specs.declared.backend.Dialect.TheVariants.{Mysql}
use Rattle.sql_grammar.specs.Fits.{OnPg, FitsOnly, FitsLock}
use Rattle.sql_leaf.specs.declared.position.PositionalItem.{PositionalItem}
use Rattle.sql_leaf.specs.declared.table_source.Tablesample.{Tablesample}
use Rattle.sql_node.specs.Tree.{Form, unboxed, boxed, Expr, list, nullable, unary, count, compared, joined, exists, single, among_values, among_rows, Exprs, no_exprs, more_exprs, Items, no_items, more_items, MaybeExpr, no_expr, an_expr, Source, of_table, of_alias, join, From, no_source, from, Distinct, every, distinct, distinct_on, Order, no_order, order_by, Statement, select, combination}
use Rattle.sql_normal.specs.Filled.{lock_in}

-- no list, nor one under `nullable`
abbrev pub IsSingle : Expr → Type 0
IsSingle (list es) = ⊥
IsSingle (nullable e) = IsSingle e
IsSingle e = Unit {0}

abbrev mutual
  -- no list, or a list with an element; those of lists inside it count
  pub HasElement : Expr → Type 0
  HasElement (list es) = SomeElement es
  HasElement (nullable e) = HasElement e
  HasElement e = Unit {0}

  pub SomeElement : Exprs → Type 0
  SomeElement no_exprs = ⊥
  SomeElement (more_exprs e es) = HasElement e ⊎ SomeElement es

abbrev pub SomeItem : Items → Type 0
SomeItem no_items = ⊥
SomeItem (more_items e by is) = Unit {0}

-- The columns of a combination's order are counted with four bytes.
abbrev pub AreCounted : List PositionalItem → Type 0
AreCounted [] = Unit {0}
AreCounted (p ∷ ps) = (p.column.0 ≤ 4294967295) × AreCounted ps

abbrev pub PlacesHaveText : Option (List PositionalItem) → Type 0
PlacesHaveText None = Unit {0}
PlacesHaveText (Some []) = ⊥
PlacesHaveText (Some (p ∷ ps)) = AreCounted (p ∷ ps)

-- Samples are PostgreSQL's (PostgreSQL, SELECT, FROM Clause).
abbrev pub SampleHasText : Dialect → Option Tablesample → Type 0
SampleHasText d None = Unit {0}
SampleHasText d (Some s) = OnPg d

abbrev pub is_boxed : Form → Bool
is_boxed (unboxed lock) = false
is_boxed (boxed d all_nullable) = true

-- On MySQL an offset has no form without a limit, but in a boxed statement (MySQL, SELECT Statement).
abbrev pub PageHasText : Dialect → Bool → Option ℤ → Option ℤ → Type 0
PageHasText d in_boxed limit None = Unit {0}
PageHasText Mysql false None (Some offset) = ⊥
PageHasText d in_boxed limit (Some offset) = Unit {0}

abbrev mutual
  pub ExprHasText : Dialect → Expr → Type 0
  ExprHasText d (list es) = ExprsHaveText d es
  ExprHasText d (nullable e) = ExprHasText d e
  ExprHasText d (unary negated e) = IsSingle e × ExprHasText d e
  ExprHasText d (count e) = IsSingle e × ExprHasText d e
  ExprHasText d (compared by a b) = (IsSingle a × ExprHasText d a) × (IsSingle b × ExprHasText d b)
  ExprHasText d (joined by a b) = (IsSingle a × ExprHasText d a) × (IsSingle b × ExprHasText d b)
  ExprHasText d (exists q) = HasText d q
  ExprHasText d (single q) = HasText d q
  ExprHasText d (among_values negated e t vs) = IsSingle e × ExprHasText d e
  ExprHasText d (among_rows negated e q) = (IsSingle e × ExprHasText d e) × HasText d q
  ExprHasText d e = Unit {0}

  pub ExprsHaveText : Dialect → Exprs → Type 0
  ExprsHaveText d no_exprs = Unit {0}
  ExprsHaveText d (more_exprs e es) = ExprHasText d e × ExprsHaveText d es

  pub ItemsHaveText : Dialect → Items → Type 0
  ItemsHaveText d no_items = Unit {0}
  ItemsHaveText d (more_items e by is) = (IsSingle e × ExprHasText d e) × ItemsHaveText d is

  -- WHERE and HAVING
  pub MaybeHasText : Dialect → MaybeExpr → Type 0
  MaybeHasText d no_expr = Unit {0}
  MaybeHasText d (an_expr e) = IsSingle e × ExprHasText d e

  -- GROUP BY
  pub GroupHasText : Dialect → MaybeExpr → Type 0
  GroupHasText d no_expr = Unit {0}
  GroupHasText d (an_expr e) = HasElement e × ExprHasText d e

  pub OnHasText : Dialect → MaybeExpr → Type 0
  OnHasText d no_expr = ⊥
  OnHasText d (an_expr e) = IsSingle e × ExprHasText d e

  pub SourceHasText : Dialect → Source → Type 0
  SourceHasText d (of_table t only sample) = FitsOnly d only × SampleHasText d sample
  SourceHasText d (of_alias name t) = Unit {0}
  SourceHasText d (join kind l r on) = SourceHasText d l × SourceHasText d r × OnHasText d on

  pub FromHasText : Dialect → From → Type 0
  FromHasText d no_source = Unit {0}
  FromHasText d (from s) = SourceHasText d s

  -- DISTINCT ON is PostgreSQL's (PostgreSQL, SELECT, DISTINCT Clause).
  pub DistinctHasText : Dialect → Distinct → Type 0
  DistinctHasText d every = Unit {0}
  DistinctHasText d distinct = Unit {0}
  DistinctHasText d (distinct_on e) = OnPg d × HasElement e × ExprHasText d e

  pub OrderHasText : Dialect → Order → Type 0
  OrderHasText d no_order = Unit {0}
  OrderHasText d (order_by is) = SomeItem is × ItemsHaveText d is

  pub HasText : Dialect → Statement → Type 0
  HasText d (select default e f u w o rows by h form marks) =
      DistinctHasText d u × (HasElement e × ExprHasText d e) × FromHasText d f × MaybeHasText d w × GroupHasText d by
      × MaybeHasText d h × OrderHasText d o
      × PageHasText d (is_boxed form) rows.limit_clause rows.offset_clause × FitsLock d (lock_in form)
  HasText d (combination by all a b o rows) =
      HasText d a × IsTrue (combines d by all) × HasText d b × PlacesHaveText o
      × PageHasText d false rows.limit_clause rows.offset_clause

-- Where placeholders have numbers, there is one for each of so many values.
abbrev pub HasNumbers : Dialect → ℕ → Type 0
HasNumbers d n = IsTrue (numbers d) → n ≤ MAX_BINDS
