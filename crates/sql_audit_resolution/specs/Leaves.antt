-- The tables and aliases in the FROM clauses of a text, its leaves, in the order of the text (PostgreSQL, SELECT, FROM Clause; Table
-- Expressions, Table and Column Aliases).
use Rattle.std.specs.Prelude.{ℕ, ◌+◌, List, [], ◌∷◌, ◌++◌, length, reverse}
use Rattle.sql_grammar.specs.Tree.{Name, Expression, Path, Placeholder, SingleValue, Exists, Compared, Connected, Not, NullTest, CountAll, Count, InList, InQuery, Constant, Expressions, OnlyExpression, MoreExpression, Items, OnlyItem, MoreItem, Source, Table, Alias, Join, MaybeExpression, NoExpression, SomeExpression, MaybeExpressions, NoExpressions, SomeExpressions, MaybeItems, NoItems, SomeItems, MaybeSource, NoSource, SomeSource, Distinctness, Every, Distinct, DistinctOn, Query, Select, Combined}

-- The names of a path from the last to the first, as they are sought: the column's, the table's, the schema's.
abbrev pub Backwards : Type 0
Backwards = List Name

abbrev pub backwards : Name → List Name → Backwards
backwards a more = reverse (a ∷ more)

-- ## The paths of the tables that stand in each node, one for each leaf, in the order of the text

abbrev mutual
  pub tables_expression : {P : Type 0} → Expression P → List Backwards
  tables_expression (Path a ns) = []
  tables_expression (Placeholder m) = []
  tables_expression (SingleValue q) = tables_query q
  tables_expression (Exists q) = tables_query q
  tables_expression (Compared by a b) = tables_expression a ++ tables_expression b
  tables_expression (Connected by a b) = tables_expression a ++ tables_expression b
  tables_expression (Not a) = tables_expression a
  tables_expression (NullTest k a) = tables_expression a
  tables_expression CountAll = []
  tables_expression (Count a) = tables_expression a
  tables_expression (InList k a m ms) = tables_expression a
  tables_expression (InQuery k a q) = tables_expression a ++ tables_query q
  tables_expression (Constant b) = []

  pub tables_expressions : {P : Type 0} → Expressions P → List Backwards
  tables_expressions (OnlyExpression a) = tables_expression a
  tables_expressions (MoreExpression a more) = tables_expression a ++ tables_expressions more

  pub tables_items : {P : Type 0} → Items P → List Backwards
  tables_items (OnlyItem a by) = tables_expression a
  tables_items (MoreItem a by more) = tables_expression a ++ tables_items more

  pub tables_source : {P : Type 0} → Source P → List Backwards
  tables_source (Table a ns o s) = backwards a ns ∷ []
  tables_source (Alias a ns b) = backwards a ns ∷ []
  tables_source (Join k a b on) = tables_source a ++ (tables_source b ++ tables_expression on)

  pub tables_maybe : {P : Type 0} → MaybeExpression P → List Backwards
  tables_maybe NoExpression = []
  tables_maybe (SomeExpression e) = tables_expression e

  pub tables_group : {P : Type 0} → MaybeExpressions P → List Backwards
  tables_group NoExpressions = []
  tables_group (SomeExpressions es) = tables_expressions es

  pub tables_order : {P : Type 0} → MaybeItems P → List Backwards
  tables_order NoItems = []
  tables_order (SomeItems is) = tables_items is

  pub tables_from : {P : Type 0} → MaybeSource P → List Backwards
  tables_from NoSource = []
  tables_from (SomeSource s) = tables_source s

  pub tables_distinct : {P : Type 0} → Distinctness P → List Backwards
  tables_distinct Every = []
  tables_distinct Distinct = []
  tables_distinct (DistinctOn es) = tables_expressions es

  -- The selection stands before FROM, so a subselect in it has its leaves before those of its own select statement's FROM.
  pub tables_query : {P : Type 0} → Query P → List Backwards
  tables_query (Select u es f w g h o p l) =
      tables_distinct u ++ (tables_expressions es ++ (tables_from f ++ (tables_maybe w
      ++ (tables_group g ++ (tables_maybe h ++ tables_order o)))))
  tables_query (Combined a by all b o p) = tables_query a ++ tables_query b

-- ## The leaves of one FROM

pub record Leaf : Type 0 where
  -- its place among the leaves of the whole text, from 0
  pub number : ℕ
  -- the path by which columns name it: the alias, or its table's path
  pub exposed : Backwards
  -- the path of its table
  pub table : Backwards

-- the leaves that a clause sees at once
abbrev pub Level : Type 0
Level = List Leaf

-- from left to right, where the first leaf that stands in the source has number n; those of subselects in its conditions are
-- numbered too, and not among them
abbrev pub leaves_source : {P : Type 0} → ℕ → Source P → Level
leaves_source n (Table a ns o s) =
    record { number = n; exposed = backwards a ns; table = backwards a ns } ∷ []
leaves_source n (Alias a ns b) = record { number = n; exposed = b ∷ []; table = backwards a ns } ∷ []
leaves_source n (Join k a b on) = leaves_source n a ++ leaves_source (n + length (tables_source a)) b

abbrev pub leaves_from : {P : Type 0} → ℕ → MaybeSource P → Level
leaves_from n NoSource = []
leaves_from n (SomeSource s) = leaves_source n s
