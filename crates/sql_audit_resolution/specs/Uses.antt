-- The column paths of a text, in the order of the text, each with the levels in which it is sought, the innermost first
-- (PostgreSQL, Value Expressions, Scalar Subqueries; SELECT, FROM, WHERE and SELECT List; MySQL, Correlated Subqueries).
use Rattle.std.specs.Prelude.{ℕ, ◌+◌, List, [], ◌∷◌, ◌++◌, length}
use Rattle.sql_grammar.specs.Tree.{Expression, Path, Placeholder, SingleValue, Exists, Compared, Connected, Not, NullTest, CountAll, Count, InList, InQuery, Constant, Expressions, OnlyExpression, MoreExpression, Items, OnlyItem, MoreItem, Source, Table, Alias, Join, MaybeExpression, NoExpression, SomeExpression, MaybeExpressions, NoExpressions, SomeExpressions, MaybeItems, NoItems, SomeItems, MaybeSource, NoSource, SomeSource, Distinctness, Every, Distinct, DistinctOn, Query, Select, Combined}
use Rattle.sql_audit_resolution.specs.Leaves.{Backwards, backwards, Level, tables_expression, tables_expressions, tables_source, tables_maybe, tables_group, tables_from, tables_distinct, tables_query, leaves_source, leaves_from}

pub record Use : Type 0 where
  pub path : Backwards
  pub levels : List Level

abbrev mutual
  -- In a clause that sees these levels, where the next leaf has number n. What a subselect in it seeks outwards, it seeks in
  -- them.
  pub uses_expression : {P : Type 0} → List Level → ℕ → Expression P → List Use
  uses_expression ls n (Path a ns) = record { path = backwards a ns; levels = ls } ∷ []
  uses_expression ls n (Placeholder m) = []
  uses_expression ls n (SingleValue q) = uses_query ls n q
  uses_expression ls n (Exists q) = uses_query ls n q
  uses_expression ls n (Compared by a b) =
      uses_expression ls n a ++ uses_expression ls (n + length (tables_expression a)) b
  uses_expression ls n (Connected by a b) =
      uses_expression ls n a ++ uses_expression ls (n + length (tables_expression a)) b
  uses_expression ls n (Not a) = uses_expression ls n a
  uses_expression ls n (NullTest k a) = uses_expression ls n a
  uses_expression ls n CountAll = []
  uses_expression ls n (Count a) = uses_expression ls n a
  uses_expression ls n (InList k a m ms) = uses_expression ls n a
  uses_expression ls n (InQuery k a q) = uses_expression ls n a ++ uses_query ls (n + length (tables_expression a)) q
  uses_expression ls n (Constant b) = []

  pub uses_expressions : {P : Type 0} → List Level → ℕ → Expressions P → List Use
  uses_expressions ls n (OnlyExpression a) = uses_expression ls n a
  uses_expressions ls n (MoreExpression a more) =
      uses_expression ls n a ++ uses_expressions ls (n + length (tables_expression a)) more

  pub uses_items : {P : Type 0} → List Level → ℕ → Items P → List Use
  uses_items ls n (OnlyItem a by) = uses_expression ls n a
  uses_items ls n (MoreItem a by more) =
      uses_expression ls n a ++ uses_items ls (n + length (tables_expression a)) more

  -- an ON sees the leaves of its join
  pub uses_source : {P : Type 0} → ℕ → Source P → List Use
  uses_source n (Table a ns o s) = []
  uses_source n (Alias a ns b) = []
  uses_source n (Join k a b on) =
      uses_source n a ++ (uses_source (n + length (tables_source a)) b
      ++ uses_expression (leaves_source n (Join k a b on) ∷ [])
      (n + length (tables_source a) + length (tables_source b)) on)

  pub uses_maybe : {P : Type 0} → List Level → ℕ → MaybeExpression P → List Use
  uses_maybe ls n NoExpression = []
  uses_maybe ls n (SomeExpression e) = uses_expression ls n e

  pub uses_group : {P : Type 0} → List Level → ℕ → MaybeExpressions P → List Use
  uses_group ls n NoExpressions = []
  uses_group ls n (SomeExpressions es) = uses_expressions ls n es

  pub uses_order : {P : Type 0} → List Level → ℕ → MaybeItems P → List Use
  uses_order ls n NoItems = []
  uses_order ls n (SomeItems is) = uses_items ls n is

  pub uses_from : {P : Type 0} → ℕ → MaybeSource P → List Use
  uses_from n NoSource = []
  uses_from n (SomeSource s) = uses_source n s

  pub uses_distinct : {P : Type 0} → List Level → ℕ → Distinctness P → List Use
  uses_distinct ls n Every = []
  uses_distinct ls n Distinct = []
  uses_distinct ls n (DistinctOn es) = uses_expressions ls n es

  -- WHERE sees its select's leaves and then, outwards, what the clause around the select sees; each other clause its select's leaves
  -- alone. The sides of a combination are enclosed as the combination is.
  pub uses_query : {P : Type 0} → List Level → ℕ → Query P → List Use
  uses_query around n (Select u es f w g h o p l) =
      let n1 = n + length (tables_distinct u) in
      let n2 = n1 + length (tables_expressions es) in
      let n3 = n2 + length (tables_from f) in
      let n4 = n3 + length (tables_maybe w) in
      let n5 = n4 + length (tables_group g) in
      let n6 = n5 + length (tables_maybe h) in
      let own = leaves_from n2 f in
      let here = own ∷ [] in
      uses_distinct here n u ++ (uses_expressions here n1 es ++ (uses_from n2 f ++ (uses_maybe (own ∷ around) n3 w
      ++ (uses_group here n4 g ++ (uses_maybe here n5 h ++ uses_order here n6 o)))))
  uses_query around n (Combined a by all b o p) =
      uses_query around n a ++ uses_query around (n + length (tables_query a)) b
