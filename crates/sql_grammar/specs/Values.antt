-- The values at the places of a tree, from left to right as they are written.
use Rattle.std.specs.Prelude.{List, [], ◌∷◌, ◌++◌, Option, Some, None}
use Rattle.sql_grammar.specs.Tree.{Sample, Whole, Sampled, Page, PageBy, FetchBy, Expression, Path, Placeholder, SingleValue, Exists, Compared, Connected, Not, NullTest, CountAll, Count, InList, InQuery, Constant, Expressions, OnlyExpression, MoreExpression, Items, OnlyItem, MoreItem, Source, Table, Alias, Join, MaybeExpression, NoExpression, SomeExpression, MaybeExpressions, NoExpressions, SomeExpressions, MaybeItems, NoItems, SomeItems, MaybeSource, NoSource, SomeSource, Distinctness, Every, Distinct, DistinctOn, Query, Select, Combined}

abbrev pub values_marks : {M : Type 0} → List M → List M
values_marks ms = ms

abbrev pub values_option : {M : Type 0} → Option M → List M
values_option None = []
values_option (Some m) = m ∷ []

abbrev pub values_sample : {M : Type 0} → Sample M → List M
values_sample Whole = []
values_sample (Sampled by p s) = p ∷ values_option s

abbrev pub values_page : {M : Type 0} → Page M → List M
values_page (PageBy l o) = values_option l ++ values_option o
values_page (FetchBy o l) = values_option o ++ (l ∷ [])

abbrev mutual
  pub values_expression : {M : Type 0} → Expression M → List M
  values_expression (Path a ns) = []
  values_expression (Placeholder m) = m ∷ []
  values_expression (SingleValue q) = values_query q
  values_expression (Exists q) = values_query q
  values_expression (Compared by a b) = values_expression a ++ values_expression b
  values_expression (Connected by a b) = values_expression a ++ values_expression b
  values_expression (Not a) = values_expression a
  values_expression (NullTest k a) = values_expression a
  values_expression CountAll = []
  values_expression (Count a) = values_expression a
  values_expression (InList k a m ms) = values_expression a ++ ((m ∷ []) ++ values_marks ms)
  values_expression (InQuery k a q) = values_expression a ++ values_query q
  values_expression (Constant k) = []

  pub values_expressions : {M : Type 0} → Expressions M → List M
  values_expressions (OnlyExpression a) = values_expression a
  values_expressions (MoreExpression a more) = values_expression a ++ values_expressions more

  pub values_items : {M : Type 0} → Items M → List M
  values_items (OnlyItem a by) = values_expression a
  values_items (MoreItem a by more) = values_expression a ++ values_items more

  pub values_source : {M : Type 0} → Source M → List M
  values_source (Table a ns o s) = values_sample s
  values_source (Alias a ns b) = []
  values_source (Join k a b e) = values_source a ++ (values_source b ++ values_expression e)

  pub values_maybe : {M : Type 0} → MaybeExpression M → List M
  values_maybe NoExpression = []
  values_maybe (SomeExpression e) = values_expression e

  pub values_maybe_expressions : {M : Type 0} → MaybeExpressions M → List M
  values_maybe_expressions NoExpressions = []
  values_maybe_expressions (SomeExpressions es) = values_expressions es

  pub values_maybe_items : {M : Type 0} → MaybeItems M → List M
  values_maybe_items NoItems = []
  values_maybe_items (SomeItems is) = values_items is

  pub values_maybe_source : {M : Type 0} → MaybeSource M → List M
  values_maybe_source NoSource = []
  values_maybe_source (SomeSource s) = values_source s

  pub values_distinct : {M : Type 0} → Distinctness M → List M
  values_distinct Every = []
  values_distinct Distinct = []
  values_distinct (DistinctOn es) = values_expressions es

  pub values_query : {M : Type 0} → Query M → List M
  values_query (Select u es s w gb hv o p l) =
      values_distinct u
      ++ (values_expressions es
      ++ (values_maybe_source s
      ++ (values_maybe w
      ++ (values_maybe_expressions gb ++ (values_maybe hv ++ (values_maybe_items o ++ values_page p))))))
  values_query (Combined a by all b o p) = values_query a ++ (values_query b ++ values_page p)
