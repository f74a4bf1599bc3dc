-- The places of values in a tree, counted from left to right as they are written.
use Rattle.std.specs.Prelude.{◌≡◌, ℕ, suc, List, [], ◌∷◌, Option, Some, None}
use Rattle.std.specs.List.{slice_get}
use Rattle.sql_dialect.specs.declared.backend.Dialect.{Dialect}
use Rattle.sql_dialect.specs.declared.backend.Dialect.TheVariants.{Pg, Mysql, Sqlite, Bracket}
use Rattle.sql_grammar.specs.Values.{values_expression, values_expressions, values_source, values_maybe, values_maybe_expressions, values_maybe_items, values_maybe_source, values_distinct, values_query, values_option}
use Rattle.sql_grammar.specs.Tree.{Mark, Sample, Whole, Sampled, Page, PageBy, FetchBy, Expression, Path, Placeholder, SingleValue, Exists, Compared, Connected, Not, NullTest, CountAll, Count, InList, InQuery, Constant, Expressions, OnlyExpression, MoreExpression, Items, OnlyItem, MoreItem, Source, Table, Alias, Join, MaybeExpression, NoExpression, SomeExpression, MaybeExpressions, NoExpressions, SomeExpressions, MaybeItems, NoItems, SomeItems, MaybeSource, NoSource, SomeSource, Distinctness, Every, Distinct, DistinctOn, Query, Select, Combined}

-- ## What stands at each place is replaced by f of the number of places before it and of itself

-- how many places there are with these, where n come before them
abbrev pub after : {M : Type 0} → ℕ → List M → ℕ
after n [] = n
after n (m ∷ ms) = after (suc n) ms

abbrev pub each_marks : {M N : Type 0} → (ℕ → M → N) → ℕ → List M → List N
each_marks f n [] = []
each_marks f n (m ∷ ms) = f n m ∷ each_marks f (suc n) ms

abbrev pub each_option : {M N : Type 0} → (ℕ → M → N) → ℕ → Option M → Option N
each_option f n None = None
each_option f n (Some m) = Some (f n m)

abbrev pub each_sample : {M N : Type 0} → (ℕ → M → N) → ℕ → Sample M → Sample N
each_sample f n Whole = Whole
each_sample f n (Sampled by p s) = Sampled by (f n p) (each_option f (suc n) s)

abbrev pub each_page : {M N : Type 0} → (ℕ → M → N) → ℕ → Page M → Page N
each_page f n (PageBy l o) = PageBy (each_option f n l) (each_option f (after n (values_option l)) o)
each_page f n (FetchBy o l) = FetchBy (each_option f n o) (f (after n (values_option o)) l)

abbrev mutual
  pub each_expression : {M N : Type 0} → (ℕ → M → N) → ℕ → Expression M → Expression N
  each_expression f n (Path a ns) = Path a ns
  each_expression f n (Placeholder m) = Placeholder (f n m)
  each_expression f n (SingleValue q) = SingleValue (each_query f n q)
  each_expression f n (Exists q) = Exists (each_query f n q)
  each_expression f n (Compared by a b) =
      Compared by (each_expression f n a) (each_expression f (after n (values_expression a)) b)
  each_expression f n (Connected by a b) =
      Connected by (each_expression f n a) (each_expression f (after n (values_expression a)) b)
  each_expression f n (Not a) = Not (each_expression f n a)
  each_expression f n (NullTest b a) = NullTest b (each_expression f n a)
  each_expression f n CountAll = CountAll
  each_expression f n (Count a) = Count (each_expression f n a)
  each_expression f n (InList b a m ms) =
      InList b (each_expression f n a) (f (after n (values_expression a)) m) (each_marks f (suc (after n (values_expression a))) ms)
  each_expression f n (InQuery b a q) = InQuery b (each_expression f n a) (each_query f (after n (values_expression a)) q)
  each_expression f n (Constant b) = Constant b

  pub each_expressions : {M N : Type 0} → (ℕ → M → N) → ℕ → Expressions M → Expressions N
  each_expressions f n (OnlyExpression a) = OnlyExpression (each_expression f n a)
  each_expressions f n (MoreExpression a more) =
      MoreExpression (each_expression f n a) (each_expressions f (after n (values_expression a)) more)

  pub each_items : {M N : Type 0} → (ℕ → M → N) → ℕ → Items M → Items N
  each_items f n (OnlyItem a by) = OnlyItem (each_expression f n a) by
  each_items f n (MoreItem a by more) = MoreItem (each_expression f n a) by (each_items f (after n (values_expression a)) more)

  pub each_source : {M N : Type 0} → (ℕ → M → N) → ℕ → Source M → Source N
  each_source f n (Table a ns o s) = Table a ns o (each_sample f n s)
  each_source f n (Alias a ns b) = Alias a ns b
  each_source f n (Join k a b e) =
      Join k (each_source f n a) (each_source f (after n (values_source a)) b)
      (each_expression f (after (after n (values_source a)) (values_source b)) e)

  pub each_maybe : {M N : Type 0} → (ℕ → M → N) → ℕ → MaybeExpression M → MaybeExpression N
  each_maybe f n NoExpression = NoExpression
  each_maybe f n (SomeExpression e) = SomeExpression (each_expression f n e)

  pub each_maybe_expressions : {M N : Type 0} → (ℕ → M → N) → ℕ → MaybeExpressions M → MaybeExpressions N
  each_maybe_expressions f n NoExpressions = NoExpressions
  each_maybe_expressions f n (SomeExpressions es) = SomeExpressions (each_expressions f n es)

  pub each_maybe_items : {M N : Type 0} → (ℕ → M → N) → ℕ → MaybeItems M → MaybeItems N
  each_maybe_items f n NoItems = NoItems
  each_maybe_items f n (SomeItems is) = SomeItems (each_items f n is)

  pub each_maybe_source : {M N : Type 0} → (ℕ → M → N) → ℕ → MaybeSource M → MaybeSource N
  each_maybe_source f n NoSource = NoSource
  each_maybe_source f n (SomeSource s) = SomeSource (each_source f n s)

  pub each_distinct : {M N : Type 0} → (ℕ → M → N) → ℕ → Distinctness M → Distinctness N
  each_distinct f n Every = Every
  each_distinct f n Distinct = Distinct
  each_distinct f n (DistinctOn es) = DistinctOn (each_expressions f n es)

  pub each_query : {M N : Type 0} → (ℕ → M → N) → ℕ → Query M → Query N
  each_query f n (Select u es s w g h o p l) =
      let n1 = after n (values_distinct u) in
      let n2 = after n1 (values_expressions es) in
      let n3 = after n2 (values_maybe_source s) in
      let n4 = after n3 (values_maybe w) in
      let n5 = after n4 (values_maybe_expressions g) in
      let n6 = after n5 (values_maybe h) in
      let n7 = after n6 (values_maybe_items o) in
      Select (each_distinct f n u) (each_expressions f n1 es) (each_maybe_source f n2 s) (each_maybe f n3 w)
      (each_maybe_expressions f n4 g) (each_maybe f n5 h) (each_maybe_items f n6 o) (each_page f n7 p) l
  each_query f n (Combined a by all b o p) =
      Combined (each_query f n a) by all (each_query f (after n (values_query a)) b) o
      (each_page f (after (after n (values_query a)) (values_query b)) p)

-- ## Normal trees and filled trees

-- the mark of the placeholder that has n before it: numbers begin at 1
abbrev pub mark_of : Dialect → ℕ → Mark
mark_of Pg n = Some (suc n)
mark_of Mysql n = None
mark_of Sqlite n = None
mark_of Bracket n = Some (suc n)

-- The tree with a placeholder for each value, numbered from left to right on Pg and Bracket. Of a statement's filled tree
-- it is the normal tree.
abbrev pub numbered : {V : Type 0} → Dialect → Query V → Query Mark
numbered d q = each_query (λ n v. mark_of d n) 0 q

-- Filling the k-th placeholder of a tree with the k-th of these values gives this tree, and each place has a value.
abbrev pub Fills : {V : Type 0} → Query Mark → List V → Query V → Type 0
Fills t vs filled = each_query (λ k m. slice_get vs k) 0 t ≡ each_query (λ k v. Some v) 0 filled
