-- What stands at the places of values matters to no leaf and no path.
use Rattle.std.proofs.Common.{◌≡◌, ℕ, suc, ◌+◌, List, [], ◌∷◌, ◌++◌, length, refl, ap}
use Rattle.sql_grammar.specs.Numbering.{after, each_expression, each_expressions, each_items, each_source, each_maybe, each_maybe_expressions, each_maybe_items, each_maybe_source, each_distinct, each_query}
use Rattle.sql_grammar.specs.Values.{values_expression, values_expressions, values_source, values_maybe, values_maybe_expressions, values_maybe_items, values_maybe_source, values_distinct, values_query}
use Rattle.sql_grammar.specs.Tree.{Expression, Path, Placeholder, SingleValue, Exists, Compared, Connected, Not, NullTest, CountAll, Count, InList, InQuery, Constant, Expressions, OnlyExpression, MoreExpression, Items, OnlyItem, MoreItem, Source, Table, Alias, Join, MaybeExpression, NoExpression, SomeExpression, MaybeExpressions, NoExpressions, SomeExpressions, MaybeItems, NoItems, SomeItems, MaybeSource, NoSource, SomeSource, Distinctness, Every, Distinct, DistinctOn, Query, Select, Combined}
use Rattle.sql_audit_resolution.specs.Leaves as l
use Rattle.sql_audit_resolution.specs.Leaves.{Level}
use Rattle.sql_audit_resolution.specs.Uses as u
use Rattle.sql_audit_law.proofs.Pairs.{both}

module _ {M N : Type 0} (f : ℕ → M → N) where
  mutual
    tables-expression : (m : ℕ) (e : Expression M) → l.tables_expression (each_expression f m e) ≡ l.tables_expression e
    tables-expression m (Path a ns) = refl
    tables-expression m (Placeholder p) = refl
    tables-expression m (SingleValue q) = tables-query m q
    tables-expression m (Exists q) = tables-query m q
    tables-expression m (Compared by a b) =
        both (tables-expression m a) (tables-expression (after m (values_expression a)) b)
    tables-expression m (Connected by a b) =
        both (tables-expression m a) (tables-expression (after m (values_expression a)) b)
    tables-expression m (Not a) = tables-expression m a
    tables-expression m (NullTest k a) = tables-expression m a
    tables-expression m CountAll = refl
    tables-expression m (Count a) = tables-expression m a
    tables-expression m (InList k a p ps) = tables-expression m a
    tables-expression m (InQuery k a q) = both (tables-expression m a) (tables-query (after m (values_expression a)) q)
    tables-expression m (Constant b) = refl

    tables-expressions : (m : ℕ) (es : Expressions M)
        → l.tables_expressions (each_expressions f m es) ≡ l.tables_expressions es
    tables-expressions m (OnlyExpression a) = tables-expression m a
    tables-expressions m (MoreExpression a more) =
        both (tables-expression m a) (tables-expressions (after m (values_expression a)) more)

    tables-items : (m : ℕ) (is : Items M) → l.tables_items (each_items f m is) ≡ l.tables_items is
    tables-items m (OnlyItem a by) = tables-expression m a
    tables-items m (MoreItem a by more) =
        both (tables-expression m a) (tables-items (after m (values_expression a)) more)

    tables-source : (m : ℕ) (s : Source M) → l.tables_source (each_source f m s) ≡ l.tables_source s
    tables-source m (Table a ns o s) = refl
    tables-source m (Alias a ns b) = refl
    tables-source m (Join k a b on) =
        let m1 = after m (values_source a) in
        both (tables-source m a)
        (both (tables-source m1 b) (tables-expression (after m1 (values_source b)) on))

    tables-maybe : (m : ℕ) (e : MaybeExpression M) → l.tables_maybe (each_maybe f m e) ≡ l.tables_maybe e
    tables-maybe m NoExpression = refl
    tables-maybe m (SomeExpression e) = tables-expression m e

    tables-group : (m : ℕ) (g : MaybeExpressions M)
        → l.tables_group (each_maybe_expressions f m g) ≡ l.tables_group g
    tables-group m NoExpressions = refl
    tables-group m (SomeExpressions es) = tables-expressions m es

    tables-order : (m : ℕ) (o : MaybeItems M) → l.tables_order (each_maybe_items f m o) ≡ l.tables_order o
    tables-order m NoItems = refl
    tables-order m (SomeItems is) = tables-items m is

    tables-from : (m : ℕ) (s : MaybeSource M) → l.tables_from (each_maybe_source f m s) ≡ l.tables_from s
    tables-from m NoSource = refl
    tables-from m (SomeSource s) = tables-source m s

    tables-distinct : (m : ℕ) (d : Distinctness M) → l.tables_distinct (each_distinct f m d) ≡ l.tables_distinct d
    tables-distinct m Every = refl
    tables-distinct m Distinct = refl
    tables-distinct m (DistinctOn es) = tables-expressions m es

    pub tables-query : (m : ℕ) (q : Query M) → l.tables_query (each_query f m q) ≡ l.tables_query q
    tables-query m (Select d es s w g h o p k) =
        let m1 = after m (values_distinct d) in
        let m2 = after m1 (values_expressions es) in
        let m3 = after m2 (values_maybe_source s) in
        let m4 = after m3 (values_maybe w) in
        let m5 = after m4 (values_maybe_expressions g) in
        let m6 = after m5 (values_maybe h) in
        both (tables-distinct m d) (both (tables-expressions m1 es) (both (tables-from m2 s) (both (tables-maybe m3 w)
        (both (tables-group m4 g) (both (tables-maybe m5 h) (tables-order m6 o))))))
    tables-query m (Combined a by all b o p) = both (tables-query m a) (tables-query (after m (values_query a)) b)

  leaves-source : (n m : ℕ) (s : Source M) → l.leaves_source n (each_source f m s) ≡ l.leaves_source n s
  leaves-source n m (Table a ns o s) = refl
  leaves-source n m (Alias a ns b) = refl
  leaves-source n m (Join k a b on) =
      rw (tables-source m a)
      (both (leaves-source n m a) (leaves-source (n + length (l.tables_source a)) (after m (values_source a)) b))

  leaves-from : (n m : ℕ) (s : MaybeSource M) → l.leaves_from n (each_maybe_source f m s) ≡ l.leaves_from n s
  leaves-from n m NoSource = refl
  leaves-from n m (SomeSource s) = leaves-source n m s

  mutual
    uses-expression : (ls : List Level) (n m : ℕ) (e : Expression M)
        → u.uses_expression ls n (each_expression f m e) ≡ u.uses_expression ls n e
    uses-expression ls n m (Path a ns) = refl
    uses-expression ls n m (Placeholder p) = refl
    uses-expression ls n m (SingleValue q) = uses-query ls n m q
    uses-expression ls n m (Exists q) = uses-query ls n m q
    uses-expression ls n m (Compared by a b) =
        rw (tables-expression m a)
        (both (uses-expression ls n m a)
        (uses-expression ls (n + length (l.tables_expression a)) (after m (values_expression a)) b))
    uses-expression ls n m (Connected by a b) =
        rw (tables-expression m a)
        (both (uses-expression ls n m a)
        (uses-expression ls (n + length (l.tables_expression a)) (after m (values_expression a)) b))
    uses-expression ls n m (Not a) = uses-expression ls n m a
    uses-expression ls n m (NullTest k a) = uses-expression ls n m a
    uses-expression ls n m CountAll = refl
    uses-expression ls n m (Count a) = uses-expression ls n m a
    uses-expression ls n m (InList k a p ps) = uses-expression ls n m a
    uses-expression ls n m (InQuery k a q) =
        rw (tables-expression m a)
        (both (uses-expression ls n m a)
        (uses-query ls (n + length (l.tables_expression a)) (after m (values_expression a)) q))
    uses-expression ls n m (Constant b) = refl

    uses-expressions : (ls : List Level) (n m : ℕ) (es : Expressions M)
        → u.uses_expressions ls n (each_expressions f m es) ≡ u.uses_expressions ls n es
    uses-expressions ls n m (OnlyExpression a) = uses-expression ls n m a
    uses-expressions ls n m (MoreExpression a more) =
        rw (tables-expression m a)
        (both (uses-expression ls n m a)
        (uses-expressions ls (n + length (l.tables_expression a)) (after m (values_expression a)) more))

    uses-items : (ls : List Level) (n m : ℕ) (is : Items M)
        → u.uses_items ls n (each_items f m is) ≡ u.uses_items ls n is
    uses-items ls n m (OnlyItem a by) = uses-expression ls n m a
    uses-items ls n m (MoreItem a by more) =
        rw (tables-expression m a)
        (both (uses-expression ls n m a)
        (uses-items ls (n + length (l.tables_expression a)) (after m (values_expression a)) more))

    uses-source : (n m : ℕ) (s : Source M) → u.uses_source n (each_source f m s) ≡ u.uses_source n s
    uses-source n m (Table a ns o s) = refl
    uses-source n m (Alias a ns b) = refl
    uses-source n m (Join k a b on) =
        let m1 = after m (values_source a) in
        let m2 = after m1 (values_source b) in
        let n1 = n + length (l.tables_source a) in
        rw (tables-source m a, tables-source m1 b, leaves-source n m a, leaves-source n1 m1 b)
        (both (uses-source n m a) (both (uses-source n1 m1 b)
        (uses-expression ((l.leaves_source n a ++ l.leaves_source n1 b) ∷ []) (n1 + length (l.tables_source b)) m2 on)))

    uses-maybe : (ls : List Level) (n m : ℕ) (e : MaybeExpression M)
        → u.uses_maybe ls n (each_maybe f m e) ≡ u.uses_maybe ls n e
    uses-maybe ls n m NoExpression = refl
    uses-maybe ls n m (SomeExpression e) = uses-expression ls n m e

    uses-group : (ls : List Level) (n m : ℕ) (g : MaybeExpressions M)
        → u.uses_group ls n (each_maybe_expressions f m g) ≡ u.uses_group ls n g
    uses-group ls n m NoExpressions = refl
    uses-group ls n m (SomeExpressions es) = uses-expressions ls n m es

    uses-order : (ls : List Level) (n m : ℕ) (o : MaybeItems M)
        → u.uses_order ls n (each_maybe_items f m o) ≡ u.uses_order ls n o
    uses-order ls n m NoItems = refl
    uses-order ls n m (SomeItems is) = uses-items ls n m is

    uses-from : (n m : ℕ) (s : MaybeSource M) → u.uses_from n (each_maybe_source f m s) ≡ u.uses_from n s
    uses-from n m NoSource = refl
    uses-from n m (SomeSource s) = uses-source n m s

    uses-distinct : (ls : List Level) (n m : ℕ) (d : Distinctness M)
        → u.uses_distinct ls n (each_distinct f m d) ≡ u.uses_distinct ls n d
    uses-distinct ls n m Every = refl
    uses-distinct ls n m Distinct = refl
    uses-distinct ls n m (DistinctOn es) = uses-expressions ls n m es

    pub uses-query : (ls : List Level) (n m : ℕ) (q : Query M)
        → u.uses_query ls n (each_query f m q) ≡ u.uses_query ls n q
    uses-query ls n m (Select d es s w g h o p k) =
        let m1 = after m (values_distinct d) in
        let m2 = after m1 (values_expressions es) in
        let m3 = after m2 (values_maybe_source s) in
        let m4 = after m3 (values_maybe w) in
        let m5 = after m4 (values_maybe_expressions g) in
        let m6 = after m5 (values_maybe h) in
        let n1 = n + length (l.tables_distinct d) in
        let n2 = n1 + length (l.tables_expressions es) in
        let n3 = n2 + length (l.tables_from s) in
        let n4 = n3 + length (l.tables_maybe w) in
        let n5 = n4 + length (l.tables_group g) in
        let n6 = n5 + length (l.tables_maybe h) in
        let own = l.leaves_from n2 s in
        let here = own ∷ [] in
        rw (
          tables-distinct m d,
          tables-expressions m1 es,
          tables-from m2 s,
          tables-maybe m3 w,
          tables-group m4 g,
          tables-maybe m5 h,
          leaves-from n2 m2 s,
        )
        (both (uses-distinct here n m d) (both (uses-expressions here n1 m1 es) (both (uses-from n2 m2 s)
        (both (uses-maybe (own ∷ ls) n3 m3 w) (both (uses-group here n4 m4 g) (both (uses-maybe here n5 m5 h)
        (uses-order here n6 m6 o)))))))
    uses-query ls n m (Combined a by all b o p) =
        rw (tables-query m a)
        (both (uses-query ls n m a) (uses-query ls (n + length (l.tables_query a)) (after m (values_query a)) b))
