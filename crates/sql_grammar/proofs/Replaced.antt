-- A replacement of the placeholders of a tree on another: it has as many placeholders as the other, and both are one.
use Rattle.std.proofs.Common.{◌≡◌, ℕ, suc, List, [], ◌∷◌, Option, Some, None, ◌++◌, refl, sym, ap, ◌∙◌}
use Rattle.sql_grammar.specs.Tree.{Sample, Whole, Sampled, Page, PageBy, FetchBy, Expression, Path, Placeholder, SingleValue, Exists, Compared, Connected, Not, NullTest, CountAll, Count, InList, InQuery, Constant, Expressions, OnlyExpression, MoreExpression, Items, OnlyItem, MoreItem, Source, Table, Alias, Join, MaybeExpression, NoExpression, SomeExpression, MaybeExpressions, NoExpressions, SomeExpressions, MaybeItems, NoItems, SomeItems, MaybeSource, NoSource, SomeSource, Distinctness, Every, Distinct, DistinctOn, Query, Select, Combined}
use Rattle.sql_grammar.specs.Values.{values_expression, values_expressions, values_items, values_source, values_maybe, values_maybe_expressions, values_maybe_items, values_maybe_source, values_distinct, values_query, values_option, values_sample, values_page}
use Rattle.sql_grammar.proofs.Numbers.{after-append}
use Rattle.sql_grammar.specs.Numbering.{each_expression, each_expressions, each_items, each_source, each_maybe, each_maybe_expressions, each_maybe_items, each_maybe_source, each_distinct, each_query, each_marks, each_option, each_sample, each_page, after}

-- the lists have as many elements
pub record Alike {M N : Type 0} (xs : List M) (ys : List N) : Type 0 where
  pub same : (n : ℕ) → after n xs ≡ after n ys

none-alike : {M N : Type 0} → Alike {M = M} {N = N} [] []
none-alike = record { same = λ n. refl }

one-alike : {M N : Type 0} (x : M) (y : N) → Alike (x ∷ []) (y ∷ [])
one-alike x y = record { same = λ n. refl }

append-alike : {M N : Type 0} {xs ys : List M} {xs' ys' : List N} → Alike xs xs' → Alike ys ys'
    → Alike (xs ++ ys) (xs' ++ ys')
append-alike {xs} {ys} {xs'} {ys'} h k =
    record {
      same =
          λ n. after-append n xs ys ∙ k.same (after n xs) ∙ ap (λ m. after m ys') (h.same n)
          ∙ sym (after-append n xs' ys');
    }

marks-alike : {M N : Type 0} (g : ℕ → M → N) (n : ℕ) (ms : List M) → Alike (each_marks g n ms) ms
marks-alike g n [] = none-alike
marks-alike g n (m ∷ ms) = append-alike (one-alike (g n m) m) (marks-alike g (suc n) ms)

option-alike : {M N : Type 0} (g : ℕ → M → N) (n : ℕ) (o : Option M)
    → Alike (values_option (each_option g n o)) (values_option o)
option-alike g n None = none-alike
option-alike g n (Some m) = one-alike (g n m) m

sample-alike : {M N : Type 0} (g : ℕ → M → N) (n : ℕ) (s : Sample M)
    → Alike (values_sample (each_sample g n s)) (values_sample s)
sample-alike g n Whole = none-alike
sample-alike g n (Sampled by p s) = append-alike (one-alike (g n p) p) (option-alike g (suc n) s)

page-alike : {M N : Type 0} (g : ℕ → M → N) (n : ℕ) (p : Page M)
    → Alike (values_page (each_page g n p)) (values_page p)
page-alike g n (PageBy l o) =
    append-alike (option-alike g n l) (option-alike g (after n (values_option l)) o)
page-alike g n (FetchBy o l) = append-alike (option-alike g n o) (one-alike (g (after n (values_option o)) l) l)

module _ {M N : Type 0} (g : ℕ → M → N) where
  mutual
    pub expression-alike : (n : ℕ) (t : Expression M)
        → Alike (values_expression (each_expression g n t)) (values_expression t)
    expression-alike n (Path a ns) = none-alike
    expression-alike n (Placeholder m) = one-alike (g n m) m
    expression-alike n (SingleValue q) = query-alike n q
    expression-alike n (Exists q) = query-alike n q
    expression-alike n (Compared by a b) =
        append-alike (expression-alike n a)
        (expression-alike (after n (values_expression a)) b)
    expression-alike n (Connected by a b) =
        append-alike (expression-alike n a)
        (expression-alike (after n (values_expression a)) b)
    expression-alike n (Not a) = expression-alike n a
    expression-alike n (NullTest k a) = expression-alike n a
    expression-alike n CountAll = none-alike
    expression-alike n (Count a) = expression-alike n a
    expression-alike n (InList k a m ms) =
        append-alike (expression-alike n a)
        (append-alike (one-alike (g (after n (values_expression a)) m) m)
        (marks-alike g (suc (after n (values_expression a))) ms))
    expression-alike n (InQuery k a q) =
        append-alike (expression-alike n a)
        (query-alike (after n (values_expression a)) q)
    expression-alike n (Constant k) = none-alike

    pub expressions-alike : (n : ℕ) (t : Expressions M)
        → Alike (values_expressions (each_expressions g n t)) (values_expressions t)
    expressions-alike n (OnlyExpression a) = expression-alike n a
    expressions-alike n (MoreExpression a more) =
        append-alike (expression-alike n a)
        (expressions-alike (after n (values_expression a)) more)

    pub items-alike : (n : ℕ) (t : Items M) → Alike (values_items (each_items g n t)) (values_items t)
    items-alike n (OnlyItem a by) = expression-alike n a
    items-alike n (MoreItem a by more) =
        append-alike (expression-alike n a)
        (items-alike (after n (values_expression a)) more)

    pub source-alike : (n : ℕ) (t : Source M) → Alike (values_source (each_source g n t)) (values_source t)
    source-alike n (Table a ns o s) = sample-alike g n s
    source-alike n (Alias a ns b) = none-alike
    source-alike n (Join k a b e) =
        append-alike (source-alike n a)
        (append-alike (source-alike (after n (values_source a)) b)
        (expression-alike (after (after n (values_source a)) (values_source b)) e))

    pub maybe-alike : (n : ℕ) (t : MaybeExpression M) → Alike (values_maybe (each_maybe g n t)) (values_maybe t)
    maybe-alike n NoExpression = none-alike
    maybe-alike n (SomeExpression e) = expression-alike n e

    pub maybe_expressions-alike : (n : ℕ) (t : MaybeExpressions M)
        → Alike (values_maybe_expressions (each_maybe_expressions g n t)) (values_maybe_expressions t)
    maybe_expressions-alike n NoExpressions = none-alike
    maybe_expressions-alike n (SomeExpressions es) = expressions-alike n es

    pub maybe_items-alike : (n : ℕ) (t : MaybeItems M)
        → Alike (values_maybe_items (each_maybe_items g n t)) (values_maybe_items t)
    maybe_items-alike n NoItems = none-alike
    maybe_items-alike n (SomeItems is) = items-alike n is

    pub maybe_source-alike : (n : ℕ) (t : MaybeSource M)
        → Alike (values_maybe_source (each_maybe_source g n t)) (values_maybe_source t)
    maybe_source-alike n NoSource = none-alike
    maybe_source-alike n (SomeSource s) = source-alike n s

    pub distinct-alike : (n : ℕ) (t : Distinctness M) → Alike (values_distinct (each_distinct g n t)) (values_distinct t)
    distinct-alike n Every = none-alike
    distinct-alike n Distinct = none-alike
    distinct-alike n (DistinctOn es) = expressions-alike n es

    pub query-alike : (n : ℕ) (t : Query M) → Alike (values_query (each_query g n t)) (values_query t)
    query-alike n (Select u es s w gb hv o p l) =
        let n1 = after n (values_distinct u) in
        let n2 = after n1 (values_expressions es) in
        let n3 = after n2 (values_maybe_source s) in
        let n4 = after n3 (values_maybe w) in
        let n5 = after n4 (values_maybe_expressions gb) in
        let n6 = after n5 (values_maybe hv) in
        let n7 = after n6 (values_maybe_items o) in
        append-alike (distinct-alike n u)
        (append-alike (expressions-alike n1 es)
        (append-alike (maybe_source-alike n2 s)
        (append-alike (maybe-alike n3 w)
        (append-alike (maybe_expressions-alike n4 gb)
        (append-alike (maybe-alike n5 hv)
        (append-alike (maybe_items-alike n6 o) (page-alike g n7 p)))))))
    query-alike n (Combined a by all b o p) =
        append-alike (query-alike n a)
        (append-alike (query-alike (after n (values_query a)) b)
        (page-alike g (after (after n (values_query a)) (values_query b)) p))

each_marks-each : {M N O : Type 0} (f : ℕ → N → O) (g : ℕ → M → N) (n : ℕ) (ms : List M)
    → each_marks f n (each_marks g n ms) ≡ each_marks (λ k m. f k (g k m)) n ms
each_marks-each f g n [] = refl
each_marks-each f g n (m ∷ ms) = ap (λ xs. f n (g n m) ∷ xs) (each_marks-each f g (suc n) ms)

each_option-each : {M N O : Type 0} (f : ℕ → N → O) (g : ℕ → M → N) (n : ℕ) (o : Option M)
    → each_option f n (each_option g n o) ≡ each_option (λ k m. f k (g k m)) n o
each_option-each f g n None = refl
each_option-each f g n (Some m) = refl

each_sample-each : {M N O : Type 0} (f : ℕ → N → O) (g : ℕ → M → N) (n : ℕ) (s : Sample M)
    → each_sample f n (each_sample g n s) ≡ each_sample (λ k m. f k (g k m)) n s
each_sample-each f g n Whole = refl
each_sample-each f g n (Sampled by p s) = ap (Sampled by (f n (g n p))) (each_option-each f g (suc n) s)

each_page-each : {M N O : Type 0} (f : ℕ → N → O) (g : ℕ → M → N) (n : ℕ) (p : Page M)
    → each_page f n (each_page g n p) ≡ each_page (λ k m. f k (g k m)) n p
each_page-each f g n (PageBy l o) =
    rw ((option-alike g n l).same n, each_option-each f g n l, each_option-each f g (after n (values_option l)) o)
each_page-each f g n (FetchBy o l) = rw ((option-alike g n o).same n, each_option-each f g n o)

module _ {M N O : Type 0} (f : ℕ → N → O) (g : ℕ → M → N) where
  mutual
    pub each_expression-each : (n : ℕ) (t : Expression M)
        → each_expression f n (each_expression g n t) ≡ each_expression (λ k m. f k (g k m)) n t
    each_expression-each n (Path a ns) = refl
    each_expression-each n (Placeholder m) = refl
    each_expression-each n (SingleValue q) = rw (each_query-each n q)
    each_expression-each n (Exists q) = rw (each_query-each n q)
    each_expression-each n (Compared by a b) =
        rw ((expression-alike g n a).same n, each_expression-each n a, each_expression-each (after n (values_expression a)) b)
    each_expression-each n (Connected by a b) =
        rw ((expression-alike g n a).same n, each_expression-each n a, each_expression-each (after n (values_expression a)) b)
    each_expression-each n (Not a) = rw (each_expression-each n a)
    each_expression-each n (NullTest k a) = rw (each_expression-each n a)
    each_expression-each n CountAll = refl
    each_expression-each n (Count a) = rw (each_expression-each n a)
    each_expression-each n (InList k a m ms) =
        rw ((expression-alike g n a).same n, each_expression-each n a, each_marks-each f g (suc (after n (values_expression a))) ms)
    each_expression-each n (InQuery k a q) =
        rw ((expression-alike g n a).same n, each_expression-each n a, each_query-each (after n (values_expression a)) q)
    each_expression-each n (Constant k) = refl

    pub each_expressions-each : (n : ℕ) (t : Expressions M)
        → each_expressions f n (each_expressions g n t) ≡ each_expressions (λ k m. f k (g k m)) n t
    each_expressions-each n (OnlyExpression a) = rw (each_expression-each n a)
    each_expressions-each n (MoreExpression a more) =
        rw ((expression-alike g n a).same n, each_expression-each n a, each_expressions-each (after n (values_expression a)) more)

    pub each_items-each : (n : ℕ) (t : Items M)
        → each_items f n (each_items g n t) ≡ each_items (λ k m. f k (g k m)) n t
    each_items-each n (OnlyItem a by) = rw (each_expression-each n a)
    each_items-each n (MoreItem a by more) =
        rw ((expression-alike g n a).same n, each_expression-each n a, each_items-each (after n (values_expression a)) more)

    pub each_source-each : (n : ℕ) (t : Source M)
        → each_source f n (each_source g n t) ≡ each_source (λ k m. f k (g k m)) n t
    each_source-each n (Table a ns o s) = rw (each_sample-each f g n s)
    each_source-each n (Alias a ns b) = refl
    each_source-each n (Join k a b e) =
        rw (
          (source-alike g n a).same n,
          each_source-each n a,
          (source-alike g (after n (values_source a)) b).same (after n (values_source a)),
          each_source-each (after n (values_source a)) b,
          each_expression-each (after (after n (values_source a)) (values_source b)) e,
        )

    pub each_maybe-each : (n : ℕ) (t : MaybeExpression M)
        → each_maybe f n (each_maybe g n t) ≡ each_maybe (λ k m. f k (g k m)) n t
    each_maybe-each n NoExpression = refl
    each_maybe-each n (SomeExpression e) = rw (each_expression-each n e)

    pub each_maybe_expressions-each : (n : ℕ) (t : MaybeExpressions M)
        → each_maybe_expressions f n (each_maybe_expressions g n t) ≡ each_maybe_expressions (λ k m. f k (g k m)) n t
    each_maybe_expressions-each n NoExpressions = refl
    each_maybe_expressions-each n (SomeExpressions es) = rw (each_expressions-each n es)

    pub each_maybe_items-each : (n : ℕ) (t : MaybeItems M)
        → each_maybe_items f n (each_maybe_items g n t) ≡ each_maybe_items (λ k m. f k (g k m)) n t
    each_maybe_items-each n NoItems = refl
    each_maybe_items-each n (SomeItems is) = rw (each_items-each n is)

    pub each_maybe_source-each : (n : ℕ) (t : MaybeSource M)
        → each_maybe_source f n (each_maybe_source g n t) ≡ each_maybe_source (λ k m. f k (g k m)) n t
    each_maybe_source-each n NoSource = refl
    each_maybe_source-each n (SomeSource s) = rw (each_source-each n s)

    pub each_distinct-each : (n : ℕ) (t : Distinctness M)
        → each_distinct f n (each_distinct g n t) ≡ each_distinct (λ k m. f k (g k m)) n t
    each_distinct-each n Every = refl
    each_distinct-each n Distinct = refl
    each_distinct-each n (DistinctOn es) = rw (each_expressions-each n es)

    pub each_query-each : (n : ℕ) (t : Query M)
        → each_query f n (each_query g n t) ≡ each_query (λ k m. f k (g k m)) n t
    each_query-each n (Select u es s w gb hv o p l) =
        let n1 = after n (values_distinct u) in
        let n2 = after n1 (values_expressions es) in
        let n3 = after n2 (values_maybe_source s) in
        let n4 = after n3 (values_maybe w) in
        let n5 = after n4 (values_maybe_expressions gb) in
        let n6 = after n5 (values_maybe hv) in
        let n7 = after n6 (values_maybe_items o) in
        rw (
          (distinct-alike g n u).same n,
          each_distinct-each n u,
          (expressions-alike g n1 es).same n1,
          each_expressions-each n1 es,
          (maybe_source-alike g n2 s).same n2,
          each_maybe_source-each n2 s,
          (maybe-alike g n3 w).same n3,
          each_maybe-each n3 w,
          (maybe_expressions-alike g n4 gb).same n4,
          each_maybe_expressions-each n4 gb,
          (maybe-alike g n5 hv).same n5,
          each_maybe-each n5 hv,
          (maybe_items-alike g n6 o).same n6,
          each_maybe_items-each n6 o,
          each_page-each f g n7 p,
        )
    each_query-each n (Combined a by all b o p) =
        rw (
          (query-alike g n a).same n,
          each_query-each n a,
          (query-alike g (after n (values_query a)) b).same (after n (values_query a)),
          each_query-each (after n (values_query a)) b,
          each_page-each f g (after (after n (values_query a)) (values_query b)) p,
        )
