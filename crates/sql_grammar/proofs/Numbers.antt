-- The placeholders of a tree: how many there are, and what stands at each.
use Rattle.std.proofs.Common.{◌≡◌, ℕ, zero, suc, ◌+◌, List, [], ◌∷◌, ◌++◌, length, Option, Some, None, refl, ap, ◌∙◌, arith}
use Rattle.std.specs.List.{slice_get}
use Rattle.sql_grammar.specs.Tree.{Sample, Whole, Sampled, Page, PageBy, FetchBy, Expression, Path, Placeholder, SingleValue, Exists, Compared, Connected, Not, NullTest, CountAll, Count, InList, InQuery, Constant, Expressions, OnlyExpression, MoreExpression, Items, OnlyItem, MoreItem, Source, Table, Alias, Join, MaybeExpression, NoExpression, SomeExpression, MaybeExpressions, NoExpressions, SomeExpressions, MaybeItems, NoItems, SomeItems, MaybeSource, NoSource, SomeSource, Distinctness, Every, Distinct, DistinctOn, Query, Select, Combined}
use Rattle.sql_grammar.specs.Numbering.{each_expression, each_expressions, each_items, each_source, each_maybe, each_maybe_expressions, each_maybe_items, each_maybe_source, each_distinct, each_query, each_marks, each_option, each_sample, each_page, after}
use Rattle.sql_grammar.specs.Values.{values_expression, values_expressions, values_items, values_source, values_maybe, values_maybe_expressions, values_maybe_items, values_maybe_source, values_distinct, values_query, values_marks, values_option, values_sample, values_page}

-- ## How many there are

pub after-count : {M : Type 0} (n : ℕ) (ms : List M) → after n ms ≡ n + length ms
after-count n [] = omega arith
after-count n (m ∷ ms) = after-count (suc n) ms ∙ omega arith

-- two lists, one after the other
pub after-append : {M : Type 0} (n : ℕ) (xs ys : List M) → after n (xs ++ ys) ≡ after (after n xs) ys
after-append n [] ys = refl
after-append n (x ∷ xs) ys = after-append (suc n) xs ys

-- ## What stands at each

-- the list stands at n in the other
abbrev pub StandsAt : {M : Type 0} → ℕ → List M → List M → Type 0
StandsAt {M} n xs bs = (k : ℕ) (m : M) → slice_get xs k ≡ Some m → slice_get bs (n + k) ≡ Some m

none_some : {M : Type 0} (y : M) → Prim.Path (Option M) None (Some y) → ⊥
none_some y h = cc

get-left : {M : Type 0} (xs ys : List M) (k : ℕ) (m : M) → slice_get xs k ≡ Some m → slice_get (xs ++ ys) k ≡ Some m
get-left [] ys k m e = absurd (none_some m e)
get-left (x ∷ xs) ys zero m e = e
get-left (x ∷ xs) ys (suc k) m e = get-left xs ys k m e

get-right : {M : Type 0} (xs ys : List M) (k : ℕ) → slice_get (xs ++ ys) (length xs + k) ≡ slice_get ys k
get-right [] ys k = ap (slice_get ys) (omega arith)
get-right (x ∷ xs) ys k = ap (slice_get (x ∷ (xs ++ ys))) (plus_suc (length xs) k) ∙ get-right xs ys k
  where
    plus_suc : (a b : ℕ) → suc a + b ≡ suc (a + b)
    plus_suc a b = omega arith

front_at : {M : Type 0} (n : ℕ) (xs ys bs : List M) → StandsAt n (xs ++ ys) bs → StandsAt n xs bs
front_at n xs ys bs h k m e = h k m (get-left xs ys k m e)

back_at : {M : Type 0} (n a : ℕ) (xs ys bs : List M) → a ≡ n + length xs → StandsAt n (xs ++ ys) bs → StandsAt a ys bs
back_at n a xs ys bs q h k m e =
    ap (slice_get bs) (let l : a + k ≡ n + (length xs + k) = omega arith in l)
    ∙ h (length xs + k) m (get-right xs ys k ∙ e)

-- a list and the list after it, each where it stands
both_at : {M : Type 0} (n a : ℕ) (xs ys bs : List M) → a ≡ n + length xs → StandsAt n (xs ++ ys) bs
    → StandsAt n xs bs × StandsAt a ys bs
both_at n a xs ys bs q h = (front_at n xs ys bs h, back_at n a xs ys bs q h)

one_at : {M : Type 0} (n : ℕ) (m : M) (bs : List M) → StandsAt n (m ∷ []) bs → slice_get bs n ≡ Some m
one_at n m bs h = ap (slice_get bs) (let l : n ≡ n + 0 = omega arith in l) ∙ h 0 m refl

module _ {M : Type 0} (bs : List M) where
  abbrev pub at : ℕ → M → Option M
  at k m = slice_get bs k

  abbrev pub self : ℕ → M → Option M
  self k m = Some m

  fills_marks : (n : ℕ) (ms : List M) → StandsAt n ms bs → each_marks at n ms ≡ each_marks self n ms
  fills_marks n [] h = refl
  fills_marks n (m ∷ ms) h =
      rw (
        one_at n m bs (front_at n (m ∷ []) ms bs h),
        fills_marks (suc n) ms (back_at n (suc n) (m ∷ []) ms bs (omega arith) h),
      )

  fills_option : (n : ℕ) (o : Option M) → StandsAt n (values_option o) bs → each_option at n o ≡ each_option self n o
  fills_option n None h = refl
  fills_option n (Some m) h = rw (one_at n m bs h)

  fills_sample : (n : ℕ) (s : Sample M) → StandsAt n (values_sample s) bs → each_sample at n s ≡ each_sample self n s
  fills_sample n Whole h = refl
  fills_sample n (Sampled by p s) h =
      rw (
        one_at n p bs (front_at n (p ∷ []) (values_option s) bs h),
        fills_option (suc n) s (back_at n (suc n) (p ∷ []) (values_option s) bs (omega arith) h),
      )

  fills_page : (n : ℕ) (p : Page M) → StandsAt n (values_page p) bs → each_page at n p ≡ each_page self n p
  fills_page n (PageBy l o) h =
      rw (
        fills_option n l (front_at n (values_option l) (values_option o) bs h),
        fills_option (after n (values_option l)) o
            (back_at n (after n (values_option l)) (values_option l) (values_option o) bs (after-count n (values_option l)) h),
      )
  fills_page n (FetchBy o l) h =
      rw (
        fills_option n o (front_at n (values_option o) (l ∷ []) bs h),
        one_at (after n (values_option o)) l bs
            (back_at n (after n (values_option o)) (values_option o) (l ∷ []) bs (after-count n (values_option o)) h),
      )

  mutual
    pub fills_expression : (n : ℕ) (t : Expression M) → StandsAt n (values_expression t) bs
        → each_expression at n t ≡ each_expression self n t
    fills_expression n (Path a ns) h = refl
    fills_expression n (Placeholder m) h = rw (one_at n m bs h)
    fills_expression n (SingleValue q) h = rw (fills_query n q h)
    fills_expression n (Exists q) h = rw (fills_query n q h)
    fills_expression n (Compared by a b) h =
        let h1 =
        back_at n (after n (values_expression a)) (values_expression a) (values_expression b) bs (after-count n (values_expression a))
        h in
        rw (
          fills_expression n a (front_at n (values_expression a) (values_expression b) bs h),
          fills_expression (after n (values_expression a)) b h1,
        )
    fills_expression n (Connected by a b) h =
        let h1 =
        back_at n (after n (values_expression a)) (values_expression a) (values_expression b) bs (after-count n (values_expression a))
        h in
        rw (
          fills_expression n a (front_at n (values_expression a) (values_expression b) bs h),
          fills_expression (after n (values_expression a)) b h1,
        )
    fills_expression n (Not a) h = rw (fills_expression n a h)
    fills_expression n (NullTest k a) h = rw (fills_expression n a h)
    fills_expression n CountAll h = refl
    fills_expression n (Count a) h = rw (fills_expression n a h)
    fills_expression n (InList k a m ms) h =
        let h1 =
        back_at n (after n (values_expression a)) (values_expression a) ((m ∷ []) ++ values_marks ms) bs
        (after-count n (values_expression a)) h in
        let h2 =
        back_at (after n (values_expression a)) (suc (after n (values_expression a))) (m ∷ []) (values_marks ms) bs
        (after-count (after n (values_expression a)) (m ∷ [])) h1 in
        rw (
          fills_expression n a (front_at n (values_expression a) ((m ∷ []) ++ values_marks ms) bs h),
          one_at (after n (values_expression a)) m bs (front_at (after n (values_expression a)) (m ∷ []) (values_marks ms) bs h1),
          fills_marks (suc (after n (values_expression a))) ms h2,
        )
    fills_expression n (InQuery k a q) h =
        let h1 =
        back_at n (after n (values_expression a)) (values_expression a) (values_query q) bs (after-count n (values_expression a)) h in
        rw (
          fills_expression n a (front_at n (values_expression a) (values_query q) bs h),
          fills_query (after n (values_expression a)) q h1,
        )
    fills_expression n (Constant k) h = refl

    pub fills_expressions : (n : ℕ) (t : Expressions M) → StandsAt n (values_expressions t) bs
        → each_expressions at n t ≡ each_expressions self n t
    fills_expressions n (OnlyExpression a) h = rw (fills_expression n a h)
    fills_expressions n (MoreExpression a more) h =
        let h1 =
        back_at n (after n (values_expression a)) (values_expression a) (values_expressions more) bs
        (after-count n (values_expression a)) h in
        rw (
          fills_expression n a (front_at n (values_expression a) (values_expressions more) bs h),
          fills_expressions (after n (values_expression a)) more h1,
        )

    pub fills_items : (n : ℕ) (t : Items M) → StandsAt n (values_items t) bs → each_items at n t ≡ each_items self n t
    fills_items n (OnlyItem a by) h = rw (fills_expression n a h)
    fills_items n (MoreItem a by more) h =
        let h1 =
        back_at n (after n (values_expression a)) (values_expression a) (values_items more) bs (after-count n (values_expression a))
        h in
        rw (
          fills_expression n a (front_at n (values_expression a) (values_items more) bs h),
          fills_items (after n (values_expression a)) more h1,
        )

    pub fills_source : (n : ℕ) (t : Source M) → StandsAt n (values_source t) bs
        → each_source at n t ≡ each_source self n t
    fills_source n (Table a ns o s) h = rw (fills_sample n s h)
    fills_source n (Alias a ns b) h = refl
    fills_source n (Join k a b e) h =
        let h1 =
        back_at n (after n (values_source a)) (values_source a) (values_source b ++ values_expression e) bs
        (after-count n (values_source a)) h in
        let h2 =
        back_at (after n (values_source a)) (after (after n (values_source a)) (values_source b)) (values_source b) (values_expression e) bs
        (after-count (after n (values_source a)) (values_source b)) h1 in
        rw (
          fills_source n a (front_at n (values_source a) (values_source b ++ values_expression e) bs h),
          fills_source (after n (values_source a)) b
              (front_at (after n (values_source a)) (values_source b) (values_expression e) bs h1),
          fills_expression (after (after n (values_source a)) (values_source b)) e h2,
        )

    pub fills_maybe : (n : ℕ) (t : MaybeExpression M) → StandsAt n (values_maybe t) bs
        → each_maybe at n t ≡ each_maybe self n t
    fills_maybe n NoExpression h = refl
    fills_maybe n (SomeExpression e) h = rw (fills_expression n e h)

    pub fills_maybe_expressions : (n : ℕ) (t : MaybeExpressions M) → StandsAt n (values_maybe_expressions t) bs
        → each_maybe_expressions at n t ≡ each_maybe_expressions self n t
    fills_maybe_expressions n NoExpressions h = refl
    fills_maybe_expressions n (SomeExpressions es) h = rw (fills_expressions n es h)

    pub fills_maybe_items : (n : ℕ) (t : MaybeItems M) → StandsAt n (values_maybe_items t) bs
        → each_maybe_items at n t ≡ each_maybe_items self n t
    fills_maybe_items n NoItems h = refl
    fills_maybe_items n (SomeItems is) h = rw (fills_items n is h)

    pub fills_maybe_source : (n : ℕ) (t : MaybeSource M) → StandsAt n (values_maybe_source t) bs
        → each_maybe_source at n t ≡ each_maybe_source self n t
    fills_maybe_source n NoSource h = refl
    fills_maybe_source n (SomeSource s) h = rw (fills_source n s h)

    pub fills_distinct : (n : ℕ) (t : Distinctness M) → StandsAt n (values_distinct t) bs
        → each_distinct at n t ≡ each_distinct self n t
    fills_distinct n Every h = refl
    fills_distinct n Distinct h = refl
    fills_distinct n (DistinctOn es) h = rw (fills_expressions n es h)

    pub fills_query : (n : ℕ) (t : Query M) → StandsAt n (values_query t) bs → each_query at n t ≡ each_query self n t
    fills_query n (Select u es s w gb hv o p l) h =
        let n1 = after n (values_distinct u) in
        let n2 = after n1 (values_expressions es) in
        let n3 = after n2 (values_maybe_source s) in
        let n4 = after n3 (values_maybe w) in
        let n5 = after n4 (values_maybe_expressions gb) in
        let n6 = after n5 (values_maybe hv) in
        let n7 = after n6 (values_maybe_items o) in
        let r7 = values_page p in
        let r6 = values_maybe_items o ++ r7 in
        let r5 = values_maybe hv ++ r6 in
        let r4 = values_maybe_expressions gb ++ r5 in
        let r3 = values_maybe w ++ r4 in
        let r2 = values_maybe_source s ++ r3 in
        let r1 = values_expressions es ++ r2 in
        let h1 = both_at n n1 (values_distinct u) r1 bs (after-count n (values_distinct u)) h in
        let h2 = both_at n1 n2 (values_expressions es) r2 bs (after-count n1 (values_expressions es)) h1.1 in
        let h3 = both_at n2 n3 (values_maybe_source s) r3 bs (after-count n2 (values_maybe_source s)) h2.1 in
        let h4 = both_at n3 n4 (values_maybe w) r4 bs (after-count n3 (values_maybe w)) h3.1 in
        let h5 = both_at n4 n5 (values_maybe_expressions gb) r5 bs (after-count n4 (values_maybe_expressions gb)) h4.1 in
        let h6 = both_at n5 n6 (values_maybe hv) r6 bs (after-count n5 (values_maybe hv)) h5.1 in
        let h7 = both_at n6 n7 (values_maybe_items o) r7 bs (after-count n6 (values_maybe_items o)) h6.1 in
        rw (
          fills_distinct n u h1.0,
          fills_expressions n1 es h2.0,
          fills_maybe_source n2 s h3.0,
          fills_maybe n3 w h4.0,
          fills_maybe_expressions n4 gb h5.0,
          fills_maybe n5 hv h6.0,
          fills_maybe_items n6 o h7.0,
          fills_page n7 p h7.1,
        )
    fills_query n (Combined a by all b o p) h =
        let h1 =
        back_at n (after n (values_query a)) (values_query a) (values_query b ++ values_page p) bs (after-count n (values_query a))
        h in
        let h2 =
        back_at (after n (values_query a)) (after (after n (values_query a)) (values_query b)) (values_query b) (values_page p) bs
        (after-count (after n (values_query a)) (values_query b)) h1 in
        rw (
          fills_query n a (front_at n (values_query a) (values_query b ++ values_page p) bs h),
          fills_query (after n (values_query a)) b (front_at (after n (values_query a)) (values_query b) (values_page p) bs h1),
          fills_page (after (after n (values_query a)) (values_query b)) p h2,
        )
