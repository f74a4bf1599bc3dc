-- An index grows by an element, and finds what a search finds.
use Rattle.std.proofs.Common.{◌≡◌, ◌<◌, ◌+◌, ℕ, zero, suc, Bool, true, false, ◌||◌, ◌&&◌, cond, List, [], ◌∷◌, Option, Some, None, option_map, is_some, length, get_or, refl, ap, sym, subst, ◌∙◌, arith}
use Rattle.std.specs.List.{list_any, find}
use Rattle.std.specs.Str.{bytes_eq}
use Rattle.std.proofs.lemmas.Bool.{false≢true, false_from_ne_true}
use Rattle.std.proofs.lemmas.Cmp.{nat_list_eq_equiv}
use Rattle.std.proofs.lemmas.List.{get_or_default, take_all}
use Rattle.std.proofs.lemmas.List.Folds.{list_any_more, list_any_at}
use Rattle.std.specs.Option.{option_eq}
use Rattle.sql_schema.specs.declared.declaration.ColumnDecl.{ColumnDecl}
use Rattle.sql_schema.specs.declared.declaration.TableDecl.{TableDecl}
use Rattle.sql_schema.specs.Columns.{column_named, table_named}
use Rattle.sql_schema.specs.Refusals.{any_two, columns_clash, tables_clash, is_unsound, lacks_columns, has_duplicate_column, lacks_key}
use Rattle.sql_schema.specs.inside.Indices.{Says, Indexes, IndexesBy, index_by}
use Rattle.sql_schema.specs.inside.Pairs.{table_index}
use Rattle.sql_schema.proofs.ExactTypes.{exact-text}
use Rattle.sql_schema.proofs.RefusalLaws.{neither}

module _ {A : Type 0} (test : A → Bool) where
  says-more : (xs : List A) (i : ℕ) (x : A) → i < length xs → x ≡ get_or xs i x → (o : Option ℕ) (b : Bool)
      → test x ≡ b → Says test xs i o → Says test xs (i + 1) (cond b (Some i) o)
  says-more xs i x within is o true e h = (omega arith, λ d. ap test (get_or_default xs i d x within ∙ sym is) ∙ e)
  says-more xs i x within is None false e h =
      list_any_more test xs i x within ∙ ap (λ b. b || test (get_or xs i x)) h ∙ ap test (sym is) ∙ e
  says-more xs i x within is (Some j) false e h = (omega (arith, h.0), h.1)

  -- ---- what it finds

  says-none : (xs : List A) → Says test xs (length xs) None → list_any test xs ≡ false
  says-none xs h = ap (list_any test) (sym (take_all (length xs) xs (omega arith))) ∙ h

  pub says-any : (xs : List A) (o : Option ℕ) → Says test xs (length xs) o → (d : A) → is_some o ≡ list_any test xs
  says-any xs None h d = sym (says-none xs h)
  says-any xs (Some j) h d = sym (list_any_at test xs j d h.0 (h.1 d))

  absent : (xs : List A) → list_any test xs ≡ false → find test xs ≡ None
  absent [] h = refl
  absent (x ∷ xs) h =
      let both = neither (test x) (list_any test xs) h in
      ap (λ b. cond b (Some x) (find test xs)) both.0 ∙ absent xs both.1

  no-index : (xs : List A) → list_any test xs ≡ false → index_by test xs ≡ None
  no-index [] h = refl
  no-index (x ∷ xs) h =
      let both = neither (test x) (list_any test xs) h in
      ap (λ b. cond b (Some zero) (option_map suc (index_by test xs))) both.0
      ∙ ap (option_map suc) (no-index xs both.1)

  -- elements that pass don't stand together
  module _ (T : A → A → Bool) (clash : (x y : A) → test x ≡ true → test y ≡ true → T x y ≡ true) where
    earlier : (x : A) (xs : List A) (j : ℕ) → list_any (T x) xs ≡ false → j < length xs
        → ((d : A) → test (get_or xs j d) ≡ true) → test x ≡ false
    earlier x xs j apart within is =
        false_from_ne_true (test x)
        (λ h. false≢true (sym apart ∙ list_any_at (T x) xs j x within (clash x (get_or xs j x) h (is x))))

    present : (xs : List A) (j : ℕ) → any_two T xs ≡ false → j < length xs
        → ((d : A) → test (get_or xs j d) ≡ true) → (d : A) → find test xs ≡ Some (get_or xs j d)
    present [] j apart within is d = absurd (omega (arith, within))
    present (x ∷ xs) zero apart within is d = ap (λ b. cond b (Some x) (find test xs)) (is d)
    present (x ∷ xs) (suc j) apart within is d =
        let both = neither (list_any (T x) xs) (any_two T xs) apart in
        let less : j < length xs = omega (arith, within) in
        ap (λ b. cond b (Some x) (find test xs)) (earlier x xs j both.0 less is) ∙ present xs j both.1 less is d

    indexed : (xs : List A) (j : ℕ) → any_two T xs ≡ false → j < length xs
        → ((d : A) → test (get_or xs j d) ≡ true) → index_by test xs ≡ Some j
    indexed [] j apart within is = absurd (omega (arith, within))
    indexed (x ∷ xs) zero apart within is =
        ap (λ b. cond b (Some zero) (option_map suc (index_by test xs))) (is x)
    indexed (x ∷ xs) (suc j) apart within is =
        let both = neither (list_any (T x) xs) (any_two T xs) apart in
        let less : j < length xs = omega (arith, within) in
        ap (λ b. cond b (Some zero) (option_map suc (index_by test xs))) (earlier x xs j both.0 less is)
        ∙ ap (option_map suc) (indexed xs j both.1 less is)

    pub says-finds : (xs : List A) → any_two T xs ≡ false → (o : Option ℕ) → Says test xs (length xs) o → (d : A)
        → option_map (λ i. get_or xs i d) o ≡ find test xs
    says-finds xs apart None h d = sym (absent xs (says-none xs h))
    says-finds xs apart (Some j) h d = sym (present xs j apart h.0 h.1 d)

    pub says-index : (xs : List A) → any_two T xs ≡ false → (o : Option ℕ) → Says test xs (length xs) o
        → o ≡ index_by test xs
    says-index xs apart None h = sym (no-index xs (says-none xs h))
    says-index xs apart (Some j) h = sym (indexed xs j apart h.0 h.1)

  -- ---- the first index

  passes-later : (x : A) (xs : List A)
      → ((j : ℕ) → index_by test xs ≡ Some j → (d : A) → test (get_or xs j d) ≡ true) → (b : Bool) (o : Option ℕ)
      (i : ℕ) → test x ≡ b → index_by test xs ≡ o → cond b (Some zero) (option_map suc o) ≡ Some i → (d : A)
      → test (get_or (x ∷ xs) i d) ≡ true
  passes-later x xs later true o zero t e h d = t
  passes-later x xs later true o (suc i) t e h d = absurd (let wrong : zero ≡ suc i = cc in omega (arith, wrong))
  passes-later x xs later false None i t e h d = cc
  passes-later x xs later false (Some k) zero t e h d = absurd (let wrong : suc k ≡ zero = cc in omega (arith, wrong))
  passes-later x xs later false (Some k) (suc i) t e h d =
      let next : suc k ≡ suc i = cc in
      let same : k ≡ i = omega (arith, next) in
      later i (e ∙ ap Some same) d

  pub index-passes : (xs : List A) (i : ℕ) → index_by test xs ≡ Some i → (d : A) → test (get_or xs i d) ≡ true
  index-passes [] i h d = cc
  index-passes (x ∷ xs) i h d = passes-later x xs (index-passes xs) (test x) (index_by test xs) i refl refl h d

  none-later : (x : A) (xs : List A) → (index_by test xs ≡ None → list_any test xs ≡ false) → (b : Bool) (o : Option ℕ)
      → test x ≡ b → index_by test xs ≡ o → cond b (Some zero) (option_map suc o) ≡ None
      → (test x || list_any test xs) ≡ false
  none-later x xs later true o t e h = cc
  none-later x xs later false None t e h = ap (λ b. b || list_any test xs) t ∙ later e
  none-later x xs later false (Some k) t e h = cc

  pub index-none : (xs : List A) → index_by test xs ≡ None → list_any test xs ≡ false
  index-none [] h = refl
  index-none (x ∷ xs) h = none-later x xs (index-none xs) (test x) (index_by test xs) refl refl h

-- an index, with a further element
pub indexes-more : {A Q : Type 0} (test : Q → A → Bool) (before after : Q → Option ℕ) (xs : List A) (i : ℕ) (x : A)
    → i < length xs → x ≡ get_or xs i x → ((q : Q) → after q ≡ cond (test q x) (Some i) (before q))
    → IndexesBy test before xs i → IndexesBy test after xs (i + 1)
indexes-more test before after xs i x within is set h =
    λ q. subst (Says (test q) xs (i + 1)) (sym (set q))
    (says-more (test q) xs i x within is (before q) (test q x) refl (h q))

-- ---- elements by their names

module _ {A : Type 0} (name_of : A → List ℕ) where
  abbrev pub named : List ℕ → A → Bool
  named q x = bytes_eq (name_of x) q

  -- elements of one name don't stand together
  module _ (T : A → A → Bool) (clash : (x y : A) → bytes_eq (name_of x) (name_of y) ≡ true → T x y ≡ true) where
    pub of-one-name : (q : List ℕ) (x y : A) → named q x ≡ true → named q y ≡ true → T x y ≡ true
    of-one-name q x y h k =
        clash x y
        (subst (λ t. bytes_eq (name_of x) t ≡ true) (exact-text (name_of x) q h ∙ sym (exact-text (name_of y) q k))
        (nat_list_eq_equiv.refl (name_of x)))

    pub index-finds : (at : List ℕ → Option ℕ) (xs : List A) → any_two T xs ≡ false → Indexes name_of at xs (length xs)
        → (q : List ℕ) (d : A) → option_map (λ i. get_or xs i d) (at q) ≡ find (named q) xs
    index-finds at xs apart h q d = says-finds (named q) T (of-one-name q) xs apart (at q) (h q) d

  pub index-within : (at : List ℕ → Option ℕ) (xs : List A) → Indexes name_of at xs (length xs) → (q : List ℕ) (i : ℕ)
      → at q ≡ Some i → i < length xs
  index-within at xs h q i e = (subst (Says (named q) xs (length xs)) e (h q)).0

by-test : {A : Type 0} (x : A) (b : Bool) (o : Option A) (c : Bool) → is_some o ≡ c
    → is_some (cond b (Some x) o) ≡ (b || c)
by-test x true o c h = refl
by-test x false o c h = h

pub some-found : {A : Type 0} (test : A → Bool) (xs : List A) → is_some (find test xs) ≡ list_any test xs
some-found test [] = refl
some-found test (x ∷ xs) = by-test x (test x) (find test xs) (list_any test xs) (some-found test xs)

pub some-mapped : {A B : Type 0} (f : A → B) (o : Option A) → is_some o ≡ is_some (option_map f o)
some-mapped f None = refl
some-mapped f (Some x) = refl

-- ---- of the columns of a sound table, and of tables that stand together

clash-columns : (a b : ColumnDecl) → bytes_eq a.name b.name ≡ true → columns_clash a b ≡ true
clash-columns a b h = ap (λ x. x || bytes_eq a.sql_name b.sql_name) h

clash-tables : (a b : TableDecl) → bytes_eq a.name b.name ≡ true → tables_clash a b ≡ true
clash-tables a b h = ap (λ x. x || (option_eq bytes_eq a.schema b.schema && bytes_eq a.sql_name b.sql_name)) h

pub column-at : (t : TableDecl) (at : List ℕ → Option ℕ) → is_unsound t ≡ false
    → Indexes (λ c. c.name) at t.columns (length t.columns) → (q : List ℕ) (o : Option ℕ) → o ≡ at q
    → (d : ColumnDecl) → option_map (λ i. get_or t.columns i d) o ≡ column_named t.columns q
column-at t at sound h q o is d =
    let after = neither (lacks_columns t) (has_duplicate_column t || lacks_key t) sound in
    let apart = neither (has_duplicate_column t) (lacks_key t) after.1 in
    ap (option_map (λ i. get_or t.columns i d)) is
    ∙ index-finds (λ c. c.name) columns_clash clash-columns at t.columns apart.0 h q d

pub table-at : (tables : List TableDecl) (at : List ℕ → Option ℕ) → any_two tables_clash tables ≡ false
    → Indexes (λ t. t.name) at tables (length tables) → (q : List ℕ) (o : Option ℕ) → o ≡ at q → (d : TableDecl)
    → option_map (λ i. get_or tables i d) o ≡ table_named tables q
table-at tables at apart h q o is d =
    ap (option_map (λ i. get_or tables i d)) is
    ∙ index-finds (λ t. t.name) tables_clash clash-tables at tables apart h q d

pub table-index : (tables : List TableDecl) (at : List ℕ → Option ℕ) → any_two tables_clash tables ≡ false
    → Indexes (λ t. t.name) at tables (length tables) → (q : List ℕ) → at q ≡ table_index tables q
table-index tables at apart h q =
    says-index (λ (t : TableDecl). bytes_eq t.name q) tables_clash
    (of-one-name (λ (t : TableDecl). t.name) tables_clash clash-tables q) tables apart (at q) (h q)

-- what is read past the last table
abbrev pub no_table : TableDecl
no_table = record { name = []; sql_name = []; schema = None; columns = []; primary_key = [] }
