-- In a schema a table is found by its path, and a column of a table by its SQL name.
use Rattle.std.proofs.Common.{◌≡◌, ℕ, List, [], ◌∷◌, Bool, true, false, ◌||◌, ◌&&◌, Option, None, Some, refl, sym, ap, ◌∙◌, inl, inr, subst, is_some}
use Rattle.std.proofs.lemmas.Bool.{false≢true}
use Rattle.std.proofs.lemmas.Cmp.{nat_list_eq_equiv}
use Rattle.std.specs.Prelude.{find}
use Rattle.std.specs.Cmp.Lexicographic.{pointwise}
use Rattle.std.specs.List.{list_any}
use Rattle.std.specs.Option.{option_eq, option_to_list}
use Rattle.std.specs.Str.{bytes_eq}
use Rattle.sql_schema.specs.declared.declaration.ColumnDecl.{ColumnDecl}
use Rattle.sql_schema.specs.declared.declaration.TableDecl.{TableDecl}
use Rattle.sql_schema.specs.Refusals.{any_two, tables_clash, columns_clash, has_duplicate_column}
use Rattle.sql_schema.proofs.Exact.{exact-list}
use Rattle.sql_schema.proofs.ExactTypes.{exact-text}
use Rattle.sql_schema.proofs.RefusalLaws.{neither}
use Rattle.sql_rules.specs.Lists.{AnyOf}
use Rattle.sql_audit_resolution.specs.Meant.{path_of_table, table_at}

-- ## Equal lists

pub same_bytes : (a : List ℕ) → bytes_eq a a ≡ true
same_bytes a = nat_list_eq_equiv.refl a

pub same_names : (a : List (List ℕ)) → pointwise bytes_eq a a ≡ true
same_names [] = refl
same_names (x ∷ xs) = ap (λ b. b && pointwise bytes_eq xs xs) (same_bytes x) ∙ same_names xs

pub exact-names : (a b : List (List ℕ)) → pointwise bytes_eq a b ≡ true → a ≡ b
exact-names = exact-list exact-text

-- ## In a list in which no two elements clash

module _ {A : Type 0} (clash : A → A → Bool) (test : A → Bool) (a : A) (passes : test a ≡ true)
    (alone : (x : A) → clash x a ≡ false → test x ≡ false) where
  none-before : (x : A) (xs : List A) → list_any (clash x) xs ≡ false → AnyOf (λ y. y ≡ a) xs → clash x a ≡ false
  none-before x [] e h = absurd h
  none-before x (y ∷ ys) e (inl is) =
      subst (λ z. clash x z ≡ false) is (neither (clash x y) (list_any (clash x) ys) e).0
  none-before x (y ∷ ys) e (inr h) = none-before x ys (neither (clash x y) (list_any (clash x) ys) e).1 h

  found-first : (x : A) (xs : List A) (b : Bool) → test x ≡ b → b ≡ true → find test (x ∷ xs) ≡ Some x
  found-first x xs b e is = rw (e, is) refl

  found-later : (x : A) (xs : List A) → test x ≡ false → find test (x ∷ xs) ≡ find test xs
  found-later x xs e = rw e refl

  pub found : (xs : List A) → any_two clash xs ≡ false → AnyOf (λ x. x ≡ a) xs → find test xs ≡ Some a
  found [] e h = absurd h
  found (x ∷ xs) e (inl is) =
      found-first x xs true (subst (λ z. test z ≡ true) (sym is) passes) refl ∙ ap Some is
  found (x ∷ xs) e (inr h) =
      let apart = neither (list_any (clash x) xs) (any_two clash xs) e in
      found-later x xs (alone x (none-before x xs apart.0 h)) ∙ found xs apart.1 h

-- ## Tables

not-true : (b : Bool) → (b ≡ true → ⊥) → b ≡ false
not-true true h = absurd (h refl)
not-true false h = refl

head_of : List (List ℕ) → List ℕ
head_of [] = []
head_of (x ∷ xs) = x

tail_of : List (List ℕ) → List (List ℕ)
tail_of [] = []
tail_of (x ∷ xs) = xs

one-schema : (a b : Option (List ℕ)) → option_to_list a ≡ option_to_list b → option_eq bytes_eq a b ≡ true
one-schema None None e = refl
one-schema None (Some b) e = cc
one-schema (Some a) None e = cc
one-schema (Some a) (Some b) e =
    let same : a ≡ b = cc in
    subst (λ c. bytes_eq a c ≡ true) same (same_bytes a)

last-true : (a b c : Bool) → b ≡ true → c ≡ true → (a || (b && c)) ≡ true
last-true true b c p q = refl
last-true false b c p q = cc

one-path : (t u : TableDecl) → pointwise bytes_eq (path_of_table u) (path_of_table t) ≡ true → tables_clash u t ≡ true
unfolding head_of tail_of
one-path t u e =
    let is = exact-names (path_of_table u) (path_of_table t) e in
    last-true (bytes_eq u.name t.name) (option_eq bytes_eq u.schema t.schema) (bytes_eq u.sql_name t.sql_name)
    (one-schema u.schema t.schema (ap tail_of is))
    (subst (λ n. bytes_eq u.sql_name n ≡ true) (ap head_of is) (same_bytes u.sql_name))

pub table-found : (ts : List TableDecl) → any_two tables_clash ts ≡ false → (t : TableDecl) → AnyOf (λ u. u ≡ t) ts
    → table_at ts (path_of_table t) ≡ Some t
table-found ts apart t h =
    found tables_clash (λ u. pointwise bytes_eq (path_of_table u) (path_of_table t)) t (same_names (path_of_table t))
    (λ u no. not-true (pointwise bytes_eq (path_of_table u) (path_of_table t))
    (λ yes. false≢true (sym no ∙ one-path t u yes)))
    ts apart h

-- ## Columns

second-true : (a b : Bool) → b ≡ true → (a || b) ≡ true
second-true true b e = refl
second-true false b e = e

pub column-found : (cs : List ColumnDecl) → any_two columns_clash cs ≡ false → (c : ColumnDecl) → AnyOf (λ d. d ≡ c) cs
    → find (λ d. bytes_eq d.sql_name c.sql_name) cs ≡ Some c
column-found cs apart c h =
    found columns_clash (λ (d : ColumnDecl). bytes_eq d.sql_name c.sql_name) c (same_bytes c.sql_name)
    (λ (d : ColumnDecl) no. not-true (bytes_eq d.sql_name c.sql_name)
    (λ yes. false≢true (sym no ∙ second-true (bytes_eq d.name c.name) (bytes_eq d.sql_name c.sql_name) yes)))
    cs apart h

-- the columns of a table of a schema differ
pub columns-apart : (ts : List TableDecl) → list_any has_duplicate_column ts ≡ false → (t : TableDecl)
    → AnyOf (λ u. u ≡ t) ts → any_two columns_clash t.columns ≡ false
columns-apart [] e t h = absurd h
columns-apart (u ∷ us) e t (inl is) =
    subst (λ (v : TableDecl). any_two columns_clash v.columns ≡ false) is
    (neither (has_duplicate_column u) (list_any has_duplicate_column us) e).0
columns-apart (u ∷ us) e t (inr h) =
    columns-apart us (neither (has_duplicate_column u) (list_any has_duplicate_column us) e).1 t h

-- what a search finds passes its test
found-further : {A : Type 0} (test : A → Bool) (x : A) (xs : List A) → test x ≡ false → find test (x ∷ xs) ≡ find test xs
found-further test x xs fails = rw fails refl

some-step : {A : Type 0} (test : A → Bool) (P : A → Type 0) → ((x : A) → test x ≡ true → P x) → (x : A) (xs : List A)
    (b : Bool) → test x ≡ b → (is_some (find test xs) ≡ true → AnyOf P xs)
    → is_some (find test (x ∷ xs)) ≡ true → AnyOf P (x ∷ xs)
some-step test P f x xs true is more e = inl (f x is)
some-step {A = A} test P f x xs false is more e =
    inr (more (subst (λ (o : Option A). is_some o ≡ true) (found-further test x xs is) e))

pub some-passes : {A : Type 0} (test : A → Bool) (P : A → Type 0) → ((x : A) → test x ≡ true → P x) → (xs : List A)
    → is_some (find test xs) ≡ true → AnyOf P xs
some-passes test P f [] e = absurd (false≢true e)
some-passes test P f (x ∷ xs) e =
    some-step test P f x xs (test x) refl (λ h. some-passes test P f xs h) e
