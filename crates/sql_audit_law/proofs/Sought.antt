-- A column's path stands for the leaf of the column's own source, where the path names that source alone of what its clause sees.
use Rattle.std.proofs.Common.{◌≡◌, ℕ, zero, suc, ◌+◌, List, [], ◌∷◌, ◌++◌, length, map, take, drop, reverse, Bool, true, false, cond, ◌&&◌, Option, None, Some, is_some, refl, sym, ap, ◌∙◌, inl, inr, ◌⊎◌, subst, arith}
use Rattle.std.proofs.lemmas.Bool.{false≢true}
use Rattle.std.proofs.lemmas.List.{append-nil, reverse-reverse, reverse-append}
use Rattle.std.specs.Prelude.{find, slice_get, option_map, if◌then◌else◌}
use Rattle.std.specs.Cmp.Lexicographic.{pointwise}
use Rattle.std.specs.List.{filter_map, starts_with, cons_option}
use Rattle.std.specs.Str.{bytes_eq}
use Rattle.sql_schema.specs.declared.declaration.ColumnDecl.{ColumnDecl}
use Rattle.sql_schema.specs.declared.declaration.TableDecl.{TableDecl}
use Rattle.sql_schema.proofs.ExactTypes.{exact-text}
use Rattle.sql_schema.specs.Refusals.{any_two, tables_clash, columns_clash}
use Rattle.sql_node.specs.Tree.{Origin}
use Rattle.sql_origin.specs.Origins.{exposed_path}
use Rattle.sql_rules.specs.Lists.{AnyOf, IsSuffix}
use Rattle.sql_rules.specs.Names.{path, Names, NamesOnly}
use Rattle.sql_rules.specs.Scope.{View}
use Rattle.sql_audit_resolution.specs.Leaves.{Backwards, Leaf, Level}
use Rattle.sql_audit_resolution.specs.Meant.{path_of_table, table_at, column_at, named, named_in, one_of, sought}
use Rattle.sql_audit_resolution.specs.declared.column_use.ColumnUse.{ColumnUse}
use Rattle.sql_audit_resolution.specs.declared.column_use.Meaning.{Meaning}
use Rattle.sql_audit_resolution.specs.declared.column_use.Meaning.TheVariants.{Nothing, Several, Column}
use Rattle.sql_audit_law.specs.Own.{AllPairs}
use Rattle.sql_audit_law.proofs.Found.{same_bytes, same_names, exact-names, table-found, column-found, some-passes}

-- what a leaf's source exposes, from the last name to the first
abbrev pub exposed : Origin → Backwards
exposed o = reverse (exposed_path o)

-- the schema declares the table of the source
abbrev pub IsKnown : List TableDecl → Origin → Type 0
IsKnown ts o = AnyOf (λ u. u ≡ o.table) ts

-- the leaf of a source, by the sources of all leaves of the text
abbrev pub IsLeafOf : List TableDecl → List Origin → Origin → Leaf → Type 0
IsLeafOf ts os o l =
    (l.exposed ≡ exposed o) × (l.table ≡ path_of_table o.table) × (slice_get os l.number ≡ Some o) × IsKnown ts o

-- the view is of the leaves of these levels, the innermost first, and perhaps not of all
abbrev pub Sees : List TableDecl → List Origin → View → List Level → Type 0
Sees ts os v [] = v ≡ []
Sees ts os v (l ∷ ls) =
    (own : View) × (rest : View) × (v ≡ own ++ rest) × AllPairs (IsLeafOf ts os) own l × ((rest ≡ []) ⊎ Sees ts os rest ls)

-- ## Which sources a path names, as a test

abbrev column_named : List ℕ → TableDecl → Option ColumnDecl
column_named name t = find (λ c. bytes_eq c.sql_name name) t.columns

abbrev hit : List (List ℕ) → List ℕ → Origin → Bool
hit front name o = starts_with bytes_eq (exposed o) front && is_some (column_named name o.table)

abbrev hits : List (List ℕ) → List ℕ → View → View
hits front name [] = []
hits front name (o ∷ os) = cond (hit front name o) (o ∷ hits front name os) (hits front name os)

both-true : (a b : Bool) → (a && b) ≡ true → (a ≡ true) × (b ≡ true)
both-true true b e = (refl, e)
both-true false b e = cc

and-true : (a b : Bool) → a ≡ true → b ≡ true → (a && b) ≡ true
and-true true b p q = q
and-true false b p q = cc

take-drop : {X : Type 0} (n : ℕ) (xs : List X) → xs ≡ take n xs ++ drop n xs
take-drop zero xs = refl
take-drop (suc n) [] = refl
take-drop (suc n) (x ∷ xs) = ap (λ ys. x ∷ ys) (take-drop n xs)

take-all : {X : Type 0} (xs : List X) → take (length xs) xs ≡ xs
take-all [] = refl
take-all (x ∷ xs) = ap (λ ys. x ∷ ys) (take-all xs)

begun : (xs front : List (List ℕ)) → starts_with bytes_eq xs front ≡ true → xs ≡ front ++ drop (length front) xs
begun xs front e =
    take-drop (length front) xs
    ∙ ap (λ ys. ys ++ drop (length front) xs) (sym (exact-names front (take (length front) xs) e))

begins-itself : (xs : List (List ℕ)) → starts_with bytes_eq xs xs ≡ true
begins-itself xs = ap (pointwise bytes_eq xs) (take-all xs) ∙ same_names xs

ends : (long short : List (List ℕ)) → starts_with bytes_eq (reverse long) (reverse short) ≡ true → IsSuffix short long
ends long short e =
    let more = drop (length (reverse short)) (reverse long) in (
      reverse more,
      sym (reverse-reverse long) ∙ ap reverse (begun (reverse long) (reverse short) e)
          ∙ reverse-append (reverse short) more ∙ ap (λ xs. reverse more ++ xs) (reverse-reverse short),
    )

-- the test is of names
hit-names : (o : Origin) (c : ColumnDecl) (l : Origin) → hit (exposed o) c.sql_name l ≡ true → Names (path o c) l
hit-names o c l e =
    let two = both-true (starts_with bytes_eq (exposed l) (exposed o)) (is_some (column_named c.sql_name l.table)) e in (
      exposed_path o,
      c.sql_name,
      refl,
      ends (exposed_path l) (exposed_path o) two.0,
      some-passes (λ (d : ColumnDecl). bytes_eq d.sql_name c.sql_name) (λ (d : ColumnDecl). d.sql_name ≡ c.sql_name)
          (λ (d : ColumnDecl) same. exact-text d.sql_name c.sql_name same)
          l.table.columns two.1,
    )

-- ## The one source that a path names

none_some : {Y : Type 0} (y : Y) → Path (Option Y) None (Some y) → ⊥
none_some y h = cc

some-same : {Y : Type 0} (x y : Y) → Path (Option Y) (Some x) (Some y) → x ≡ y
some-same x y h = cc

none-one : {Y : Type 0} (y : Y) (ys : List Y) → Path (List Y) [] (y ∷ ys) → ⊥
none-one y ys h = cc

head-same : {Y : Type 0} (x y : Y) (xs ys : List Y) → Path (List Y) (x ∷ xs) (y ∷ ys) → x ≡ y
head-same x y xs ys h = cc

tail-same : {Y : Type 0} (x y : Y) (xs ys : List Y) → Path (List Y) (x ∷ xs) (y ∷ ys) → xs ≡ ys
tail-same x y xs ys h = cc

nothing-left : {Y : Type 0} (xs ys : List Y) → xs ++ ys ≡ [] → xs ≡ []
nothing-left [] ys e = refl
nothing-left (x ∷ xs) ys e = cc

not-true : (b : Bool) → (b ≡ true → ⊥) → b ≡ false
not-true true h = absurd (h refl)
not-true false h = refl

module _ (front : List (List ℕ)) (name : List ℕ) where
  miss : (o : Origin) (os : View) → hit front name o ≡ false → hits front name (o ∷ os) ≡ hits front name os
  miss o os e = ap (λ (b : Bool). cond b (o ∷ hits front name os) (hits front name os)) e

  strike : (o : Origin) (os : View) → hit front name o ≡ true → hits front name (o ∷ os) ≡ o ∷ hits front name os
  strike o os e = ap (λ (b : Bool). cond b (o ∷ hits front name os) (hits front name os)) e

  skip : (x : Origin) (xs : View) → (hit front name x ≡ true → ⊥) → hits front name (x ∷ xs) ≡ hits front name xs
  skip x xs n = miss x xs (not-true (hit front name x) n)

  no-hits : (v : View) → ((j : ℕ) (l : Origin) → slice_get v j ≡ Some l → hit front name l ≡ true → ⊥)
      → hits front name v ≡ []
  no-hits [] none = refl
  no-hits (x ∷ xs) none = skip x xs (λ t. none zero x refl t) ∙ no-hits xs (λ j l e t. none (suc j) l e t)

  one-hit : (o : Origin) → hit front name o ≡ true → (v : View) (k : ℕ) → slice_get v k ≡ Some o
      → ((j : ℕ) (l : Origin) → slice_get v j ≡ Some l → hit front name l ≡ true → j ≡ k) → hits front name v ≡ o ∷ []
  one-hit o h [] k e only = absurd (none_some o e)
  one-hit o h (x ∷ xs) zero e only =
      let is : x ≡ o = some-same x o e in
      strike x xs (subst (λ y. hit front name y ≡ true) (sym is) h)
      ∙ ap (λ ys. x ∷ ys) (no-hits xs (λ j l f t. let z : suc j ≡ zero = only (suc j) l f t in absurd (omega arith)))
      ∙ ap (λ y. y ∷ []) is
  one-hit o h (x ∷ xs) (suc k) e only =
      skip x xs (λ t. let z : zero ≡ suc k = only zero x refl t in absurd (omega arith))
      ∙ one-hit o h xs k e (λ j l f t. let z : suc j ≡ suc k = only (suc j) l f t in omega arith)

  more-hits : (x : Origin) (xs w : View) (b : Bool) → hit front name x ≡ b
      → hits front name (xs ++ w) ≡ hits front name xs ++ hits front name w
      → hits front name (x ∷ (xs ++ w)) ≡ hits front name (x ∷ xs) ++ hits front name w
  more-hits x xs w true is e =
      strike x (xs ++ w) is ∙ ap (λ ys. x ∷ ys) e ∙ ap (λ ys. ys ++ hits front name w) (sym (strike x xs is))
  more-hits x xs w false is e =
      miss x (xs ++ w) is ∙ e ∙ ap (λ ys. ys ++ hits front name w) (sym (miss x xs is))

  hits-append : (v w : View) → hits front name (v ++ w) ≡ hits front name v ++ hits front name w
  hits-append [] w = refl
  hits-append (x ∷ xs) w = more-hits x xs w (hit front name x) refl (hits-append xs w)

-- ## In the levels

-- the use of a column, where its source has that number
abbrev pub use_at : Origin → ColumnDecl → ℕ → ColumnUse
use_at o c n = record { table = o.table.name; column = c.name; leaf = n }

abbrev pub path_of : Origin → ColumnDecl → Backwards
path_of o c = c.sql_name ∷ exposed o

abbrev found_in : Origin → ColumnDecl → Origin → ℕ → Option ColumnUse
found_in o c x n = if starts_with bytes_eq (exposed x) (exposed o) then column_at n (Some x.table) c.sql_name else None

missed : (a : Bool) (found : Option ColumnDecl) (f : ColumnDecl → ColumnUse) → (a && is_some found) ≡ false
    → (if a then option_map f found else None) ≡ None
missed true None f e = refl
missed true (Some d) f e = cc
missed false found f e = refl

in-misses : (o : Origin) (c : ColumnDecl) (x : Origin) (n : ℕ) → hit (exposed o) c.sql_name x ≡ false
    → found_in o c x n ≡ None
in-misses o c x n e =
    missed (starts_with bytes_eq (exposed x) (exposed o)) (column_named c.sql_name x.table)
    (λ (d : ColumnDecl). record { table = x.table.name; column = d.name; leaf = n }) e

in-finds : (o : Origin) (c : ColumnDecl) → column_named c.sql_name o.table ≡ Some c → (n : ℕ)
    → found_in o c o n ≡ Some (use_at o c n)
in-finds o c has n =
    ap (λ (b : Bool). if b then column_at n (Some o.table) c.sql_name else None) (begins-itself (exposed o))
    ∙ ap (option_map (λ (d : ColumnDecl). record { table = o.table.name; column = d.name; leaf = n })) has

module _ (ts : List TableDecl) (apart : any_two tables_clash ts ≡ false) (os : List Origin) (o : Origin) (c : ColumnDecl)
    (has : column_named c.sql_name o.table ≡ Some c) where
  named-in : (x : Origin) (l : Leaf) → IsLeafOf ts os x l → named ts (path_of o c) l ≡ found_in o c x l.number
  named-in x l h =
      ap (λ (e : Backwards).
      if starts_with bytes_eq e (exposed o) then column_at l.number (table_at ts l.table) c.sql_name else None) h.0
      ∙ ap (λ (t : Option TableDecl).
      if starts_with bytes_eq (exposed x) (exposed o) then column_at l.number t c.sql_name else None)
      (ap (table_at ts) h.1 ∙ table-found ts apart x.table h.3)

  level-none : (own : View) (l : Level) → AllPairs (IsLeafOf ts os) own l → hits (exposed o) c.sql_name own ≡ []
      → named_in ts (path_of o c) l ≡ []
  level-none [] [] p e = refl
  level-none [] (y ∷ ys) p e = absurd p
  level-none (x ∷ xs) [] p e = absurd p
  level-none (x ∷ xs) (y ∷ ys) p e =
      let no : hit (exposed o) c.sql_name x ≡ false =
      not-true (hit (exposed o) c.sql_name x)
      (λ t. none-one x (hits (exposed o) c.sql_name xs) (sym e ∙ strike (exposed o) c.sql_name x xs t)) in
      ap (λ (u : Option ColumnUse). cons_option u (named_in ts (path_of o c) ys))
      (named-in x y p.0 ∙ in-misses o c x y.number no)
      ∙ level-none xs ys p.1 (sym (miss (exposed o) c.sql_name x xs no) ∙ e)

  abbrev IsUsed : Level → Type 0
  IsUsed l = (n : ℕ) × (named_in ts (path_of o c) l ≡ use_at o c n ∷ []) × (slice_get os n ≡ Some o)

  used-step : (x : Origin) (xs : View) (y : Leaf) (ys : Level) → IsLeafOf ts os x y → AllPairs (IsLeafOf ts os) xs ys
      → (b : Bool) → hit (exposed o) c.sql_name x ≡ b → hits (exposed o) c.sql_name (x ∷ xs) ≡ o ∷ []
      → (hits (exposed o) c.sql_name xs ≡ o ∷ [] → IsUsed ys) → IsUsed (y ∷ ys)
  used-step x xs y ys p ps true is e more =
      let z = sym (strike (exposed o) c.sql_name x xs is) ∙ e in
      let same : x ≡ o = head-same x o (hits (exposed o) c.sql_name xs) [] z in
      let rest : hits (exposed o) c.sql_name xs ≡ [] = tail-same x o (hits (exposed o) c.sql_name xs) [] z in (
        y.number,
        ap (λ (u : Option ColumnUse). cons_option u (named_in ts (path_of o c) ys))
            (named-in x y p ∙ ap (λ (w : Origin). found_in o c w y.number) same ∙ in-finds o c has y.number)
            ∙ ap (λ us. use_at o c y.number ∷ us) (level-none xs ys ps rest),
        p.2 ∙ ap Some same,
      )
  used-step x xs y ys p ps false is e more =
      let r : IsUsed ys = more (sym (miss (exposed o) c.sql_name x xs is) ∙ e) in (
        r.0,
        ap (λ (u : Option ColumnUse). cons_option u (named_in ts (path_of o c) ys))
            (named-in x y p ∙ in-misses o c x y.number is)
            ∙ r.1,
        r.2,
      )

  level-one : (own : View) (l : Level) → AllPairs (IsLeafOf ts os) own l
      → hits (exposed o) c.sql_name own ≡ o ∷ [] → IsUsed l
  level-one [] l p e = absurd (none-one o [] e)
  level-one (x ∷ xs) [] p e = absurd p
  level-one (x ∷ xs) (y ∷ ys) p e =
      used-step x xs y ys p.0 p.1 (hit (exposed o) c.sql_name x) refl e (λ f. level-one xs ys p.1 f)

  abbrev IsFound : List Level → Type 0
  IsFound ls = (n : ℕ) × (sought ts (path_of o c) ls ≡ Column (use_at o c n)) × (slice_get os n ≡ Some o)

  further-out : (rest : View) (ls : List Level) → (rest ≡ []) ⊎ Sees ts os rest ls
      → hits (exposed o) c.sql_name rest ≡ o ∷ [] → (Sees ts os rest ls → IsFound ls) → IsFound ls
  further-out rest ls (inl none) e more =
      absurd (none-one o [] (sym (ap (hits (exposed o) c.sql_name) none) ∙ e))
  further-out rest ls (inr s) e more = more s

  seek-step : (own rest : View) (l : Level) (ls : List Level) → AllPairs (IsLeafOf ts os) own l → (found : View)
      → hits (exposed o) c.sql_name own ≡ found → found ++ hits (exposed o) c.sql_name rest ≡ o ∷ []
      → (hits (exposed o) c.sql_name rest ≡ o ∷ [] → IsFound ls) → IsFound (l ∷ ls)
  seek-step own rest l ls p [] is e more =
      let r : IsFound ls = more e in (
        r.0,
        ap (λ us. one_of us (sought ts (path_of o c) ls)) (level-none own l p is) ∙ r.1,
        r.2,
      )
  seek-step own rest l ls p (x ∷ xs) is e more =
      let same : x ≡ o = head-same x o (xs ++ hits (exposed o) c.sql_name rest) [] e in
      let none : xs ≡ [] =
      nothing-left xs (hits (exposed o) c.sql_name rest)
      (tail-same x o (xs ++ hits (exposed o) c.sql_name rest) [] e) in
      let r : IsUsed l = level-one own l p (is ∙ ap (λ y. y ∷ xs) same ∙ ap (λ ys. o ∷ ys) none) in
      (r.0, ap (λ us. one_of us (sought ts (path_of o c) ls)) r.1, r.2)

  pub seek : (ls : List Level) (v : View) → Sees ts os v ls → hits (exposed o) c.sql_name v ≡ o ∷ [] → IsFound ls
  seek [] v s e = absurd (none-one o [] (sym (ap (hits (exposed o) c.sql_name) s) ∙ e))
  seek (l ∷ ls) v s e =
      seek-step s.0 s.1 l ls s.3 (hits (exposed o) c.sql_name s.0) refl
      (sym (ap (hits (exposed o) c.sql_name) s.2 ∙ hits-append (exposed o) c.sql_name s.0 s.1) ∙ e)
      (λ f. further-out s.1 ls s.4 f (λ more. seek ls s.1 more f))

-- What a column's path stands for: the column, of the leaf that is its own source.
pub path-sought : (ts : List TableDecl) → any_two tables_clash ts ≡ false → (os : List Origin) (o : Origin) (c : ColumnDecl)
    → any_two columns_clash o.table.columns ≡ false → AnyOf (λ d. d ≡ c) o.table.columns
    → (v : View) (ls : List Level) → Sees ts os v ls → NamesOnly v (path o c) o
    → (n : ℕ) × (sought ts (path_of o c) ls ≡ Column (use_at o c n)) × (slice_get os n ≡ Some o)
path-sought ts apart os o c differ is v ls sees only =
    let has : column_named c.sql_name o.table ≡ Some c = column-found o.table.columns differ c is in
    let struck : hit (exposed o) c.sql_name o ≡ true =
    and-true (starts_with bytes_eq (exposed o) (exposed o)) (is_some (column_named c.sql_name o.table))
    (begins-itself (exposed o)) (ap (λ (f : Option ColumnDecl). is_some f) has) in
    seek ts apart os o c has ls v sees
    (one-hit (exposed o) c.sql_name o struck v only.0 only.1
    (λ j l e t. only.3 j l e (hit-names o c l t)))
