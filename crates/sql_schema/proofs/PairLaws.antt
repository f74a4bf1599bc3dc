-- An index of pairs of tables finds what a search by their names finds.
use Rattle.std.proofs.Common.{◌≡◌, ◌⊎◌, inl, inr, ℕ, Bool, true, false, ◌||◌, ◌&&◌, ◌==◌, not, cond, ltb, List, [], ◌∷◌, Option, Some, None, length, take, get_or, min, max, option_and_then, option_map, is_some, refl, subst, ◌<◌, ap, sym, ◌∙◌, arith}
use Rattle.std.specs.List.{list_any}
use Rattle.std.specs.BTreeMap.{BTreeMap, get}
use Rattle.std.specs.Ordering.{is_eq, nat_cmp}
use Rattle.std.specs.declared.cmp.Ordering.TheVariants.{Less, Equal, Greater}
use Rattle.std.specs.Str.{bytes_eq}
use Rattle.std.proofs.lemmas.Bool.{ltb-true, eqb-true, eq-eqb, cases_eq, not-false, or_cases, or_left, or_right, and_parts, and_from, or_from, and_left, and_right, false_from_ne_true, false≢true}
use Rattle.std.proofs.lemmas.Cmp.{nat_list_eq_equiv}
use Rattle.sql_schema.specs.declared.declaration.JoinableDecl.{JoinableDecl}
use Rattle.sql_schema.specs.declared.declaration.TableDecl.{TableDecl}
use Rattle.std.proofs.lemmas.List.{take_all}
use Rattle.sql_schema.specs.Declarations.{Declarations}
use Rattle.sql_schema.specs.Refusals.{any_two, has_table, lacks_table, relate_alike, is_bad_joinable, least_refusal}
use Rattle.sql_schema.specs.Relations.{are_named, relates, relation_of}
use Rattle.sql_schema.specs.inside.Indices.{Says}
use Rattle.sql_schema.specs.inside.Pairs.{table_index, key_cmp, lesser_first, key_of, is_key, has_key, IndexesPairs}
use Rattle.sql_schema.proofs.ExactTypes.{exact-text}
use Rattle.sql_schema.proofs.Indices.{index-none, index-passes, no_table, says-any, says-finds}
use Rattle.sql_schema.proofs.NameSets.{any-alike, is_eq-then}
use Rattle.sql_schema.proofs.RefusalLaws.{neither, none-refused}

alike : (b c : Bool) → (b ≡ true → c ≡ true) → (c ≡ true → b ≡ true) → b ≡ c
alike true c f g = sym (f refl)
alike false true f g = g refl
alike false false f g = refl

-- ---- keys

is_eq-nat : (x y : ℕ) → is_eq (nat_cmp x y) ≡ (x == y)
is_eq-nat x y = by_tests (ltb x y) (x == y) refl refl
  where
    by_tests : (b c : Bool) → ltb x y ≡ b → (x == y) ≡ c → is_eq (cond b Less (cond c Equal Greater)) ≡ c
    by_tests true true h k = absurd (omega (arith, ltb-true x y h, eqb-true x y k))
    by_tests true false h k = refl
    by_tests false true h k = refl
    by_tests false false h k = refl

and-none : (x y : Bool) → false ≡ ((x && false) || (y && false))
and-none true true = refl
and-none true false = refl
and-none false true = refl
and-none false false = refl

-- two indexes, the lesser first, are those of another two in either order
module _ (c d i j : ℕ) where
  one-way : min c d ≡ min i j → max c d ≡ max i j → ((c == i && d == j) || (c == j && d == i)) ≡ true
  one-way low high =
      elim (cases_eq c i) [
        | inl e ↦
            or_left (c == i && d == j) (c == j && d == i)
            (and_from (c == i) (d == j) (eq-eqb c i e) (eq-eqb d j (omega (arith, e, low, high))))
        | inr e ↦
            or_right (c == i && d == j) (c == j && d == i)
            (and_from (c == j) (d == i) (eq-eqb c j (omega (arith, e, low, high)))
            (eq-eqb d i (omega (arith, e, low, high))))
      ]

  back-from : (x y : ℕ) → (c == x && d == y) ≡ true → (c ≡ x) × (d ≡ y)
  back-from x y h = let both = and_parts (c == x) (d == y) h in (eqb-true c x both.0, eqb-true d y both.1)

  back : ((c == i && d == j) || (c == j && d == i)) ≡ true → (min c d ≡ min i j) × (max c d ≡ max i j)
  back h =
      elim (or_cases (c == i && d == j) (c == j && d == i) h) [
        | inl k ↦ let e = back-from i j k in (omega (arith, e.0, e.1), omega (arith, e.0, e.1))
        | inr k ↦ let e = back-from j i k in (omega (arith, e.0, e.1), omega (arith, e.0, e.1))
      ]

  same-two : (min c d == min i j && max c d == max i j) ≡ ((c == i && d == j) || (c == j && d == i))
  same-two =
      alike (min c d == min i j && max c d == max i j) ((c == i && d == j) || (c == j && d == i))
      (λ h. let both = and_parts (min c d == min i j) (max c d == max i j) h in
      one-way (eqb-true (min c d) (min i j) both.0) (eqb-true (max c d) (max i j) both.1))
      (λ h. let both = back h in
      and_from (min c d == min i j) (max c d == max i j) (eq-eqb (min c d) (min i j) both.0)
      (eq-eqb (max c d) (max i j) both.1))

-- the index that is there is that one
abbrev is_index : Option ℕ → ℕ → Bool
is_index None i = false
is_index (Some k) i = k == i

same-key : (c d : Option ℕ) (i j : ℕ)
    → is_key (lesser_first c d) (min i j, max i j)
    ≡ ((is_index c i && is_index d j) || (is_index c j && is_index d i))
same-key None d i j = refl
same-key (Some c) None i j = and-none (c == i) (c == j)
same-key (Some c) (Some d) i j =
    is_eq-then (nat_cmp (min c d) (min i j)) (nat_cmp (max c d) (max i j))
    ∙ ap (λ b. b && is_eq (nat_cmp (max c d) (max i j))) (is_eq-nat (min c d) (min i j))
    ∙ ap (λ b. min c d == min i j && b) (is_eq-nat (max c d) (max i j)) ∙ same-two c d i j

module _ (tables : List TableDecl) where
  -- one index is of one name
  one-name : (a c : List ℕ) (i : ℕ) → table_index tables a ≡ Some i → table_index tables c ≡ Some i → c ≡ a
  one-name a c i e f =
      let named : List ℕ → TableDecl → Bool = λ q t. bytes_eq t.name q in
      let there = (get_or tables i no_table).name in
      sym (exact-text there c (index-passes (named c) tables i f no_table))
      ∙ exact-text there a (index-passes (named a) tables i e no_table)

  by-name : (a c : List ℕ) (i : ℕ) (o : Option ℕ) → table_index tables a ≡ Some i → table_index tables c ≡ o
      → is_index o i ≡ bytes_eq c a
  by-name a c i None e f =
      sym
      (false_from_ne_true (bytes_eq c a)
      (λ h. let wrong : None ≡ Some i = sym f ∙ ap (table_index tables) (exact-text c a h) ∙ e in cc))
  by-name a c i (Some k) e f =
      alike (k == i) (bytes_eq c a)
      (λ h. ap (λ x. bytes_eq x a) (one-name a c i e (f ∙ ap Some (eqb-true k i h))) ∙ nat_list_eq_equiv.refl a)
      (λ h. eq-eqb k i (let same : Some k ≡ Some i = sym f ∙ ap (table_index tables) (exact-text c a h) ∙ e in cc))

  module _ {A : Type 0} (names_of : A → List ℕ × List ℕ) where
    abbrev pub names : List ℕ → List ℕ → A → Bool
    names a b x = are_named (names_of x).0 (names_of x).1 a b

    key-names : (a b : List ℕ) (i j : ℕ) → table_index tables a ≡ Some i → table_index tables b ≡ Some j → (x : A)
        → has_key tables names_of (min i j, max i j) x ≡ names a b x
    key-names a b i j e f x =
        let c = (names_of x).0 in
        let d = (names_of x).1 in
        let p = table_index tables c in
        let q = table_index tables d in
        same-key p q i j
        ∙ (λ k. (by-name a c i p e refl k && by-name b d j q f refl k)
        || (by-name b c j p f refl k && by-name a d i q e refl k))

    -- ---- elements that name known tables alone

    abbrev pub lacks : A → Bool
    lacks x = lacks_table tables (names_of x).0 (names_of x).1

    apart : (one a : List ℕ) → has_table tables one ≡ true → has_table tables a ≡ false → bytes_eq one a ≡ false
    apart one a h m =
        false_from_ne_true (bytes_eq one a)
        (λ e. false≢true (sym m ∙ ap (has_table tables) (sym (exact-text one a e)) ∙ h))

    unnamed : (a b : List ℕ) (x : A) → lacks x ≡ false → (has_table tables a ≡ false) ⊎ (has_table tables b ≡ false)
        → names a b x ≡ false
    unnamed a b x known missing =
        let c = (names_of x).0 in
        let d = (names_of x).1 in
        let both = neither (not (has_table tables c)) (not (has_table tables d)) known in
        let one = not-false (has_table tables c) both.0 in
        let other = not-false (has_table tables d) both.1 in
        elim missing [
          | inl m ↦
              or_from (bytes_eq c a && bytes_eq d b) (bytes_eq c b && bytes_eq d a)
              (and_left (bytes_eq c a) (bytes_eq d b) (apart c a one m))
              (and_right (bytes_eq c b) (bytes_eq d a) (apart d a other m))
          | inr m ↦
              or_from (bytes_eq c a && bytes_eq d b) (bytes_eq c b && bytes_eq d a)
              (and_right (bytes_eq c a) (bytes_eq d b) (apart d b other m))
              (and_left (bytes_eq c b) (bytes_eq d a) (apart c b one m))
        ]

    none-named : (a b : List ℕ) → (has_table tables a ≡ false) ⊎ (has_table tables b ≡ false) → (xs : List A)
        → list_any lacks xs ≡ false → list_any (names a b) xs ≡ false
    none-named a b missing [] h = refl
    none-named a b missing (x ∷ xs) h =
        let both = neither (lacks x) (list_any lacks xs) h in
        ap (λ v. v || list_any (names a b) xs) (unnamed a b x both.0 missing) ∙ none-named a b missing xs both.1

    -- ---- what the index says of two names

    says-alike : (f g : A → Bool) → ((x : A) → f x ≡ g x) → (xs : List A) (n : ℕ) (o : Option ℕ) → Says f xs n o
        → Says g xs n o
    says-alike f g same xs n None h = sym (any-alike f g same (take n xs)) ∙ h
    says-alike f g same xs n (Some i) h = (h.0, λ d. sym (same (get_or xs i d)) ∙ h.1 d)

    module _ (a b : List ℕ) (m : BTreeMap (ℕ × ℕ) ℕ) (xs : List A) where
      says-unnamed : list_any lacks xs ≡ false → (has_table tables a ≡ false) ⊎ (has_table tables b ≡ false)
          → list_any (names a b) (take (length xs) xs) ≡ false
      says-unnamed known missing =
          ap (list_any (names a b)) (take_all (length xs) xs (omega arith)) ∙ none-named a b missing xs known

      by_indexes : list_any lacks xs ≡ false → IndexesPairs tables names_of m xs (length xs) → (o p : Option ℕ)
          → table_index tables a ≡ o → table_index tables b ≡ p
          → Says (names a b) xs (length xs) (option_and_then (get key_cmp m) (lesser_first o p))
      by_indexes known indexes None p e f =
          says-unnamed known (inl (index-none (λ (t : TableDecl). bytes_eq t.name a) tables e))
      by_indexes known indexes (Some i) None e f =
          says-unnamed known (inr (index-none (λ (t : TableDecl). bytes_eq t.name b) tables f))
      by_indexes known indexes (Some i) (Some j) e f =
          says-alike (has_key tables names_of (min i j, max i j)) (names a b) (key-names a b i j e f) xs (length xs)
          (get key_cmp m (min i j, max i j)) (indexes (min i j, max i j))

      pub pairs-say : list_any lacks xs ≡ false → IndexesPairs tables names_of m xs (length xs) → (o : Option ℕ)
          → o ≡ option_and_then (get key_cmp m) (key_of tables a b) → Says (names a b) xs (length xs) o
      pairs-say known indexes o is =
          subst (Says (names a b) xs (length xs)) (sym is)
          (by_indexes known indexes (table_index tables a) (table_index tables b) refl refl)

-- ---- relations

joined : (p q a : List ℕ) → bytes_eq p a ≡ true → bytes_eq q a ≡ true → bytes_eq p q ≡ true
joined p q a h k =
    subst (λ t. bytes_eq p t ≡ true) (exact-text p a h ∙ sym (exact-text q a k)) (nat_list_eq_equiv.refl p)

both-joined : (p q r s a b : List ℕ) → (bytes_eq p a && bytes_eq q b) ≡ true → (bytes_eq r a && bytes_eq s b) ≡ true
    → (bytes_eq p r && bytes_eq q s) ≡ true
both-joined p q r s a b h k =
    let one = and_parts (bytes_eq p a) (bytes_eq q b) h in
    let other = and_parts (bytes_eq r a) (bytes_eq s b) k in
    and_from (bytes_eq p r) (bytes_eq q s) (joined p r a one.0 other.0) (joined q s b one.1 other.1)

swapped : (x y : Bool) → (x && y) ≡ true → (y && x) ≡ true
swapped true true h = refl
swapped true false h = h
swapped false true h = h
swapped false false h = h

-- two relations of the same two tables
alike-related : (a b : List ℕ) (x y : JoinableDecl) → relates a b x ≡ true → relates a b y ≡ true
    → relate_alike x y ≡ true
alike-related a b x y h k =
    let straight = bytes_eq x.child y.child && bytes_eq x.parent y.parent in
    let crossed = bytes_eq x.child y.parent && bytes_eq x.parent y.child in
    let from_one = bytes_eq y.child a && bytes_eq y.parent b in
    let from_other = bytes_eq y.child b && bytes_eq y.parent a in
    elim (or_cases (bytes_eq x.child a && bytes_eq x.parent b) (bytes_eq x.child b && bytes_eq x.parent a) h) [
      | inl p ↦
          elim (or_cases from_one from_other k) [
            | inl q ↦ or_left straight crossed (both-joined x.child x.parent y.child y.parent a b p q)
            | inr q ↦
                or_right straight crossed
                (both-joined x.child x.parent y.parent y.child a b p
                (swapped (bytes_eq y.child b) (bytes_eq y.parent a) q))
          ]
      | inr p ↦
          elim (or_cases from_one from_other k) [
            | inl q ↦
                or_right straight crossed
                (both-joined x.child x.parent y.parent y.child b a p
                (swapped (bytes_eq y.child a) (bytes_eq y.parent b) q))
            | inr q ↦ or_left straight crossed (both-joined x.child x.parent y.child y.parent b a p q)
          ]
    ]

-- ---- of a schema

abbrev pub ends : JoinableDecl → List ℕ × List ℕ
ends j = (j.child, j.parent)

abbrev pub itself : List ℕ × List ℕ → List ℕ × List ℕ
itself p = p

module _ (s : Declarations) (sound : least_refusal s ≡ None) (m : BTreeMap (ℕ × ℕ) ℕ) (a b : List ℕ) (o : Option ℕ) where
  known : (list_any (lacks s.tables ends) s.joinables ≡ false) × (list_any (lacks s.tables itself) s.together ≡ false)
  known =
      neither (list_any (lacks s.tables ends) s.joinables) (list_any (lacks s.tables itself) s.together)
      (none-refused s sound).know_tables

  says-related : o ≡ option_and_then (get key_cmp m) (key_of s.tables a b)
      → IndexesPairs s.tables ends m s.joinables (length s.joinables)
      → Says (relates a b) s.joinables (length s.joinables) o
  says-related is indexes = pairs-say s.tables ends a b m s.joinables known.0 indexes o is

  pub relation-within : o ≡ option_and_then (get key_cmp m) (key_of s.tables a b)
      → IndexesPairs s.tables ends m s.joinables (length s.joinables) → (i : ℕ) → o ≡ Some i → i < length s.joinables
  relation-within is indexes i e =
      (subst (Says (relates a b) s.joinables (length s.joinables)) e (says-related is indexes)).0

  pub relation-found : o ≡ option_and_then (get key_cmp m) (key_of s.tables a b)
      → IndexesPairs s.tables ends m s.joinables (length s.joinables) → (d : JoinableDecl)
      → option_map (λ i. get_or s.joinables i d) o ≡ relation_of s.joinables a b
  relation-found is indexes d =
      says-finds (relates a b) relate_alike (alike-related a b) s.joinables
      (neither (list_any (λ j. is_bad_joinable s.tables j) s.joinables) (any_two relate_alike s.joinables)
      (none-refused s sound).relate_well).1
      o (says-related is indexes) d

  pub pair-found : o ≡ option_and_then (get key_cmp m) (key_of s.tables a b)
      → IndexesPairs s.tables itself m s.together (length s.together)
      → is_some o ≡ list_any (λ p. are_named p.0 p.1 a b) s.together
  pair-found is indexes =
      says-any (λ (p : List ℕ × List ℕ). are_named p.0 p.1 a b) s.together o
      (pairs-say s.tables itself a b m s.together known.1 indexes o is) ([], [])

-- what is read past the last relation
abbrev pub no_relation : JoinableDecl
no_relation = record { child = []; key = []; parent = [] }
