-- The first of each key of a list in any order is any one of each key.
use Rattle.std.proofs.Common.{◌≡◌, Bool, true, false, ◌||◌, List, [], ◌∷◌, ◌++◌, refl, sym, ap, subst, ◌∙◌, arith, IsPermutation, cond}
use Rattle.std.proofs.lemmas.Bool.{or_left}
use Rattle.std.proofs.lemmas.List.Sorted.{IsPermutation-refl, IsPermutation-sym, IsPermutation-trans, IsPermutation-cons, IsPermutation-middle}
use Rattle.sql_rules.specs.Lists.{Each}
use Rattle.sql_rows_meaning.specs.Answers.{Line, is_keyed, first_of_each}
use Rattle.sql_rows_meaning.specs.Rows.{Row, same_row}
use Rattle.sql_rows_meaning.specs.Worked.{AreApart, IsOneOfEach, FirstIsAny}
use Rattle.sql_rows_meaning.proofs.Counts.{exact-row, same_row-itself}
use Rattle.sql_rows_meaning.proofs.Lists.{Each-weaken}

not_same : (v w : Row) (b : Bool) → same_row w v ≡ b → same_row v w ≡ false → same_row w v ≡ false
not_same v w true e h = absurd (clash (sym h ∙ (ap (λ z. same_row v z) (exact-row w v e) ∙ same_row-itself v)))
  where
    clash : false ≡ true → ⊥
    clash p = grind arith
not_same v w false e h = e

-- none of the lines has that key, line by line
none-keyed : (key : Line → Row) (row : Row) (lines : List Line) → is_keyed key row lines ≡ false
    → Each (λ line. same_row row (key line) ≡ false) lines
none-keyed key row [] h = tt
none-keyed key row (line ∷ lines) h = go (same_row row (key line)) refl h (none-keyed key row lines)
  where
    go : (b : Bool) → same_row row (key line) ≡ b → cond b true (is_keyed key row lines) ≡ false
        → (is_keyed key row lines ≡ false → Each (λ line. same_row row (key line) ≡ false) lines)
        → (same_row row (key line) ≡ false) × Each (λ line. same_row row (key line) ≡ false) lines
    go true e k r = absurd (grind arith)
    go false e k r = (e, r k)

-- the two halves of a line's test
keyed-cons : (key : Line → Row) (row : Row) (line : Line) (lines : List Line) (b : Bool) → same_row row (key line) ≡ b
    → is_keyed key row (line ∷ lines) ≡ (b || is_keyed key row lines)
keyed-cons key row line lines true e = rw e refl
keyed-cons key row line lines false e = rw e refl

all-dropped : (key : Line → Row) (earlier rest : List Line) → Each (λ line. is_keyed key (key line) earlier ≡ true) rest
    → first_of_each key earlier rest ≡ []
all-dropped key earlier [] h = refl
all-dropped key earlier (line ∷ rest) h = rw h.0 (all-dropped key earlier rest h.1)

moved_cons : (key : Line → Row) (row : Row) (c : Line) (earlier cs : List Line)
    → (is_keyed key row earlier || is_keyed key row (c ∷ cs)) ≡ true
    → (is_keyed key row (c ∷ earlier) || is_keyed key row cs) ≡ true
moved_cons key row c earlier cs h = go (same_row row (key c)) (is_keyed key row earlier) h
  where
    go : (b e : Bool) → (e || cond b true (is_keyed key row cs)) ≡ true → (cond b true e || is_keyed key row cs) ≡ true
    go true e k = refl
    go false true k = refl
    go false false k = k

first-of-chosen : (key : Line → Row) (earlier cs rest : List Line) → AreApart key cs
    → Each (λ c. is_keyed key (key c) earlier ≡ false) cs →
    Each (λ line. (is_keyed key (key line) earlier || is_keyed key (key line) cs) ≡ true) rest
    → first_of_each key earlier (cs ++ rest) ≡ cs
first-of-chosen key earlier [] rest a new h =
    all-dropped key earlier rest
    (Each-weaken _ (λ line. is_keyed key (key line) earlier ≡ true)
    (λ line k. no_more (is_keyed key (key line) earlier) k) rest h)
  where
    no_more : (b : Bool) → (b || false) ≡ true → b ≡ true
    no_more true k = refl
    no_more false k = k
first-of-chosen key earlier (c ∷ cs) rest a new h =
    rw new.0 (ap (λ ls. c ∷ ls)
    (first-of-chosen key (c ∷ earlier) cs rest a.1 (still_new cs new.1 (none-keyed key (key c) cs a.0))
    (Each-weaken _ (λ line. (is_keyed key (key line) (c ∷ earlier) || is_keyed key (key line) cs) ≡ true)
    (λ line k. moved_cons key (key line) c earlier cs k) rest h)))
  where
    still_new : (ds : List Line) → Each (λ d. is_keyed key (key d) earlier ≡ false) ds
        → Each (λ d. same_row (key c) (key d) ≡ false) ds → Each (λ d. is_keyed key (key d) (c ∷ earlier) ≡ false) ds
    still_new [] n s = tt
    still_new (d ∷ ds) n s =
        (rw (not_same (key c) (key d) (same_row (key d) (key c)) refl s.0) n.0, still_new ds n.1 s.1)

-- the lines that are left out
left_out : (Line → Row) → List Line → List Line → List Line
left_out key earlier [] = []
left_out key earlier (line ∷ lines) =
    cond (is_keyed key (key line) earlier) (line ∷ left_out key earlier lines) (left_out key (line ∷ earlier) lines)

both-parts : (key : Line → Row) (earlier lines : List Line)
    → IsPermutation lines (first_of_each key earlier lines ++ left_out key earlier lines)
unfolding left_out
both-parts key earlier [] = IsPermutation-refl []
both-parts key earlier (line ∷ lines) =
    go (is_keyed key (key line) earlier) (both-parts key earlier lines) (both-parts key (line ∷ earlier) lines)
  where
    go : (b : Bool) → IsPermutation lines (first_of_each key earlier lines ++ left_out key earlier lines)
        → IsPermutation lines (first_of_each key (line ∷ earlier) lines ++ left_out key (line ∷ earlier) lines) →
        IsPermutation (line ∷ lines)
        (cond b (first_of_each key earlier lines) (line ∷ first_of_each key (line ∷ earlier) lines)
        ++ cond b (line ∷ left_out key earlier lines) (left_out key (line ∷ earlier) lines))
    go true p q =
        IsPermutation-trans _ _ _ (IsPermutation-cons line lines _ p)
        (IsPermutation-sym _ _
        (IsPermutation-middle (first_of_each key earlier lines) line (left_out key earlier lines)))
    go false p q = IsPermutation-cons line lines _ q

-- a key that came before is not kept again
not-again : (key : Line → Row) (row : Row) (earlier lines : List Line) → is_keyed key row earlier ≡ true
    → is_keyed key row (first_of_each key earlier lines) ≡ false
not-again key row earlier [] h = refl
not-again key row earlier (line ∷ lines) h =
    go (is_keyed key (key line) earlier) refl (not-again key row earlier lines h)
    (λ k. not-again key row (line ∷ earlier) lines k)
  where
    different : (b : Bool) → same_row row (key line) ≡ b → is_keyed key (key line) earlier ≡ false
        → same_row row (key line) ≡ false
    different true e n =
        absurd (clash (sym n ∙ (ap (λ z. is_keyed key z earlier) (sym (exact-row row (key line) e)) ∙ h)))
      where
        clash : false ≡ true → ⊥
        clash p = grind arith
    different false e n = e

    go : (b : Bool) → is_keyed key (key line) earlier ≡ b → is_keyed key row (first_of_each key earlier lines) ≡ false
        → (is_keyed key row (line ∷ earlier) ≡ true → is_keyed key row (first_of_each key (line ∷ earlier) lines)
        ≡ false) →
        is_keyed key row (cond b (first_of_each key earlier lines) (line ∷ first_of_each key (line ∷ earlier) lines))
        ≡ false
    go true e r s = r
    go false e r s = let d = different (same_row row (key line)) refl e in rw d (s (rw d h))

first-apart : (key : Line → Row) (earlier lines : List Line) → AreApart key (first_of_each key earlier lines)
first-apart key earlier [] = tt
first-apart key earlier (line ∷ lines) =
    go (is_keyed key (key line) earlier) (first-apart key earlier lines) (first-apart key (line ∷ earlier) lines)
  where
    go : (b : Bool) → AreApart key (first_of_each key earlier lines)
        → AreApart key (first_of_each key (line ∷ earlier) lines)
        → AreApart key (cond b (first_of_each key earlier lines) (line ∷ first_of_each key (line ∷ earlier) lines))
    go true a c = a
    go false a c = (not-again key (key line) (line ∷ earlier) lines (rw (same_row-itself (key line)) refl), c)

left_out-covered : (key : Line → Row) (earlier lines : List Line)
    → Each (λ line. (is_keyed key (key line) earlier || is_keyed key (key line) (first_of_each key earlier lines))
    ≡ true) (left_out key earlier lines)
unfolding left_out
left_out-covered key earlier [] = tt
left_out-covered key earlier (line ∷ lines) =
    go (is_keyed key (key line) earlier) refl (left_out-covered key earlier lines)
    (left_out-covered key (line ∷ earlier) lines)
  where
    Covered : List Line → List Line → Line → Type 0
    Covered early kept' l = (is_keyed key (key l) early || is_keyed key (key l) kept') ≡ true

    back : (l : Line) (ks : List Line) → (is_keyed key (key l) (line ∷ earlier) || is_keyed key (key l) ks) ≡ true
        → (is_keyed key (key l) earlier || is_keyed key (key l) (line ∷ ks)) ≡ true
    back l ks h = swap_in (same_row (key l) (key line)) (is_keyed key (key l) earlier) h
      where
        swap_in : (b e : Bool) → (cond b true e || is_keyed key (key l) ks) ≡ true
            → (e || cond b true (is_keyed key (key l) ks)) ≡ true
        swap_in true true k = refl
        swap_in true false k = refl
        swap_in false true k = refl
        swap_in false false k = k

    go : (b : Bool) → is_keyed key (key line) earlier ≡ b →
        Each (λ l. (is_keyed key (key l) earlier || is_keyed key (key l) (first_of_each key earlier lines)) ≡ true)
        (left_out key earlier lines) →
        Each (λ l. (is_keyed key (key l) (line ∷ earlier)
        || is_keyed key (key l) (first_of_each key (line ∷ earlier) lines)) ≡ true)
        (left_out key (line ∷ earlier) lines) →
        Each (λ l. (is_keyed key (key l) earlier
        || is_keyed key (key l)
        (cond b (first_of_each key earlier lines) (line ∷ first_of_each key (line ∷ earlier) lines))) ≡ true)
        (cond b (line ∷ left_out key earlier lines) (left_out key (line ∷ earlier) lines))
    go true e p q = (or_left _ _ e, p)
    go false e p q =
        Each-weaken _ _ (λ l h. back l (first_of_each key (line ∷ earlier) lines) h)
        (left_out key (line ∷ earlier) lines) q

pub first-any : FirstIsAny
first-any key lines chosen = (to_order, from_order)
  where
    to_order : IsOneOfEach key lines chosen → (shuffled : List Line) × IsPermutation lines shuffled
        × (first_of_each key [] shuffled ≡ chosen)
    to_order h =
        (chosen ++ h.rest, h.order, first-of-chosen key [] chosen h.rest h.apart (none_before chosen) h.covered)
      where
        none_before : (cs : List Line) → Each (λ c. false ≡ false) cs
        none_before [] = tt
        none_before (c ∷ cs) = (refl, none_before cs)

    from_order : (shuffled : List Line) × IsPermutation lines shuffled × (first_of_each key [] shuffled ≡ chosen)
        → IsOneOfEach key lines chosen
    from_order (shuffled, p, e) = subst (λ c. IsOneOfEach key lines c) e (record {
      rest = left_out key [] shuffled;
      order = IsPermutation-trans lines shuffled _ p (both-parts key [] shuffled);
      apart = first-apart key [] shuffled;
      covered = left_out-covered key [] shuffled;
    })
