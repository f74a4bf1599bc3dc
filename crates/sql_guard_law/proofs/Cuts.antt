-- Filters and joins by relations, over the whole database and over the cut one.
use Rattle.std.proofs.Common.{◌≡◌, Bool, true, false, ◌&&◌, List, [], ◌∷◌, ◌++◌, map, refl, sym, ap, ap₂, subst, ◌∙◌, filter, cond, inl, inr, ◌⊎◌}
use Rattle.std.proofs.lemmas.Bool.{true≢false}
use Rattle.sql_leaf.specs.declared.table_source.JoinKind.{JoinKind}
use Rattle.sql_leaf.specs.declared.table_source.JoinKind.TheVariants.{Inner, LeftOuter}
use Rattle.sql_rules.specs.Lists.{Each}
use Rattle.sql_rows_meaning.specs.Answers.{or_padded, Joined, no_rows, a_row}
use Rattle.sql_rows_meaning.specs.Frames.{Frame}
use Rattle.sql_rows_meaning.specs.Rows.{Filtered, none, kept, dropped}
use Rattle.sql_rows_meaning.proofs.Choices.{filtered-some}
use Rattle.sql_rows_meaning.proofs.Lists.{Each-weaken, Filtered-each}
use Rattle.sql_rows_meaning.proofs.Permutations.{filter-append}
use Rattle.sql_guard_law.proofs.Filters.{filter-map, filter-same, filter-all, filter-none}

-- ---- what a filter or a join of a list is

filtered-nil : {A : Type 0} {T : A → Bool → Type 0} {out : List A} → Filtered T [] out → out ≡ []
filtered-nil none = refl

filtered-cons : {A : Type 0} {T : A → Bool → Type 0} {x : A} {xs out : List A} → Filtered T (x ∷ xs) out
    → (T x true × ((rest : List A) × (out ≡ x ∷ rest) × Filtered T xs rest)) ⊎ (T x false × Filtered T xs out)
filtered-cons (kept {out = rest} t f) = inl (t, (rest, refl, f))
filtered-cons (dropped t f) = inr (t, f)

joined-nil : {kind : JoinKind} {padding : Frame} {On : Frame → Bool → Type 0} {right rows : List Frame}
    → Joined kind padding On right [] rows → rows ≡ []
joined-nil no_rows = refl

joined-cons : {kind : JoinKind} {padding : Frame} {On : Frame → Bool → Type 0} {right left rows : List Frame} {x : Frame}
    → Joined kind padding On right (x ∷ left) rows
    → (pairs rest : List Frame) × Filtered On (map (λ y. x ++ y) right) pairs × Joined kind padding On right left rest
    × (rows ≡ or_padded kind padding x pairs ++ rest)
joined-cons (a_row {pairs = pairs} {rows = rest} f j) = (pairs, rest, f, j, refl)

pub Filtered-weaken : {A : Type 0} (T U : A → Bool → Type 0) → ((x : A) (b : Bool) → T x b → U x b) → {xs ys : List A}
    → Filtered T xs ys → Filtered U xs ys
Filtered-weaken T U g none = none
Filtered-weaken T U g (kept {x = x} t f) = kept (g x true t) (Filtered-weaken T U g f)
Filtered-weaken T U g (dropped {x = x} t f) = dropped (g x false t) (Filtered-weaken T U g f)

pub Joined-weaken : (kind : JoinKind) (padding : Frame) (T U : Frame → Bool → Type 0)
    → ((x : Frame) (b : Bool) → T x b → U x b) → (ys : List Frame) → {xs rows : List Frame}
    → Joined kind padding T ys xs rows → Joined kind padding U ys xs rows
Joined-weaken kind padding T U g ys no_rows = no_rows
Joined-weaken kind padding T U g ys (a_row f j) = a_row (Filtered-weaken T U g f) (Joined-weaken kind padding T U g ys j)

-- ---- filters

module _ {A : Type 0} (T U : A → Bool → Type 0) (q : A → Bool) where
  -- A test that is another and a condition keeps of all what the other keeps of those that meet the condition.
  pub narrowed : ((x : A) (b : Bool) → T x b → q x ≡ true → U x b)
      → ((x : A) (b : Bool) → T x b → q x ≡ false → b ≡ false)
      → {xs out : List A} → Filtered T xs out → Filtered U (filter q xs) out
  narrowed on off none = none
  narrowed on off (kept {x = x} {xs = xs} {out = out} t f) = go (q x) refl (narrowed on off f)
    where
      go : (b : Bool) → q x ≡ b → Filtered U (filter q xs) out
          → Filtered U (cond b (x ∷ filter q xs) (filter q xs)) (x ∷ out)
      go true e rest = kept (on x true t e) rest
      go false e rest = absurd (true≢false (off x true t e))
  narrowed on off (dropped {x = x} {xs = xs} {out = out} t f) = go (q x) refl (narrowed on off f)
    where
      go : (b : Bool) → q x ≡ b → Filtered U (filter q xs) out → Filtered U (cond b (x ∷ filter q xs) (filter q xs)) out
      go true e rest = dropped (on x false t e) rest
      go false e rest = rest

  pub widened : ((x : A) (b : Bool) → U x b → q x ≡ true → T x b) → ((x : A) → q x ≡ false → T x false)
      → (xs out : List A) → Filtered U (filter q xs) out → Filtered T xs out
  widened on off [] out f = subst (λ o. Filtered T [] o) (sym (filtered-nil f)) none
  widened on off (x ∷ xs) out f = go (q x) refl (λ o g. widened on off xs o g) f
    where
      split : q x ≡ true → ((o : List A) → Filtered U (filter q xs) o → Filtered T xs o)
          → (U x true × ((rest : List A) × (out ≡ x ∷ rest) × Filtered U (filter q xs) rest))
          ⊎ (U x false × Filtered U (filter q xs) out) → Filtered T (x ∷ xs) out
      split e next (inl (u, (rest, is, g))) =
          subst (λ o. Filtered T (x ∷ xs) o) (sym is) (kept (on x true u e) (next rest g))
      split e next (inr (u, g)) = dropped (on x false u e) (next out g)

      go : (b : Bool) → q x ≡ b → ((o : List A) → Filtered U (filter q xs) o → Filtered T xs o)
          → Filtered U (cond b (x ∷ filter q xs) (filter q xs)) out → Filtered T (x ∷ xs) out
      go true e next g = split e next (filtered-cons g)
      go false e next g = dropped (off x e) (next out g)

  -- Tests that agree keep of those that meet a condition what they keep of all and meets it.
  pub thinned-out : ((x : A) (b : Bool) → T x b → U x b) → {xs out : List A} → Filtered T xs out
      → Filtered U (filter q xs) (filter q out)
  thinned-out on none = none
  thinned-out on (kept {x = x} {xs = xs} {out = out} t f) = go (q x) (thinned-out on f)
    where
      go : (b : Bool) → Filtered U (filter q xs) (filter q out)
          → Filtered U (cond b (x ∷ filter q xs) (filter q xs)) (cond b (x ∷ filter q out) (filter q out))
      go true rest = kept (on x true t) rest
      go false rest = rest
  thinned-out on (dropped {x = x} {xs = xs} {out = out} t f) = go (q x) (thinned-out on f)
    where
      go : (b : Bool) → Filtered U (filter q xs) (filter q out)
          → Filtered U (cond b (x ∷ filter q xs) (filter q xs)) (filter q out)
      go true rest = dropped (on x false t) rest
      go false rest = rest

  -- a filter of the whole list that keeps these of those that meet the condition
  abbrev Whole : List A → List A → Type 0
  Whole xs out = (whole : List A) × Filtered T xs whole × (filter q whole ≡ out)

  pub filled-in : ((x : A) (b : Bool) → U x b → T x b) → ((x : A) → (b : Bool) × T x b) → (xs out : List A)
      → Filtered U (filter q xs) out → (whole : List A) × Filtered T xs whole × (filter q whole ≡ out)
  filled-in on some [] out f = ([], none, sym (filtered-nil f))
  filled-in on some (x ∷ xs) out f = go (q x) refl (λ o g. filled-in on some xs o g) f
    where
      split : q x ≡ true → ((o : List A) → Filtered U (filter q xs) o → Whole xs o)
          → (U x true × ((rest : List A) × (out ≡ x ∷ rest) × Filtered U (filter q xs) rest))
          ⊎ (U x false × Filtered U (filter q xs) out) → Whole (x ∷ xs) out
      split e next (inl (u, (rest, is, g))) =
          let (whole, h, are) = next rest g in (
            x ∷ whole,
            kept (on x true u) h,
            ap (λ b. cond b (x ∷ filter q whole) (filter q whole)) e
                ∙ (ap (λ l. x ∷ l) are ∙ sym is),
          )
      split e next (inr (u, g)) = let (whole, h, are) = next out g in (whole, dropped (on x false u) h, are)

      unmet : q x ≡ false → ((b : Bool) × T x b) → Whole xs out → Whole (x ∷ xs) out
      unmet e (true, t) (whole, h, are) =
          (x ∷ whole, kept t h, ap (λ b. cond b (x ∷ filter q whole) (filter q whole)) e ∙ are)
      unmet e (false, t) (whole, h, are) = (whole, dropped t h, are)

      go : (b : Bool) → q x ≡ b → ((o : List A) → Filtered U (filter q xs) o → Whole xs o)
          → Filtered U (cond b (x ∷ filter q xs) (filter q xs)) out → Whole (x ∷ xs) out
      go true e next g = split e next (filtered-cons g)
      go false e next g = unmet e (some x) (next out g)

-- ---- joins

-- What is known of the rows on both sides, and which of them meet the conditions: `pass` is the join's, `pa` and `pb` are its
-- sides'.
module _ (P Q : Frame → Type 0) (padding : Frame) (T U : Frame → Bool → Type 0) (pass pa pb : Frame → Bool) where
  -- a join of the whole sides of which these rows meet the condition
  abbrev Back : JoinKind → List Frame → List Frame → List Frame → Type 0
  Back kind ys xs found = (rows : List Frame) × Joined kind padding T ys xs rows × (filter pass rows ≡ found)

  module _ (split : (x y : Frame) → P x → Q y → pass (x ++ y) ≡ (pa x && pb y)) where
    right-pairs : (x : Frame) → P x → pa x ≡ true → (ys : List Frame) → Each Q ys
        → filter pass (map (λ y. x ++ y) ys) ≡ map (λ y. x ++ y) (filter pb ys)
    right-pairs x h e ys k =
        filter-map pass (λ y. x ++ y) ys
        ∙ ap (map (λ y. x ++ y))
        (filter-same (λ y. pass (x ++ y)) pb ys
        (Each-weaken Q _ (λ y m. split x y h m ∙ ap (λ b. b && pb y) e) ys k))

    no-pairs : (x : Frame) → P x → pa x ≡ false → (ys : List Frame) → Each Q ys
        → Each (λ z. pass z ≡ false) (map (λ y. x ++ y) ys)
    no-pairs x h e [] k = tt
    no-pairs x h e (y ∷ ys) k = (split x y h k.0 ∙ ap (λ b. b && pb y) e, no-pairs x h e ys k.1)

    pub inner-to : ((z : Frame) (b : Bool) → T z b → U z b) → (ys : List Frame) → Each Q ys → {xs rows : List Frame}
        → Each P xs → Joined Inner padding T ys xs rows
        → Joined Inner padding U (filter pb ys) (filter pa xs) (filter pass rows)
    inner-to on ys k h no_rows = no_rows
    inner-to on ys k h (a_row {x = x} {left = left} {pairs = pairs} {rows = rows} f j) =
        subst (λ r. Joined Inner padding U (filter pb ys) (filter pa (x ∷ left)) r) (sym (filter-append pass pairs rows))
        (go (pa x) refl (inner-to on ys k h.1 j))
      where
        go : (b : Bool) → pa x ≡ b → Joined Inner padding U (filter pb ys) (filter pa left) (filter pass rows)
            → Joined Inner padding U (filter pb ys) (cond b (x ∷ filter pa left) (filter pa left))
            (filter pass pairs ++ filter pass rows)
        go true e rest =
            a_row (subst (λ zs. Filtered U zs (filter pass pairs)) (right-pairs x h.0 e ys k)
            (thinned-out T U pass on f)) rest
        go false e rest =
            subst (λ l. Joined Inner padding U (filter pb ys) (filter pa left) (l ++ filter pass rows))
            (sym (filter-none pass pairs (Filtered-each (λ z. pass z ≡ false) f (no-pairs x h.0 e ys k)))) rest

    pub inner-back : ((z : Frame) (b : Bool) → U z b → T z b) → ((z : Frame) → (b : Bool) × T z b) → (ys : List Frame)
        → Each Q ys → (xs kept_rows : List Frame) → Each P xs
        → Joined Inner padding U (filter pb ys) (filter pa xs) kept_rows
        → (rows : List Frame) × Joined Inner padding T ys xs rows × (filter pass rows ≡ kept_rows)
    inner-back on some ys k [] kept_rows h j = ([], no_rows, sym (joined-nil j))
    inner-back on some ys k (x ∷ xs) kept_rows h j = go (pa x) refl (λ r g. inner-back on some ys k xs r h.1 g) j
      where
        met : pa x ≡ true
            → ((r : List Frame) → Joined Inner padding U (filter pb ys) (filter pa xs) r → Back Inner ys xs r)
            → ((pairs rest : List Frame) × Filtered U (map (λ y. x ++ y) (filter pb ys)) pairs
            × Joined Inner padding U (filter pb ys) (filter pa xs) rest × (kept_rows ≡ pairs ++ rest))
            → Back Inner ys (x ∷ xs) kept_rows
        met e next (pairs, rest, f, g, are) =
            let (rows, j', rows_are) = next rest g in
            let (whole, f', whole_is) = filled-in T U pass on some (map (λ y. x ++ y) ys) pairs
            (subst (λ zs. Filtered U zs pairs) (sym (right-pairs x h.0 e ys k)) f) in
            (whole ++ rows, a_row f' j', filter-append pass whole rows ∙ (ap₂ ◌++◌ whole_is rows_are ∙ sym are))

        unmet : pa x ≡ false → Back Inner ys xs kept_rows → Back Inner ys (x ∷ xs) kept_rows
        unmet e (rows, j', rows_are) =
            let (whole, f') = filtered-some T some (map (λ y. x ++ y) ys) in (
              whole ++ rows,
              a_row f' j',
              filter-append pass whole rows
                  ∙ (ap (λ l. l ++ filter pass rows)
                  (filter-none pass whole (Filtered-each (λ z. pass z ≡ false) f' (no-pairs x h.0 e ys k))) ∙ rows_are),
            )

        go : (b : Bool) → pa x ≡ b
            → ((r : List Frame) → Joined Inner padding U (filter pb ys) (filter pa xs) r → Back Inner ys xs r)
            → Joined Inner padding U (filter pb ys) (cond b (x ∷ filter pa xs) (filter pa xs)) kept_rows
            → Back Inner ys (x ∷ xs) kept_rows
        go true e next g = met e next (joined-cons g)
        go false e next g = unmet e (next kept_rows g)

  -- A left outer join whose ON asks for the right side's condition too. What its rows meet is the left side's condition; `pr` is
  -- the right side's at a pair.
  module _ (pr : Frame → Bool) (left : (x y : Frame) → P x → Q y → pass (x ++ y) ≡ pa x)
      (pad : (x : Frame) → P x → pass (x ++ padding) ≡ pa x)
      (right : (x y : Frame) → P x → Q y → pr (x ++ y) ≡ pb y) where
    outer-pairs : (x : Frame) → P x → (ys : List Frame) → Each Q ys
        → filter pr (map (λ y. x ++ y) ys) ≡ map (λ y. x ++ y) (filter pb ys)
    outer-pairs x h ys k =
        filter-map pr (λ y. x ++ y) ys
        ∙ ap (map (λ y. x ++ y)) (filter-same (λ y. pr (x ++ y)) pb ys (Each-weaken Q _ (λ y m. right x y h m) ys k))

    like-left : (x : Frame) → P x → (ys : List Frame) → Each Q ys → Each (λ z. pass z ≡ pa x) (map (λ y. x ++ y) ys)
    like-left x h [] k = tt
    like-left x h (y ∷ ys) k = (left x y h k.0, like-left x h ys k.1)

    padded-like : (x : Frame) → P x → (ps : List Frame) → Each (λ z. pass z ≡ pa x) ps
        → Each (λ z. pass z ≡ pa x) (or_padded LeftOuter padding x ps)
    padded-like x h [] k = (pad x h, tt)
    padded-like x h (p ∷ ps) k = k

    -- the rows of a left row are all kept, or none is
    as-left : (x : Frame) → P x → (ys ps : List Frame) → Each Q ys → Filtered T (map (λ y. x ++ y) ys) ps
        → Each (λ z. pass z ≡ pa x) (or_padded LeftOuter padding x ps)
    as-left x h ys ps k f = padded-like x h ps (Filtered-each (λ z. pass z ≡ pa x) f (like-left x h ys k))

    pub outer-to : ((z : Frame) (b : Bool) → T z b → pr z ≡ true → U z b)
        → ((z : Frame) (b : Bool) → T z b → pr z ≡ false → b ≡ false) → (ys : List Frame) → Each Q ys
        → {xs rows : List Frame} → Each P xs → Joined LeftOuter padding T ys xs rows
        → Joined LeftOuter padding U (filter pb ys) (filter pa xs) (filter pass rows)
    outer-to on off ys k h no_rows = no_rows
    outer-to on off ys k h (a_row {x = x} {left = rest} {pairs = pairs} {rows = rows} f j) =
        subst (λ r. Joined LeftOuter padding U (filter pb ys) (filter pa (x ∷ rest)) r)
        (sym (filter-append pass (or_padded LeftOuter padding x pairs) rows))
        (go (pa x) refl (outer-to on off ys k h.1 j))
      where
        go : (b : Bool) → pa x ≡ b → Joined LeftOuter padding U (filter pb ys) (filter pa rest) (filter pass rows)
            → Joined LeftOuter padding U (filter pb ys) (cond b (x ∷ filter pa rest) (filter pa rest))
            (filter pass (or_padded LeftOuter padding x pairs) ++ filter pass rows)
        go true e next =
            subst (λ l. Joined LeftOuter padding U (filter pb ys) (x ∷ filter pa rest) (l ++ filter pass rows))
            (sym (filter-all pass (or_padded LeftOuter padding x pairs)
            (Each-weaken _ (λ z. pass z ≡ true) (λ z d. d ∙ e) _ (as-left x h.0 ys pairs k f))))
            (a_row (subst (λ zs. Filtered U zs pairs) (outer-pairs x h.0 ys k) (narrowed T U pr on off f)) next)
        go false e next =
            subst (λ l. Joined LeftOuter padding U (filter pb ys) (filter pa rest) (l ++ filter pass rows))
            (sym (filter-none pass (or_padded LeftOuter padding x pairs)
            (Each-weaken _ (λ z. pass z ≡ false) (λ z d. d ∙ e) _ (as-left x h.0 ys pairs k f)))) next

    pub outer-back : ((z : Frame) (b : Bool) → U z b → pr z ≡ true → T z b) → ((z : Frame) → pr z ≡ false → T z false)
        → ((z : Frame) → (b : Bool) × T z b) → (ys : List Frame) → Each Q ys → (xs kept_rows : List Frame) → Each P xs
        → Joined LeftOuter padding U (filter pb ys) (filter pa xs) kept_rows
        → (rows : List Frame) × Joined LeftOuter padding T ys xs rows × (filter pass rows ≡ kept_rows)
    outer-back on off some ys k [] kept_rows h j = ([], no_rows, sym (joined-nil j))
    outer-back on off some ys k (x ∷ xs) kept_rows h j =
        go (pa x) refl (λ r g. outer-back on off some ys k xs r h.1 g) j
      where
        met : pa x ≡ true
            → ((r : List Frame) → Joined LeftOuter padding U (filter pb ys) (filter pa xs) r → Back LeftOuter ys xs r)
            → ((pairs rest : List Frame) × Filtered U (map (λ y. x ++ y) (filter pb ys)) pairs
            × Joined LeftOuter padding U (filter pb ys) (filter pa xs) rest
            × (kept_rows ≡ or_padded LeftOuter padding x pairs ++ rest)) → Back LeftOuter ys (x ∷ xs) kept_rows
        met e next (pairs, rest, f, g, are) =
            let (rows, j', rows_are) = next rest g in
            let f' : Filtered T (map (λ y. x ++ y) ys) pairs =
            widened T U pr on off (map (λ y. x ++ y) ys) pairs
            (subst (λ zs. Filtered U zs pairs) (sym (outer-pairs x h.0 ys k)) f) in (
              or_padded LeftOuter padding x pairs ++ rows,
              a_row f' j',
              filter-append pass (or_padded LeftOuter padding x pairs) rows
                  ∙ (ap₂ ◌++◌
                  (filter-all pass (or_padded LeftOuter padding x pairs)
                  (Each-weaken _ (λ z. pass z ≡ true) (λ z d. d ∙ e) _ (as-left x h.0 ys pairs k f')))
                  rows_are ∙ sym are),
            )

        unmet : pa x ≡ false → Back LeftOuter ys xs kept_rows → Back LeftOuter ys (x ∷ xs) kept_rows
        unmet e (rows, j', rows_are) =
            let (pairs, f') = filtered-some T some (map (λ y. x ++ y) ys) in (
              or_padded LeftOuter padding x pairs ++ rows,
              a_row f' j',
              filter-append pass (or_padded LeftOuter padding x pairs) rows
                  ∙ (ap (λ l. l ++ filter pass rows)
                  (filter-none pass (or_padded LeftOuter padding x pairs)
                  (Each-weaken _ (λ z. pass z ≡ false) (λ z d. d ∙ e) _ (as-left x h.0 ys pairs k f'))) ∙ rows_are),
            )

        go : (b : Bool) → pa x ≡ b
            → ((r : List Frame) → Joined LeftOuter padding U (filter pb ys) (filter pa xs) r → Back LeftOuter ys xs r)
            → Joined LeftOuter padding U (filter pb ys) (cond b (x ∷ filter pa xs) (filter pa xs)) kept_rows
            → Back LeftOuter ys (x ∷ xs) kept_rows
        go true e next g = met e next (joined-cons g)
        go false e next g = unmet e (next kept_rows g)
