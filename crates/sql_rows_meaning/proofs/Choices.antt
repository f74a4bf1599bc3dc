-- Where a relation has some outcome for each element, it has one for a list; and outcomes in another order are those of the
-- elements in another order.
use Rattle.std.proofs.Common.{◌≡◌, Bool, true, false, List, [], ◌∷◌, ◌++◌, map, refl, sym, ap, subst, IsPermutation}
use Rattle.std.specs.List.{AllZip}
use Rattle.std.proofs.lemmas.List.Sorted.{IsPermutation-refl, IsPermutation-trans, IsPermutation-cons, IsPermutation-map, IsPermutation-append_left}
use Rattle.sql_leaf.specs.declared.table_source.JoinKind.{JoinKind}
use Rattle.sql_rules.specs.Lists.{Each}
use Rattle.sql_rows_meaning.specs.Answers.{or_padded, Joined, no_rows, a_row}
use Rattle.sql_rows_meaning.specs.Frames.{Frame}
use Rattle.sql_rows_meaning.specs.Rows.{Filtered, none, kept, dropped}
use Rattle.sql_rows_meaning.proofs.Lists.{Each-permutation}
use Rattle.sql_rows_meaning.proofs.Permutations.{to_front}
use Rattle.sql_rows_meaning.proofs.Sorting.{lifted}

pub filtered-some : {A : Type 0} (Test : A → Bool → Type 0) → ((x : A) → (t : Bool) × Test x t) → (xs : List A)
    → (out : List A) × Filtered Test xs out
filtered-some Test test [] = ([], none)
filtered-some {A} Test test (x ∷ xs) = go (test x) (filtered-some Test test xs)
  where
    go : ((t : Bool) × Test x t) → ((out : List A) × Filtered Test xs out) → (out : List A) × Filtered Test (x ∷ xs) out
    go (true, t) (out, f) = (x ∷ out, kept t f)
    go (false, t) (out, f) = (out, dropped t f)

pub joined-some : (kind : JoinKind) (padding : Frame) (On : Frame → Bool → Type 0)
    → ((row : Frame) → (t : Bool) × On row t) → (ys xs : List Frame)
    → (rows : List Frame) × Joined kind padding On ys xs rows
joined-some kind padding On on ys [] = ([], no_rows)
joined-some kind padding On on ys (x ∷ xs) =
    let (pairs, f) = filtered-some On on (map (λ y. x ++ y) ys) in
    let (rows, j) = joined-some kind padding On on ys xs in
    (or_padded kind padding x pairs ++ rows, a_row f j)

pub zip-some : {A B : Type 0} (R : A → B → Type 0) → ((a : A) → (b : B) × R a b) → (xs : List A)
    → (ys : List B) × AllZip R xs ys
zip-some R f [] = ([], tt)
zip-some R f (x ∷ xs) =
    let (y, r) = f x in
    let (ys, z) = zip-some R f xs in
    (y ∷ ys, (r, z))

-- ---- in another order

abbrev Pairs : {A B : Type 0} → (A → B → Type 0) → List A → List B → Type 0
Pairs {A} {B} R xs ys =
    (ps : List (A × B)) × (map (λ p. p.0) ps ≡ xs) × (map (λ p. p.1) ps ≡ ys) × Each (λ p. R p.0 p.1) ps

pairs-of : {A B : Type 0} (R : A → B → Type 0) (xs : List A) (ys : List B) → AllZip R xs ys → Pairs R xs ys
pairs-of R [] [] h = ([], refl, refl, tt)
pairs-of R [] (y ∷ ys) h = absurd h
pairs-of R (x ∷ xs) [] h = absurd h
pairs-of R (x ∷ xs) (y ∷ ys) h =
    let (ps, left, right, each) = pairs-of R xs ys h.1 in
    ((x, y) ∷ ps, ap (λ l. x ∷ l) left, ap (λ l. y ∷ l) right, (h.0, each))

of-pairs : {A B : Type 0} (R : A → B → Type 0) (ps : List (A × B)) → Each (λ p. R p.0 p.1) ps
    → AllZip R (map (λ p. p.0) ps) (map (λ p. p.1) ps)
of-pairs R [] h = tt
of-pairs R (p ∷ ps) h = (h.0, of-pairs R ps h.1)

pub zip-permuted : {A B : Type 0} (R : A → B → Type 0) (xs : List A) (ys ys' : List B) → AllZip R xs ys
    → IsPermutation ys ys' → (xs' : List A) × IsPermutation xs xs' × AllZip R xs' ys'
zip-permuted R xs ys ys' h p =
    let (ps, left, right, each) = pairs-of R xs ys h in
    let (qs, moved, are) = lifted (λ q. q.1) ps ys' (subst (λ l. IsPermutation l ys') (sym right) p) in (
      map (λ q. q.0) qs,
      subst (λ l. IsPermutation l (map (λ q. q.0) qs)) left (IsPermutation-map (λ q. q.0) ps qs moved),
      subst (λ l. AllZip R (map (λ q. q.0) qs) l) are
          (of-pairs R qs (Each-permutation (λ q. R q.0 q.1) ps qs moved each)),
    )

-- those that are kept, and the others after them
abbrev Sorted-out : {A : Type 0} → (A → Bool → Type 0) → List A → List A → Type 0
Sorted-out {A} Test xs out =
    (rest : List A) × IsPermutation xs (out ++ rest) × Each (λ x. Test x true) out × Each (λ x. Test x false) rest

sorted-out : {A : Type 0} (Test : A → Bool → Type 0) {xs out : List A} → Filtered Test xs out → Sorted-out Test xs out
sorted-out Test none = ([], IsPermutation-refl [], tt, tt)
sorted-out Test (kept {x = x} {xs = xs} {out = out} t f) =
    let (rest, p, hold, fail) = sorted-out Test f in
    (rest, IsPermutation-cons x xs (out ++ rest) p, (t, hold), fail)
sorted-out Test (dropped {x = x} {xs = xs} {out = out} t f) =
    let (rest, p, hold, fail) = sorted-out Test f in (
      x ∷ rest,
      IsPermutation-trans (x ∷ xs) (x ∷ (out ++ rest)) (out ++ (x ∷ rest))
          (IsPermutation-cons x xs (out ++ rest) p) (to_front (x ∷ []) out rest),
      hold,
      (t, fail),
    )

none-kept : {A : Type 0} (Test : A → Bool → Type 0) (rest : List A) → Each (λ x. Test x false) rest
    → Filtered Test rest []
none-kept Test [] h = none
none-kept Test (x ∷ rest) h = dropped h.0 (none-kept Test rest h.1)

kept-first : {A : Type 0} (Test : A → Bool → Type 0) (out rest : List A) → Each (λ x. Test x true) out
    → Each (λ x. Test x false) rest → Filtered Test (out ++ rest) out
kept-first Test [] rest h k = none-kept Test rest k
kept-first Test (x ∷ out) rest h k = kept h.0 (kept-first Test out rest h.1 k)

pub filtered-permuted : {A : Type 0} (Test : A → Bool → Type 0) (xs out out' : List A) → Filtered Test xs out
    → IsPermutation out out' → (xs' : List A) × IsPermutation xs xs' × Filtered Test xs' out'
filtered-permuted Test xs out out' f p =
    let (rest, q, hold, fail) = sorted-out Test f in (
      out' ++ rest,
      IsPermutation-trans xs (out ++ rest) (out' ++ rest) q (IsPermutation-append_left rest out out' p),
      kept-first Test out' rest (Each-permutation (λ x. Test x true) out out' p hold) fail,
    )
