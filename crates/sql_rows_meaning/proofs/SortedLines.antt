-- Lines in an order in which those that ORDER BY is asked of are sorted.
use Rattle.std.proofs.Common.{◌≡◌, Bool, true, false, List, [], ◌∷◌, ◌++◌, refl, sym, ap, ◌∙◌, IsPermutation, if◌then◌else◌}
use Rattle.std.proofs.lemmas.Bool.{false≢true}
use Rattle.std.proofs.lemmas.List.Sorted.{IsPermutation-refl, IsPermutation-trans, IsPermutation-append_left}
use Rattle.sql_node.specs.Tree.{Distinct, every, distinct, distinct_on}
use Rattle.sql_rows_meaning.specs.Answers.{Line, is_keyed, first_of_each, ordered_by}
use Rattle.sql_rows_meaning.specs.Rows.{Row, same_row}
use Rattle.sql_rows_meaning.specs.Worked.{AreApart, IsOneOfEach}
use Rattle.sql_rows_meaning.proofs.Counts.{exact-row, same_row-itself}
use Rattle.sql_rows_meaning.proofs.Lists.{Each-weaken}
use Rattle.sql_rows_meaning.proofs.OneOfEach.{first-any}
use Rattle.sql_rows_meaning.proofs.Sorting.{insert, sorted, permutation-sorted}

not_same : (v w : Row) → same_row v w ≡ false → same_row w v ≡ false
not_same v w h = go (same_row w v) refl
  where
    go : (b : Bool) → same_row w v ≡ b → b ≡ false
    go true e =
        absurd (false≢true (sym h ∙ (ap (λ z. same_row v z) (exact-row w v e) ∙ same_row-itself v)))
    go false e = refl

module _ (key : Line → Row) (before : Line → Line → Bool) where
  keyed-insert : (row : Row) (x : Line) (ys : List Line)
      → is_keyed key row (insert before x ys) ≡ is_keyed key row (x ∷ ys)
  keyed-insert row x [] = refl
  keyed-insert row x (y ∷ ys) = go (before y x) (keyed-insert row x ys)
    where
      exchanged : (a b c : Bool)
          → (if a then true else (if b then true else c)) ≡ (if b then true else (if a then true else c))
      exchanged true true c = refl
      exchanged true false c = refl
      exchanged false b c = refl

      go : (b : Bool) → is_keyed key row (insert before x ys) ≡ is_keyed key row (x ∷ ys)
          → is_keyed key row (if b then y ∷ insert before x ys else x ∷ (y ∷ ys)) ≡ is_keyed key row (x ∷ (y ∷ ys))
      go true e =
          ap (λ c. if same_row row (key y) then true else c) e
          ∙ exchanged (same_row row (key y)) (same_row row (key x)) (is_keyed key row ys)
      go false e = refl

  keyed-sorted : (row : Row) (xs : List Line) → is_keyed key row (sorted before xs) ≡ is_keyed key row xs
  keyed-sorted row [] = refl
  keyed-sorted row (x ∷ xs) =
      keyed-insert row x (sorted before xs) ∙ ap (λ c. if same_row row (key x) then true else c) (keyed-sorted row xs)

  apart-insert : (x : Line) (ys : List Line) → is_keyed key (key x) ys ≡ false → AreApart key ys
      → AreApart key (insert before x ys)
  apart-insert x [] n h = (refl, tt)
  apart-insert x (y ∷ ys) n h = go (before y x) (apart-insert x ys)
    where
      first_no : (a c : Bool) → (if a then true else c) ≡ false → a ≡ false
      first_no true c e = e
      first_no false c e = refl

      then_no : (a c : Bool) → (if a then true else c) ≡ false → c ≡ false
      then_no true c e = absurd (false≢true (sym e))
      then_no false c e = e

      beside : is_keyed key (key y) (insert before x ys) ≡ false
      beside =
          keyed-insert (key y) x ys
          ∙ (ap (λ a. if a then true else is_keyed key (key y) ys)
          (not_same (key x) (key y) (first_no (same_row (key x) (key y)) (is_keyed key (key x) ys) n)) ∙ h.0)

      go : (b : Bool) → (is_keyed key (key x) ys ≡ false → AreApart key ys → AreApart key (insert before x ys))
          → AreApart key (if b then y ∷ insert before x ys else x ∷ (y ∷ ys))
      go true r = (beside, r (then_no (same_row (key x) (key y)) (is_keyed key (key x) ys) n) h.1)
      go false r = (n, h)

  apart-sorted : (xs : List Line) → AreApart key xs → AreApart key (sorted before xs)
  apart-sorted [] h = tt
  apart-sorted (x ∷ xs) h =
      apart-insert x (sorted before xs) (keyed-sorted (key x) xs ∙ h.0) (apart-sorted xs h.1)

  one-sorted : (lines chosen : List Line) → IsOneOfEach key lines chosen → IsOneOfEach key lines (sorted before chosen)
  one-sorted lines chosen h = record {
    rest = h.rest;
    order =
        IsPermutation-trans lines (chosen ++ h.rest) (sorted before chosen ++ h.rest) h.order
        (IsPermutation-append_left h.rest chosen (sorted before chosen) (permutation-sorted before chosen));
    apart = apart-sorted chosen h.apart;
    covered = Each-weaken _ _ (λ line c. keyed-sorted (key line) chosen ∙ c) h.rest h.covered;
  }

  -- lines in an order in which the first of each key are sorted
  one-each : (lines : List Line) → (shuffled chosen : List Line) × IsPermutation lines shuffled
      × (first_of_each key [] shuffled ≡ sorted before chosen)
  one-each lines =
      let chosen = first_of_each key [] lines in
      let given : IsOneOfEach key lines chosen = (first-any key lines chosen).1 (lines, IsPermutation-refl lines, refl) in
      let found = (first-any key lines (sorted before chosen)).0 (one-sorted lines chosen given) in
      (found.0, chosen, found.1, found.2)

-- what is to be in order is some list, sorted
pub ordered-sorted : (u : Distinct) (before : Line → Line → Bool) (lines : List Line)
    → (shuffled chosen : List Line) × IsPermutation lines shuffled × (ordered_by u shuffled ≡ sorted before chosen)
ordered-sorted every before lines = (sorted before lines, lines, permutation-sorted before lines, refl)
ordered-sorted distinct before lines = one-each (λ line. line.shown) before lines
ordered-sorted (distinct_on e) before lines = (sorted before lines, lines, permutation-sorted before lines, refl)
