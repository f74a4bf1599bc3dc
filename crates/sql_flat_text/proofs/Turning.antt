-- Turns of the loop.
use Rattle.std.proofs.Common.{◌≡◌, ◌<◌, ◌≤◌, ◌-◌, ◌+◌, ◌||◌, nat_le, ℕ, Bool, true, false, List, [], ◌∷◌, ◌++◌, length, drop, get_or, if◌then◌else◌, Option, None, Some, Result, Ok, Err, refl, sym, ap, ◌∙◌, subst, arith, append_assoc}
use Rattle.std.proofs.lemmas.Bool.Decides.{nat_tests}
use Rattle.std.proofs.lemmas.List.{drop-drop, drop_all, drop_more}
use Rattle.sql_dialect.specs.declared.backend.Dialect.{Dialect}
use Rattle.sql_dialect.specs.Written.{MAX_BINDS}
use Rattle.sql_dialect.specs.declared.builder.BindError.{BindError}
use Rattle.sql_pass.specs.Pieces.{Piece, count_of}
use Rattle.sql_flat_law.specs.Telling as loop
use Rattle.sql_flat_law.specs.Telling.{Frame}
use Rattle.sql_flat_law.proofs.Telling.{closes, closes-last, begins-under, begins-alone, reached, jumps}
use Rattle.sql_flat.specs.Flat.{flat_node}
use Rattle.sql_flat.specs.declared.kind.FlatKind.{FlatKind}
use Rattle.sql_flat.specs.declared.kind.FlatNode.{FlatNode}
use Rattle.sql_flat_text.proofs.Pouring.{poured-append, poured-none, overflows-left}
use Rattle.sql_flat_text.specs.inside.Sinks.{Sunk, poured, Fits, Overflows, Poured, Pours, pours, poured_by}
use Rattle.sql_flat_text.specs.inside.Turns.{Frames, closed_first, closing, end_of, has_ended, leading, led_first, onward, opened, opened_first, opened_index, opening, outer, parting, reads, told_after, told_from, with_child}
use Rattle.sql_flat_text.specs.inside.Writing.{after, before, between, comma, is_list}
use Rattle.sql_flat_text.specs.Steps.{kind_of}

module _ (d : Dialect) where
  -- ---- the innermost node is closed

  closed : (f : Frame FlatKind) (l : Bool) (rest : Bool → List Piece) (b : Bool)
      → loop.closing kind_of end_of (reads d) is_list (before d) (between d) (after d) comma l f.kind rest b
      ≡ (if l then [] else after d f.kind) ++ rest (if l then b else false)
  closed f true rest b = refl
  closed f false rest b = refl

  pub closes-is : (fs : Frames) (first : Bool) (i : ℕ) (nodes : List FlatNode) → has_ended i (length nodes) fs ≡ true
      → told_from d fs first i (drop i nodes)
      ≡ closing d fs ++ told_from d (outer fs) (closed_first fs first) i (drop i nodes)
  closes-is [] first i nodes h = cc
  closes-is (f ∷ fs) first i nodes h =
      by_test (nat_le f.end i) refl ∙ closed f (is_list f.kind) (λ c. told_from d fs c i (drop i nodes)) first
    where
      by_test : (a : Bool) → nat_le f.end i ≡ a
          → told_from d (f ∷ fs) first i (drop i nodes)
          ≡ loop.closing kind_of end_of (reads d) is_list (before d) (between d) (after d) comma
          (is_list f.kind) f.kind (λ c. told_from d fs c i (drop i nodes)) first
      by_test true q =
          let l : f.end ≤ i = grind (arith, nat_tests) in
          closes flat_node kind_of end_of (reads d) is_list (before d) (between d) (after d) comma f fs first i
          (drop i nodes) l
      by_test false q =
          let e : nat_le (length nodes) i ≡ true = sym (ap (λ x. x || nat_le (length nodes) i) q) ∙ h in
          let l : length nodes ≤ i = grind (arith, nat_tests) in
          rw (drop_all i nodes l)
          (closes-last flat_node kind_of end_of (reads d) is_list (before d) (between d) (after d) comma f fs first i)

  -- ---- a node is begun

  abbrev opening_by : Option (List Piece) → Bool → FlatKind → Bool → List Piece
  opening_by (Some ps) l k first = parting first ++ ps
  opening_by None true k first = []
  opening_by None false k first = parting first ++ before d k

  abbrev first_by : Option (List Piece) → Bool → Bool → Bool
  first_by (Some ps) l first = false
  first_by None true first = first
  first_by None false first = true

  abbrev until : Option (List Piece) → FlatNode → ℕ
  until (Some ps) x = x.end
  until None x = 0

  part-is : (c : Bool) → loop.part kind_of end_of (reads d) is_list (before d) (between d) (after d) comma c ≡ parting c
  part-is true = refl
  part-is false = refl

  leads-is : (fs : Frames) → loop.leads kind_of end_of (reads d) is_list (before d) (between d) (after d) comma fs
      ≡ leading d fs
  leads-is [] = refl
  leads-is (f ∷ fs) = refl

  firsts-is : (fs : Frames) (b : Bool)
      → loop.firsts kind_of end_of (reads d) is_list (before d) (between d) (after d) comma fs b ≡ led_first fs b
  firsts-is [] b = refl
  firsts-is (f ∷ fs) b = refl

  counted-is : (fs : Frames) → loop.counted kind_of end_of (reads d) is_list (before d) (between d) (after d) comma fs
      ≡ with_child fs
  counted-is [] = refl
  counted-is (f ∷ fs) = ap (λ n. record { kind = f.kind; begun = n; end = f.end } ∷ fs) (omega arith)

  begun-by : (o : Option (List Piece)) (l : Bool) (k : FlatKind) (e : ℕ) (behind : ℕ → Frames → Bool → List Piece)
      (fs : Frames) (b : Bool)
      → loop.begin kind_of end_of (reads d) is_list (before d) (between d) (after d) comma o l k e behind fs b
      ≡ leading d fs
      ++ (opening_by o l k (led_first fs b)
      ++ behind (until o (flat_node k e)) (opened o (flat_node k e) (with_child fs)) (first_by o l (led_first fs b)))
  begun-by (Some ps) l k e behind fs b =
      rw (
        part-is (loop.firsts kind_of end_of (reads d) is_list (before d) (between d)
            (after d) comma fs b),
        leads-is fs,
        firsts-is fs b,
        counted-is fs,
      ) refl
  begun-by None true k e behind fs b = rw (leads-is fs, firsts-is fs b, counted-is fs) refl
  begun-by None false k e behind fs b =
      rw (
        part-is (loop.firsts kind_of end_of (reads d) is_list (before d) (between d)
            (after d) comma fs b),
        leads-is fs,
        firsts-is fs b,
        counted-is fs,
      ) refl

  opening-is : (o : Option (List Piece)) (k : FlatKind) (first : Bool) → opening_by o (is_list k) k first
      ≡ opening d o k first
  opening-is (Some ps) k first = refl
  opening-is None k first = by_test (is_list k)
    where
      by_test : (l : Bool) → opening_by None l k first ≡ (if l then [] else (parting first ++ before d k))
      by_test true = refl
      by_test false = refl

  first-is : (o : Option (List Piece)) (k : FlatKind) (first : Bool) → first_by o (is_list k) first
      ≡ opened_first o k first
  first-is (Some ps) k first = refl
  first-is None k first = by_test (is_list k)
    where
      by_test : (l : Bool) → first_by None l first ≡ (if l then first else true)
      by_test true = refl
      by_test false = refl

  begun : (o : Option (List Piece)) (x : FlatNode) (behind : ℕ → Frames → Bool → List Piece) (fs : Frames) (b : Bool)
      → loop.begin kind_of end_of (reads d) is_list (before d) (between d) (after d) comma o
      (is_list x.kind) x.kind x.end behind fs b
      ≡ (leading d fs ++ opening d o x.kind (led_first fs b))
      ++ behind (until o x) (opened o x (with_child fs)) (opened_first o x.kind (led_first fs b))
  begun o x behind fs b =
      begun-by o (is_list x.kind) x.kind x.end behind fs b
      ∙ (λ i. leading d fs
      ++ (opening-is o x.kind (led_first fs b) i ++ behind (until o x) (opened o x (with_child fs))
      (first-is o x.kind (led_first fs b) i)))
      ∙ sym (append_assoc (leading d fs) (opening d o x.kind (led_first fs b))
      (behind (until o x) (opened o x (with_child fs)) (opened_first o x.kind (led_first fs b))))

  -- what is begun goes on at the next index
  passed-on : (u : ℕ) (fs : Frames) (c : Bool) (i : ℕ) (nodes : List FlatNode) → i < length nodes
      → told_after d u fs c (i + 1) (drop (i + 1) nodes)
      ≡ told_from d fs c (onward i u (length nodes)) (drop (onward i u (length nodes)) nodes)
  passed-on u fs c i nodes h = by_test (nat_le u i) (nat_le u (length nodes)) refl refl
    where
      by_test : (a b : Bool) → nat_le u i ≡ a → nat_le u (length nodes) ≡ b
          → told_after d u fs c (i + 1) (drop (i + 1) nodes)
          ≡ told_from d fs c (if a then i + 1 else (if b then u else length nodes))
          (drop (if a then i + 1 else (if b then u else length nodes)) nodes)
      by_test true b p q =
          reached flat_node kind_of end_of (reads d) is_list (before d) (between d) (after d) comma u 0 fs c (i + 1)
          (drop (i + 1) nodes)
          (grind (arith, nat_tests)) (omega arith)
      by_test false true p q =
          let l : i < u = grind (arith, nat_tests) in
          jumps flat_node kind_of end_of (reads d) is_list (before d) (between d) (after d) comma (u - (i + 1)) u fs c
          (i + 1) (drop (i + 1) nodes) (omega arith)
          ∙ ap (told_from d fs c u) (drop-drop (u - (i + 1)) (i + 1) nodes ∙ ap (λ m. drop m nodes) (omega arith))
      by_test false false p q =
          let l : length nodes < u = grind (arith, nat_tests) in
          jumps flat_node kind_of end_of (reads d) is_list (before d) (between d) (after d) comma (u - (i + 1)) u fs c
          (i + 1) (drop (i + 1) nodes) (omega arith)
          ∙ (λ j. told_from d fs c u
          ((drop-drop (u - (i + 1)) (i + 1) nodes ∙ drop_all (i + 1 + (u - (i + 1))) nodes (omega arith)) j))
          ∙ (λ j. told_from d fs c (length nodes) (sym (drop_all (length nodes) nodes (omega arith)) j))

  goes-on : (o : Option (List Piece)) (x : FlatNode) (fs : Frames) (c : Bool) (i : ℕ) (nodes : List FlatNode)
      → i < length nodes
      → told_after d (until o x) fs c (i + 1) (drop (i + 1) nodes)
      ≡ told_from d fs c (opened_index o x i (length nodes)) (drop (opened_index o x i (length nodes)) nodes)
  goes-on (Some ps) x fs c i nodes h = passed-on x.end fs c i nodes h
  goes-on None x fs c i nodes h = refl

  pub opened-within : (o : Option (List Piece)) (x : FlatNode) (i n : ℕ) → i < n → opened_index o x i n ≤ n
  opened-within None x i n h = omega arith
  opened-within (Some ps) x i n h = by_test (nat_le x.end i) (nat_le x.end n) refl
    where
      by_test : (a b : Bool) → nat_le x.end n ≡ b → (if a then i + 1 else (if b then x.end else n)) ≤ n
      by_test true b q = omega arith
      by_test false true q = grind (arith, nat_tests)
      by_test false false q = omega arith

  pub opened-later : (o : Option (List Piece)) (x : FlatNode) (i n : ℕ) → i < n → i < opened_index o x i n
  opened-later None x i n h = omega arith
  opened-later (Some ps) x i n h = by_test (nat_le x.end i) (nat_le x.end n) refl
    where
      by_test : (a b : Bool) → nat_le x.end i ≡ a → i < (if a then i + 1 else (if b then x.end else n))
      by_test true b q = omega arith
      by_test false true q = grind (arith, nat_tests)
      by_test false false q = omega arith

  pub begins-is : (fs : Frames) (first : Bool) (i : ℕ) (nodes : List FlatNode) (x : FlatNode) (o : Option (List Piece))
      → has_ended i (length nodes) fs ≡ false → i < length nodes → x ≡ get_or nodes i x
      → o ≡ reads d i x (drop (i + 1) nodes)
      → told_from d fs first i (drop i nodes)
      ≡ (leading d fs ++ opening d o x.kind (led_first fs first))
      ++ told_from d (opened o x (with_child fs)) (opened_first o x.kind (led_first fs first))
      (opened_index o x i (length nodes))
      (drop (opened_index o x i (length nodes)) nodes)
  begins-is fs first i nodes x o under_way within at is =
      let seen : drop i nodes ≡ x ∷ drop (i + 1) nodes =
      drop_more nodes i x within ∙ ap (λ y. y ∷ drop (i + 1) nodes) (sym at) in
      ap (told_from d fs first i) seen ∙ under fs under_way
      ∙ ap (λ w. loop.begin kind_of end_of (reads d) is_list (before d) (between d) (after d) comma w
      (is_list x.kind) x.kind x.end behind fs first) (sym is)
      ∙ begun o x behind fs first
      ∙ ap (λ l. (leading d fs ++ opening d o x.kind (led_first fs first)) ++ l)
      (goes-on o x (opened o x (with_child fs)) (opened_first o x.kind (led_first fs first)) i nodes within)
    where
      behind : ℕ → Frames → Bool → List Piece
      behind w gs c = told_after d w gs c (i + 1) (drop (i + 1) nodes)

      under : (gs : Frames) → has_ended i (length nodes) gs ≡ false
          → told_from d gs first i (x ∷ drop (i + 1) nodes)
          ≡ loop.begin kind_of end_of (reads d) is_list (before d) (between d) (after d) comma
          (reads d i x (drop (i + 1) nodes)) (is_list x.kind) x.kind x.end behind gs first
      under [] h =
          begins-alone flat_node kind_of end_of (reads d) is_list (before d) (between d) (after d) comma first i x
          (drop (i + 1) nodes)
      under (f ∷ gs) h =
          begins-under flat_node kind_of end_of (reads d) is_list (before d) (between d) (after d) comma f gs first i x
          (drop (i + 1) nodes)
          (later (nat_le f.end i) refl)
        where
          later : (a : Bool) → nat_le f.end i ≡ a → i < f.end
          later true q = let e = sym (ap (λ y. y || nat_le (length nodes) i) q) ∙ h in cc
          later false q = grind (arith, nat_tests)

-- ---- what was written so far

pub pours-fits : {d : Dialect} {s t : Sunk} {ps : List Piece} → Pours d s ps (Ok tt) t → Fits d s.count → Fits d t.count
unfolding Poured
pours-fits w = (poured_by w).1

-- a turn writes the first pieces of those that are left
pub turned : (d : Dialect) (s t end : Sunk) (all ps rest : List Piece) → poured d s all ≡ end → all ≡ ps ++ rest
    → Pours d s ps (Ok tt) t → poured d t rest ≡ end
unfolding Poured
turned d s t end all ps rest h is w =
    ap (λ x. poured d x rest) (poured_by w).0 ∙ poured-append d s ps rest ∙ ap (poured d s) (sym is) ∙ h

count-is : (d : Dialect) (s : Sunk) (ps : List Piece) → (poured d s ps).count ≡ count_of d s.count ps
unfolding poured
count-is d s ps = refl

-- where they are refused, all are
pub refused : (d : Dialect) (s t start u : Sunk) (all ps rest whole : List Piece) (e : BindError)
    (r : Result (Unit {0}) BindError)
    → poured d s all ≡ poured d start whole → all ≡ ps ++ rest → Pours d s ps (Err e) t → r ≡ Err e
    → Pours d start whole r u
unfolding Poured Overflows
refused d s t start u all ps rest whole e r h is w err =
    subst (λ x. Pours d start whole x u) (sym err)
    (pours (λ many.
    let more = overflows-left d s.count ps rest (poured_by w many) in (
      more.0,
      subst (λ n. MAX_BINDS < n) (ap (count_of d s.count) (sym is) ∙ sym (count-is d s all)
          ∙ ap (λ x. x.count) h ∙ count-is d start whole) more.1,
    )))

-- nothing is left
pub ended : (d : Dialect) (s start : Sunk) (first : Bool) (i : ℕ) (nodes : List FlatNode) (fs : Frames)
    (whole : List Piece)
    → poured d s (told_from d fs first i (drop i nodes)) ≡ poured d start whole → fs ≡ [] → length nodes ≤ i
    → (Fits d start.count → Fits d s.count) → Pours d start whole (Ok tt) s
unfolding Poured
ended d s start first i nodes fs whole h none over fits =
    pours (
      sym (poured-none d s)
          ∙ ap (poured d s) (sym (λ j. told_from d (none j) first i (drop_all i nodes over j))) ∙ h,
      fits,
    )
