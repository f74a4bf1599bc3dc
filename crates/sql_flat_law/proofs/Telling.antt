-- The loop from the first node to the last that writes, with a stack of the nodes that are open.
use Rattle.std.proofs.Common.{drop, zero, ◌≡◌, ℕ, suc, ◌+◌, ◌<◌, ◌≤◌, true, false, Bool, List, [], ◌∷◌, ◌++◌, Option, None, Some, refl, sym, ap, ◌∙◌, arith, append_assoc, append-nil}
use Rattle.std.proofs.lemmas.Bool.{lt-ltb, le-ltb}
use Rattle.sql_flat_law.specs.Rose.{Rose, node, Roses, none, more, size, sizes, flat, flats}
use Rattle.sql_flat_law.specs.Telling as loop
use Rattle.sql_flat_law.specs.Telling.{Frame}
use Rattle.sql_flat_law.specs.Told.{still_by, told_by, still, stills, told, told_elements, told_kids}

module _ {K N A : Type 0} (make : K → ℕ → N) (kind : N → K) (end : N → ℕ) (reads : ℕ → N → List N → Option (List A)) (is_list : K → Bool) (before : K → List A) (between : K → ℕ → List A) (after : K → List A) (comma : List A) where
  abbrev Frames : Type 0
  Frames = loop.Frames kind end reads is_list before between after comma

  abbrev part : Bool → List A
  part = loop.part kind end reads is_list before between after comma

  abbrev leads : Frames → List A
  leads = loop.leads kind end reads is_list before between after comma

  abbrev firsts : Frames → Bool → Bool
  firsts = loop.firsts kind end reads is_list before between after comma

  abbrev counted : Frames → Frames
  counted = loop.counted kind end reads is_list before between after comma

  abbrev closing : Bool → K → (Bool → List A) → Bool → List A
  closing = loop.closing kind end reads is_list before between after comma

  abbrev ends : ℕ → (Frames → Bool → List A) → Frames → Bool → List A
  ends = loop.ends kind end reads is_list before between after comma

  abbrev last : Frames → Bool → List A
  last = loop.last kind end reads is_list before between after comma

  abbrev begin : Option (List A) → Bool → K → ℕ → (ℕ → Frames → Bool → List A) → Frames → Bool → List A
  begin = loop.begin kind end reads is_list before between after comma

  abbrev tell : ℕ → Frames → Bool → ℕ → List N → List A
  tell = loop.tell kind end reads is_list before between after comma

  -- ---- what does not matter

  here : (u : ℕ) (fs : Frames) (b : Bool) (i : ℕ) (x : N) (xs : List N) → u ≤ i
      → tell u fs b i (x ∷ xs)
      ≡ ends i (begin (reads i x xs) (is_list (kind x)) (kind x) (end x) (λ w gs c. tell w gs c (i + 1) xs)) fs b
  here u fs b i x xs h = rw (le-ltb i u h) refl

  pub reached : (u w : ℕ) (fs : Frames) (b : Bool) (i : ℕ) (xs : List N) → u ≤ i → w ≤ i
      → tell u fs b i xs ≡ tell w fs b i xs
  reached u w fs b i [] h g = refl
  reached u w fs b i (x ∷ xs) h g = here u fs b i x xs h ∙ sym (here w fs b i x xs g)

  -- a node that is no list begins its children anew
  anew : (f : Frame K) (fs : Frames) (b c : Bool) (i : ℕ) (xs : List N) → is_list f.kind ≡ false
      → tell 0 (f ∷ fs) b i xs ≡ tell 0 (f ∷ fs) c i xs
  anew f fs b c i [] h = rw h refl
  anew f fs b c i (x ∷ xs) h =
      here 0 (f ∷ fs) b i x xs (omega arith)
      ∙ same (reads i x xs) (is_list (kind x))
      ∙ sym (here 0 (f ∷ fs) c i x xs (omega arith))
    where
      same : (o : Option (List A)) (l : Bool)
          → ends i (begin o l (kind x) (end x) (λ w gs c. tell w gs c (i + 1) xs)) (f ∷ fs) b
          ≡ ends i (begin o l (kind x) (end x) (λ w gs c. tell w gs c (i + 1) xs)) (f ∷ fs) c
      same (Some ps) l = rw h refl
      same None true = rw h refl
      same None false = rw h refl

  -- the innermost node ends here
  left : (k : K) (j e : ℕ) (fs : Frames) (b : Bool) (xs : List N)
      → tell 0 (record { kind = k; begun = j; end = e } ∷ fs) b e xs
      ≡ closing (is_list k) k (λ c. tell 0 fs c e xs) b
  left k j e fs b [] = refl
  left k j e fs b (x ∷ xs) =
      here 0 (record { kind = k; begun = j; end = e } ∷ fs) b e x xs (omega arith)
      ∙ rw (le-ltb e e (omega arith))
      (ap (λ g. closing (is_list k) k g b) (λ i c. sym (here 0 fs c e x xs (omega arith)) i))

  -- ---- turns of the loop

  -- the innermost node has ended
  pub closes : (f : Frame K) (fs : Frames) (b : Bool) (i : ℕ) (xs : List N) → f.end ≤ i
      → tell 0 (f ∷ fs) b i xs ≡ closing (is_list f.kind) f.kind (λ c. tell 0 fs c i xs) b
  closes f fs b i [] h = refl
  closes f fs b i (x ∷ xs) h =
      here 0 (f ∷ fs) b i x xs (omega arith)
      ∙ rw (le-ltb i f.end h)
      (ap (λ g. closing (is_list f.kind) f.kind g b) (λ j c. sym (here 0 fs c i x xs (omega arith)) j))

  -- behind the last node all that are open end
  pub closes-last : (f : Frame K) (fs : Frames) (b : Bool) (i : ℕ)
      → tell 0 (f ∷ fs) b i [] ≡ closing (is_list f.kind) f.kind (λ c. tell 0 fs c i []) b
  closes-last f fs b i = refl

  -- a node begins under one that is open
  pub begins-under : (f : Frame K) (fs : Frames) (b : Bool) (i : ℕ) (x : N) (xs : List N) → i < f.end
      → tell 0 (f ∷ fs) b i (x ∷ xs)
      ≡ begin (reads i x xs) (is_list (kind x)) (kind x) (end x) (λ w gs c. tell w gs c (i + 1) xs) (f ∷ fs) b
  begins-under f fs b i x xs h = here 0 (f ∷ fs) b i x xs (omega arith) ∙ rw (lt-ltb i f.end h) refl

  -- or where none is
  pub begins-alone : (b : Bool) (i : ℕ) (x : N) (xs : List N)
      → tell 0 [] b i (x ∷ xs)
      ≡ begin (reads i x xs) (is_list (kind x)) (kind x) (end x) (λ w gs c. tell w gs c (i + 1) xs) [] b
  begins-alone b i x xs = here 0 [] b i x xs (omega arith)

  -- nothing is written before the index u, which lies k further on
  pub jumps : (k u : ℕ) (fs : Frames) (b : Bool) (i : ℕ) (xs : List N) → i + k ≡ u
      → tell u fs b i xs ≡ tell 0 fs b u (drop k xs)
  jumps zero u fs b i xs h = ap (λ j. tell u fs b j xs) (omega arith) ∙ reached u 0 fs b u xs (omega arith) (omega arith)
  jumps (suc k) u fs b i [] h = refl
  jumps (suc k) u fs b i (x ∷ xs) h = rw (lt-ltb i u (omega arith)) (jumps k u fs b (i + 1) xs (omega arith))

  -- ---- all open nodes end at e or later
  abbrev Covers : ℕ → Frames → Type 0
  Covers e [] = Unit {0}
  Covers e (f ∷ fs) = e ≤ f.end × Covers e fs

  covers-ends : (e i : ℕ) (fs : Frames) (b : Bool) (behind : Frames → Bool → List A) → Covers e fs → i < e
      → ends i behind fs b ≡ behind fs b
  covers-ends e i [] b behind c h = refl
  covers-ends e i (f ∷ fs) b behind c h = rw (lt-ltb i f.end (omega arith)) refl

  covers-less : (e d : ℕ) (fs : Frames) → Covers e fs → d ≤ e → Covers d fs
  covers-less e d [] c h = tt
  covers-less e d (f ∷ fs) c h = (omega arith, covers-less e d fs c.1 h)

  covers-counted : (e : ℕ) (fs : Frames) → Covers e fs → Covers e (counted fs)
  covers-counted e [] c = tt
  covers-counted e (f ∷ fs) c = c

  abbrev advanced : ℕ → Roses K → ℕ
  advanced j none = j
  advanced j (more t ts) = advanced (suc j) ts

  module _ (kind-make : (k : K) (e : ℕ) → kind (make k e) ≡ k) (end-make : (k : K) (e : ℕ) → end (make k e) ≡ e) (whole : K → Roses K → Option (List A)) (reads-whole : (n : ℕ) (k : K) (ts : Roses K) (rest : List N) → reads n (make k (n + suc (sizes ts))) (flats make (n + 1) ts rest) ≡ whole k ts) where
    abbrev writes : Bool → Rose K → List A
    writes = told whole is_list before between after comma

    mutual
      -- a tree before the index u is passed over
      passes : (u n : ℕ) (t : Rose K) (rest : List N) (fs : Frames) (b : Bool) → n + size t ≤ u
          → tell u fs b n (flat make n t rest) ≡ tell u fs b (n + size t) rest
      passes u n (node k ts) rest fs b h =
          rw (lt-ltb n u (omega arith))
          (passes-each u (n + 1) ts rest fs b (omega arith) ∙ ap (λ m. tell u fs b m rest) (omega arith))

      passes-each : (u n : ℕ) (ts : Roses K) (rest : List N) (fs : Frames) (b : Bool) → n + sizes ts ≤ u
          → tell u fs b n (flats make n ts rest) ≡ tell u fs b (n + sizes ts) rest
      passes-each u n none rest fs b h = ap (λ m. tell u fs b m rest) (omega arith)
      passes-each u n (more t ts) rest fs b h =
          passes u n t (flats make (n + size t) ts rest) fs b (omega arith)
          ∙ passes-each u (n + size t) ts rest fs b (omega arith) ∙ ap (λ m. tell u fs b m rest) (omega arith)

    abbrev after_tree : Frames → Bool → Rose K → ℕ → List N → List A
    after_tree fs b t n rest =
        leads fs
        ++ (writes (firsts fs b) t
        ++ tell 0 (counted fs) (still whole is_list before between after comma (firsts fs b) t) (n + size t) rest)

    abbrev stands : Bool → Rose K → Bool
    stands = still whole is_list before between after comma

    abbrev all_stand : Bool → Roses K → Bool
    all_stand = stills whole is_list before between after comma

    abbrev elements : Bool → Roses K → List A
    elements = told_elements whole is_list before between after comma

    abbrev kids : K → ℕ → Roses K → List A
    kids = told_kids whole is_list before between after comma

    mutual
      tells : (m n : ℕ) (t : Rose K) (rest : List N) (u : ℕ) (fs : Frames) (b : Bool) → Covers m fs → n + size t ≤ m
          → u ≤ n → tell u fs b n (flat make n t rest) ≡ after_tree fs b t n rest
      tells m n (node k ts) rest u fs b c h g =
          let e = n + suc (sizes ts) in
          let gs = counted fs in
          let d = covers-counted e fs (covers-less m e fs c (omega arith)) in
          let behind : ℕ → Frames → Bool → List A = λ w hs a. tell w hs a (n + 1) (flats make (n + 1) ts rest) in
          here u fs b n (make k e) (flats make (n + 1) ts rest) g
          ∙ covers-ends m n fs b
          (begin (reads n (make k e) (flats make (n + 1) ts rest)) (is_list (kind (make k e))) (kind (make k e))
          (end (make k e)) behind)
          c (omega arith)
          ∙ rw (kind-make k e, end-make k e, reads-whole n k ts rest)
          (by_kind (whole k ts) (is_list k) refl
          (passes-each e (n + 1) ts rest gs false (omega arith) ∙ ap (λ j. tell e gs false j rest) (omega arith)
          ∙ reached e 0 gs false e rest (omega arith) (omega arith))
          (λ r a. tells-elements e (n + 1) ts rest k 0 gs a r d (omega arith)
          ∙ ap (λ j. elements a ts ++ tell 0 (record { kind = k; begun = advanced 0 ts; end = e } ∷ gs) (all_stand a ts) j rest)
          (omega arith)
          ∙ ap (λ l. elements a ts ++ l) (left k (advanced 0 ts) e gs (all_stand a ts) rest))
          (λ r a. tells-kids e (n + 1) ts rest k 0 gs a r d (omega arith)
          ∙ ap (λ j. kids k 0 ts ++ tell 0 (record { kind = k; begun = advanced 0 ts; end = e } ∷ gs) true j rest)
          (omega arith)
          ∙ ap (λ l. kids k 0 ts ++ l) (left k (advanced 0 ts) e gs true rest)))
        where
          at_end : Bool → List A
          at_end d = tell 0 (counted fs) d (n + suc (sizes ts)) rest

          inside : Bool → List A
          inside d =
              tell 0 (record { kind = k; begun = 0; end = n + suc (sizes ts) } ∷ counted fs) d (n + 1)
              (flats make (n + 1) ts rest)

          by_kind : (o : Option (List A)) (l : Bool) → is_list k ≡ l
              → tell (n + suc (sizes ts)) (counted fs) false (n + 1) (flats make (n + 1) ts rest) ≡ at_end false
              → (is_list k ≡ true → (a : Bool) → inside a ≡ elements a ts ++ closing (is_list k) k at_end (all_stand a ts))
              → (is_list k ≡ false → (a : Bool) → inside a ≡ kids k 0 ts ++ closing (is_list k) k at_end true)
              → begin o l k (n + suc (sizes ts)) (λ w gs d. tell w gs d (n + 1) (flats make (n + 1) ts rest)) fs b
              ≡ leads fs
              ++ (told_by whole is_list before between after comma o l (firsts fs b) (elements (firsts fs b) ts)
              (before k ++ (kids k 0 ts ++ after k))
              ++ at_end (still_by whole is_list before between after comma o l (all_stand (firsts fs b) ts)))
          by_kind (Some ps) l r p q s = ap (λ x. leads fs ++ ((part (firsts fs b) ++ ps) ++ x)) p
          by_kind None true r p q s = ap (λ x. leads fs ++ x) (rw r at (q r (firsts fs b)))
          by_kind None false r p q s =
              ap (λ x. leads fs ++ ((part (firsts fs b) ++ before k) ++ x)) (rw r at (s r true))
              ∙ ap (λ x. leads fs ++ x) (simp append_assoc)

      tells-elements : (m n : ℕ) (ts : Roses K) (rest : List N) (k : K) (j : ℕ) (fs : Frames) (b : Bool)
          → is_list k ≡ true → Covers m fs → n + sizes ts ≤ m
          → tell 0 (record { kind = k; begun = j; end = m } ∷ fs) b n (flats make n ts rest)
          ≡ elements b ts
          ++ tell 0 (record { kind = k; begun = advanced j ts; end = m } ∷ fs) (all_stand b ts) (n + sizes ts) rest
      tells-elements m n none rest k j fs b r c h =
          ap (λ i. tell 0 (record { kind = k; begun = j; end = m } ∷ fs) b i rest) (omega arith)
      tells-elements m n (more t ts) rest k j fs b r c h =
          let gs = record { kind = k; begun = advanced (suc j) ts; end = m } ∷ fs in
          let a = all_stand (stands b t) ts in
          let i : n + size t + sizes ts ≡ n + (size t + sizes ts) = omega arith in
          rw r at (tells m n t (flats make (n + size t) ts rest) 0 (record { kind = k; begun = j; end = m } ∷ fs) b
          (omega arith, c) (omega arith) (omega arith))
          ∙ ap (λ x. writes b t ++ x)
          (tells-elements m (n + size t) ts rest k (suc j) fs (stands b t) r c (omega arith)
          ∙ ap (λ i. elements (stands b t) ts ++ tell 0 gs a i rest) i)
          ∙ sym (append_assoc (writes b t) (elements (stands b t) ts) (tell 0 gs a (n + (size t + sizes ts)) rest))

      tells-kids : (m n : ℕ) (ts : Roses K) (rest : List N) (k : K) (j : ℕ) (fs : Frames) (b : Bool)
          → is_list k ≡ false → Covers m fs → n + sizes ts ≤ m
          → tell 0 (record { kind = k; begun = j; end = m } ∷ fs) b n (flats make n ts rest)
          ≡ kids k j ts ++ tell 0 (record { kind = k; begun = advanced j ts; end = m } ∷ fs) true (n + sizes ts) rest
      tells-kids m n none rest k j fs b r c h =
          anew (record { kind = k; begun = j; end = m }) fs b true n rest r
          ∙ ap (λ i. tell 0 (record { kind = k; begun = j; end = m } ∷ fs) true i rest) (omega arith)
      tells-kids m n (more t ts) rest k j fs b r c h =
          let gs = record { kind = k; begun = advanced (suc j) ts; end = m } ∷ fs in
          let i : n + size t + sizes ts ≡ n + (size t + sizes ts) = omega arith in
          let rest_of = tell 0 gs true (n + (size t + sizes ts)) rest in
          rw r at (tells m n t (flats make (n + size t) ts rest) 0 (record { kind = k; begun = j; end = m } ∷ fs) b
          (omega arith, c) (omega arith) (omega arith))
          ∙ ap (λ x. between k j ++ (writes true t ++ x))
          (tells-kids m (n + size t) ts rest k (suc j) fs (stands true t) r c (omega arith)
          ∙ ap (λ i. kids k (suc j) ts ++ tell 0 gs true i rest) i)
          ∙ sym (append_assoc (between k j) (writes true t) (kids k (suc j) ts ++ rest_of))
          ∙ sym (append_assoc (between k j ++ writes true t) (kids k (suc j) ts) rest_of)

    -- the loop over a whole list writes what is told of its tree
    pub tells-tree : (t : Rose K) → tell 0 [] true 0 (flat make 0 t []) ≡ writes true t
    tells-tree t =
        tells (0 + size t) 0 t [] 0 [] true tt (omega arith) (omega arith) ∙ append-nil (writes true t)
