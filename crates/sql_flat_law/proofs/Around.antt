-- A loop over the nodes from the first to the last, with a stack of what is known within the nodes that are open.
use Rattle.std.proofs.Common.{◌≡◌, ℕ, suc, ◌+◌, ◌<◌, ◌≤◌, true, false, Bool, List, [], ◌∷◌, ◌++◌, refl, sym, ap, ◌∙◌, arith, append_assoc, append-nil}
use Rattle.sql_flat_law.specs.Rose.{Rose, node, Roses, none, more, size, sizes, flat, flats}
use Rattle.sql_flat_law.specs.Around as loop
use Rattle.sql_flat_law.specs.Opened.{still_open}
use Rattle.sql_flat_law.specs.Folds.{Site, sites, sites_of}
use Rattle.std.proofs.lemmas.Bool.{lt-ltb, le-ltb}

module _ {V K N : Type 0} (make : K → ℕ → N) (kind : N → K) (end : N → ℕ) (outer : V) (keeps : K → Bool) (reads : V → ℕ → N → List N → V) where
  abbrev Open : Type 0
  Open = loop.Open kind end outer keeps reads

  abbrev top : Open → V
  top = loop.top kind end outer keeps reads

  abbrev entered : Bool → ℕ → V → Open → Open
  entered = loop.entered kind end outer keeps reads

  abbrev visit : ℕ → N → List N → (Open → List (Site V K)) → Open → List (Site V K)
  visit = loop.visit kind end outer keeps reads

  abbrev walk : Open → ℕ → List N → List (Site V K)
  walk = loop.walk kind end outer keeps reads

  -- all end at e or later
  abbrev Covers : ℕ → Open → Type 0
  Covers e [] = Unit {0}
  Covers e (p ∷ σ) = e ≤ p.0 × Covers e σ

  covers-opened : (e i : ℕ) (σ : Open) → Covers e σ → i < e → still_open i σ ≡ σ
  covers-opened e i [] c h = refl
  covers-opened e i (p ∷ σ) c h = rw (lt-ltb i p.0 (omega arith)) refl

  covers-less : (e d : ℕ) (σ : Open) → Covers e σ → d ≤ e → Covers d σ
  covers-less e d [] c h = tt
  covers-less e d (p ∷ σ) c h = (omega arith, covers-less e d σ c.1 h)

  same-opened : (i : ℕ) (xs : List N) (σ τ : Open) → still_open i σ ≡ still_open i τ → walk σ i xs ≡ walk τ i xs
  same-opened i [] σ τ h = refl
  same-opened i (x ∷ xs) σ τ h = ap (visit i x xs (λ τ. walk τ (i + 1) xs)) h

  -- a node that has ended is as if it had not been entered
  left : (b : Bool) (e : ℕ) (v : V) (σ : Open) (xs : List N) → walk (entered b e v σ) e xs ≡ walk σ e xs
  left true e v σ xs = refl
  left false e v σ xs =
      same-opened e xs ((e, v) ∷ σ) σ (rw (le-ltb e e (omega arith)) refl)

  module _ (kind-make : (k : K) (e : ℕ) → kind (make k e) ≡ k) (end-make : (k : K) (e : ℕ) → end (make k e) ≡ e) (below : V → K → Roses K → V) (keeps-below : (k : K) (v : V) (ts : Roses K) → keeps k ≡ true → below v k ts ≡ v) (reads-below : (v : V) (n : ℕ) (k : K) (ts : Roses K) (rest : List N) → reads v n (make k (n + suc (sizes ts))) (flats make (n + 1) ts rest) ≡ below v k ts) where
    known : (k : K) (v : V) (ts : Roses K) (b : Bool) → keeps k ≡ b → (e : ℕ) (σ : Open) → top σ ≡ v
        → top (entered b e (below v k ts) σ) ≡ below v k ts
    known k v ts true h e σ g = g ∙ sym (keeps-below k v ts h)
    known k v ts false h e σ g = refl

    covers-entered : (b : Bool) (e : ℕ) (v : V) (σ : Open) → Covers e σ → Covers e (entered b e v σ)
    covers-entered true e v σ c = c
    covers-entered false e v σ c = (omega arith, c)

    mutual
      walks : (m n : ℕ) (t : Rose K) (rest : List N) (σ : Open) → Covers m σ → n + size t ≤ m
          → walk σ n (flat make n t rest) ≡ sites below (top σ) t ++ walk σ (n + size t) rest
      walks m n (node k ts) rest σ c h =
          let e = n + suc (sizes ts) in
          let v = below (top σ) k ts in
          let τ = entered (keeps k) e v σ in
          rw (covers-opened m n σ c (omega arith), kind-make k e, end-make k e, reads-below (top σ) n k ts rest)
          (ap (λ l. record { around = top σ; kind = k; within = v } ∷ l)
          (walks-each e (n + 1) ts rest τ (covers-entered (keeps k) e v σ (covers-less m e σ c h)) (omega arith)
          ∙ (λ i. sites_of below (known k (top σ) ts (keeps k) refl e σ refl i) ts ++ walk τ (n + 1 + sizes ts) rest)
          ∙ ap (λ j. sites_of below v ts ++ walk τ j rest) (omega arith)
          ∙ ap (λ l. sites_of below v ts ++ l) (left (keeps k) e v σ rest)))

      walks-each : (m n : ℕ) (ts : Roses K) (rest : List N) (σ : Open) → Covers m σ → n + sizes ts ≤ m
          → walk σ n (flats make n ts rest) ≡ sites_of below (top σ) ts ++ walk σ (n + sizes ts) rest
      walks-each m n none rest σ c h = ap (λ j. walk σ j rest) (omega arith)
      walks-each m n (more t ts) rest σ c h =
          walks m n t (flats make (n + size t) ts rest) σ c (omega arith)
          ∙ ap (λ l. sites below (top σ) t ++ l)
          (walks-each m (n + size t) ts rest σ c (omega arith)
          ∙ ap (λ j. sites_of below (top σ) ts ++ walk σ j rest) (omega arith))
          ∙ sym (append_assoc (sites below (top σ) t) (sites_of below (top σ) ts)
          (walk σ (n + (size t + sizes ts)) rest))

    -- the loop over a whole list comes to the sites of its tree
    pub walks-tree : (t : Rose K) → walk [] 0 (flat make 0 t []) ≡ sites below outer t
    walks-tree t =
        walks (0 + size t) 0 t [] [] tt (omega arith) ∙ append-nil (sites below outer t)
