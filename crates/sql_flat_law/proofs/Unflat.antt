-- A flat list gives back its tree: read from the last node to the first, each node takes from the stack the trees that begin before its end.
use Rattle.std.proofs.Common.{◌≡◌, ℕ, suc, ◌+◌, ◌<◌, ◌≤◌, true, false, cond, List, [], ◌∷◌, refl, sym, ap, ◌∙◌, arith, ltb}
use Rattle.sql_flat_law.specs.Rose.{Rose, node, Roses, none, more, size, sizes, flat, flats}
use borrow.Author.Tests.{lt-ltb, ltb-false}

module _ {K N : Type 0} (make : K → ℕ → N) (kind : N → K) (end : N → ℕ) where
  abbrev pub Stack : Type 0
  Stack = List (ℕ × Rose K)

  abbrev pub with : Rose K → Roses K × Stack → Roses K × Stack
  with t p = (more t p.0, p.1)

  -- the trees that begin before e
  abbrev pub until : ℕ → Stack → Roses K × Stack
  until e [] = (none, [])
  until e (p ∷ σ) = cond (ltb p.0 e) (with p.1 (until e σ)) (none, p ∷ σ)

  abbrev pub close : ℕ → K → Roses K × Stack → Stack
  close i k p = (i, node k p.0) ∷ p.1

  abbrev pub fold : ℕ → List N → Stack
  fold i [] = []
  fold i (x ∷ xs) = close i (kind x) (until (end x) (fold (i + 1) xs))

  abbrev put : ℕ → Roses K → Stack → Stack
  put n none σ = σ
  put n (more t ts) σ = (n, t) ∷ put (n + size t) ts σ

  -- what stands on the stack begins at e or later
  abbrev pub Begins : ℕ → Stack → Type 0
  Begins e [] = Unit {0}
  Begins e (p ∷ σ) = e ≤ p.0

  pub fold-begins : (i : ℕ) (xs : List N) → Begins i (fold i xs)
  fold-begins i [] = tt
  fold-begins i (x ∷ xs) = omega arith

  size-pos : (t : Rose K) → 0 < size t
  size-pos (node k ts) = omega arith

  pub until-none : (e : ℕ) (σ : Stack) → Begins e σ → until e σ ≡ (none, σ)
  until-none e [] h = refl
  until-none e (p ∷ σ) h = rw (ltb-not p.0 e h) refl
    where
      ltb-not : (a b : ℕ) → b ≤ a → ltb a b ≡ false
      ltb-not a b h = search (arith, ltb-false)

  until-put : (n e : ℕ) (ts : Roses K) (σ : Stack) → n + sizes ts ≡ e → Begins e σ → until e (put n ts σ) ≡ (ts, σ)
  until-put n e none σ h b = until-none e σ b
  until-put n e (more t ts) σ h b =
      let l : ltb n e ≡ true = lt-ltb n e (omega (arith, size-pos t)) in
      let k : until e (put (n + size t) ts σ) ≡ (ts, σ) = until-put (n + size t) e ts σ (omega arith) b in
      rw (l, k) refl

  module _ (kind-make : (k : K) (e : ℕ) → kind (make k e) ≡ k) (end-make : (k : K) (e : ℕ) → end (make k e) ≡ e) where
    mutual
      pub flat-law : (n : ℕ) (t : Rose K) (rest : List N)
          → fold n (flat make n t rest) ≡ (n, t) ∷ fold (n + size t) rest
      flat-law n (node k ts) rest =
          let h : until (n + suc (sizes ts)) (fold (n + 1) (flats make (n + 1) ts rest))
          ≡ (ts, fold (n + suc (sizes ts)) rest) =
          ap (until (n + suc (sizes ts)))
          (flats-law (n + 1) ts rest ∙ ap (λ m. put (n + 1) ts (fold m rest)) (omega arith))
          ∙ until-put (n + 1) (n + suc (sizes ts)) ts (fold (n + suc (sizes ts)) rest) (omega arith)
          (fold-begins (n + suc (sizes ts)) rest) in
          rw (kind-make k (n + suc (sizes ts)), end-make k (n + suc (sizes ts)), h) refl

      pub flats-law : (n : ℕ) (ts : Roses K) (rest : List N)
          → fold n (flats make n ts rest) ≡ put n ts (fold (n + sizes ts) rest)
      flats-law n none rest = ap (λ m. fold m rest) (omega arith)
      flats-law n (more t ts) rest =
          flat-law n t (flats make (n + size t) ts rest)
          ∙ ap (λ σ. (n, t) ∷ σ)
          (flats-law (n + size t) ts rest ∙ ap (λ m. put (n + size t) ts (fold m rest)) (omega arith))

    -- one tree to a list
    pub one-tree : (a b : Rose K) → flat make 0 a [] ≡ flat make 0 b [] → a ≡ b
    one-tree a b h =
        let p : (0, a) ∷ [] ≡ (0, b) ∷ [] = sym (flat-law 0 a []) ∙ ap (fold 0) h ∙ flat-law 0 b [] in ap (top a) p
      where
        top : Rose K → Stack → Rose K
        top a [] = a
        top a (p ∷ σ) = p.1
