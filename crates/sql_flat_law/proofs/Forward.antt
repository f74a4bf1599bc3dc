-- A loop over the nodes from the first to the last that passes over what is inside nodes of some kinds.
use Rattle.std.proofs.Common.{◌≡◌, ℕ, suc, ◌+◌, ◌<◌, ◌≤◌, true, false, Bool, cond, List, [], ◌∷◌, ◌++◌, refl, sym, ap, ◌∙◌, arith, ltb, append_assoc, append-nil}
use Rattle.sql_flat_law.specs.Rose.{Rose, node, Roses, none, more, size, sizes, flat, flats}
use Rattle.sql_flat_law.specs.Forward as loop
use Rattle.sql_flat_law.specs.Folds.{gathered, gathered_each}
use Rattle.std.proofs.lemmas.Bool.{lt-ltb, le-ltb}

module _ {K N B : Type 0} (make : K → ℕ → N) (kind : N → K) (end : N → ℕ) (at : K → List B) (passed : K → Bool) where
  abbrev next : Bool → ℕ → ℕ → ℕ
  next = loop.next kind end at passed

  abbrev gather : ℕ → ℕ → ℕ → List N → List B
  gather = loop.gather kind end at passed

  pub gather-stops : (e u i : ℕ) (xs : List N) → e ≤ i → gather e u i xs ≡ []
  gather-stops e u i [] h = refl
  gather-stops e u i (x ∷ xs) h = rw (le-ltb i e h) refl

  -- an index that was reached holds nothing back
  pub gather-reached : (e u w i : ℕ) (xs : List N) → u ≤ i → w ≤ i → gather e u i xs ≡ gather e w i xs
  gather-reached e u w i [] h g = refl
  gather-reached e u w i (x ∷ xs) h g =
      rw (le-ltb i u h, le-ltb i w g)
      (ap (λ l. cond (ltb i e) (at (kind x) ++ l) [])
      (by_test (passed (kind x)) (gather-reached e u w (i + 1) xs (omega arith) (omega arith))))
    where
      by_test : (b : Bool) → gather e u (i + 1) xs ≡ gather e w (i + 1) xs
          → gather e (next b (end x) u) (i + 1) xs ≡ gather e (next b (end x) w) (i + 1) xs
      by_test true g = refl
      by_test false g = g

  module _ (kind-make : (k : K) (e : ℕ) → kind (make k e) ≡ k) (end-make : (k : K) (e : ℕ) → end (make k e) ≡ e) where
    mutual
      -- a tree before the index u is passed over
      pub passes : (e u n : ℕ) (t : Rose K) (rest : List N) → n + size t ≤ u → u ≤ e
          → gather e u n (flat make n t rest) ≡ gather e u (n + size t) rest
      passes e u n (node k ts) rest h g =
          rw (lt-ltb n e (omega arith), lt-ltb n u (omega arith))
          (passes-each e u (n + 1) ts rest (omega arith) g ∙ ap (λ m. gather e u m rest) (omega arith))

      pub passes-each : (e u n : ℕ) (ts : Roses K) (rest : List N) → n + sizes ts ≤ u → u ≤ e
          → gather e u n (flats make n ts rest) ≡ gather e u (n + sizes ts) rest
      passes-each e u n none rest h g = ap (λ m. gather e u m rest) (omega arith)
      passes-each e u n (more t ts) rest h g =
          passes e u n t (flats make (n + size t) ts rest) (omega arith) g
          ∙ passes-each e u (n + size t) ts rest (omega arith) g ∙ ap (λ m. gather e u m rest) (omega arith)

    mutual
      pub gathers : (e n : ℕ) (t : Rose K) (rest : List N) → n + size t ≤ e
          → gather e n n (flat make n t rest) ≡ gathered at passed t ++ gather e (n + size t) (n + size t) rest
      gathers e n (node k ts) rest h =
          rw (
            lt-ltb n e (omega arith),
            le-ltb n n (omega arith),
            kind-make k (n + suc (sizes ts)),
            end-make k (n + suc (sizes ts)),
          )
          (ap (λ l. at k ++ l)
          (by_test (passed k)
          (passes-each e (n + suc (sizes ts)) (n + 1) ts rest (omega arith) (omega arith)
          ∙ ap (λ m. gather e (n + suc (sizes ts)) m rest) (omega arith))
          (gather-reached e n (n + 1) (n + 1) (flats make (n + 1) ts rest) (omega arith) (omega arith)
          ∙ gathers-each e (n + 1) ts rest (omega arith)
          ∙ ap (λ m. gathered_each at passed ts ++ gather e m m rest) (omega arith)))
          ∙ sym (append_assoc (at k) (cond (passed k) [] (gathered_each at passed ts)) (gather e (n + suc (sizes ts)) (n + suc (sizes ts)) rest)))
        where
          after : List B
          after = gather e (n + suc (sizes ts)) (n + suc (sizes ts)) rest

          by_test : (b : Bool)
              → gather e (n + suc (sizes ts)) (n + 1) (flats make (n + 1) ts rest) ≡ after
              → gather e n (n + 1) (flats make (n + 1) ts rest) ≡ gathered_each at passed ts ++ after
              → gather e (next b (n + suc (sizes ts)) n) (n + 1) (flats make (n + 1) ts rest)
              ≡ cond b [] (gathered_each at passed ts) ++ after
          by_test true p q = p
          by_test false p q = q

      pub gathers-each : (e n : ℕ) (ts : Roses K) (rest : List N) → n + sizes ts ≤ e
          → gather e n n (flats make n ts rest)
          ≡ gathered_each at passed ts ++ gather e (n + sizes ts) (n + sizes ts) rest
      gathers-each e n none rest h = ap (λ m. gather e m m rest) (omega arith)
      gathers-each e n (more t ts) rest h =
          gathers e n t (flats make (n + size t) ts rest) (omega arith)
          ∙ ap (λ l. gathered at passed t ++ l)
          (gathers-each e (n + size t) ts rest (omega arith)
          ∙ ap (λ m. gathered_each at passed ts ++ gather e m m rest) (omega arith))
          ∙ sym (append_assoc (gathered at passed t) (gathered_each at passed ts)
          (gather e (n + (size t + sizes ts)) (n + (size t + sizes ts)) rest))

    -- what is gathered from a tree that begins at n, up to its end
    pub gathers-tree : (n : ℕ) (t : Rose K) (rest : List N)
        → gather (n + size t) n n (flat make n t rest) ≡ gathered at passed t
    gathers-tree n t rest =
        gathers (n + size t) n t rest (omega arith)
        ∙ ap (λ l. gathered at passed t ++ l) (gather-stops (n + size t) (n + size t) (n + size t) rest (omega arith))
        ∙ simp append-nil

    -- the same from its children alone
    pub gathers-kids : (n : ℕ) (ts : Roses K) (rest : List N)
        → gather (n + suc (sizes ts)) (n + 1) (n + 1) (flats make (n + 1) ts rest) ≡ gathered_each at passed ts
    gathers-kids n ts rest =
        gathers-each (n + suc (sizes ts)) (n + 1) ts rest (omega arith)
        ∙ ap (λ l. gathered_each at passed ts ++ l)
        (gather-stops (n + suc (sizes ts)) (n + 1 + sizes ts) (n + 1 + sizes ts) rest (omega arith))
        ∙ simp append-nil
