-- A loop over the nodes from the last to the first, with a stack of what the trees after it give.
use Rattle.std.proofs.Common.{◌≡◌, ℕ, ◌+◌, true, false, Bool, cond, List, [], ◌∷◌, map, refl, ap, ◌∙◌, ltb}
use Rattle.sql_flat_law.specs.Rose.{Rose, none, flat}
use Rattle.sql_flat_law.specs.Backward as loop
use Rattle.sql_flat_law.specs.Finished.{before, first}
use Rattle.sql_flat_law.specs.Folds.{folded, folded_each}
use Rattle.sql_flat_law.proofs.Unflat.{Stack, with, until, fold, flat-law}

module _ {K N A : Type 0} (make : K → ℕ → N) (kind : N → K) (end : N → ℕ) (over : K → List A → A) where
  abbrev Given : Type 0
  Given = loop.Given kind end over

  abbrev put : ℕ → K → List A × Given → Given
  put = loop.put kind end over

  abbrev run : ℕ → List N → Given
  run = loop.run kind end over

  abbrev given : Stack make kind end → Given
  given σ = map (λ p. (p.0, folded over p.1)) σ

  before-given : (e : ℕ) (σ : Stack make kind end)
      → before e (given σ) ≡ (folded_each over (until make kind end e σ).0, given (until make kind end e σ).1)
  before-given e [] = refl
  before-given e (p ∷ σ) = by_test (ltb p.0 e) (before-given e σ)
    where
      by_test : (b : Bool) → before e (given σ)
          ≡ (folded_each over (until make kind end e σ).0, given (until make kind end e σ).1)
          → cond b (first (folded over p.1) (before e (given σ))) ([], (p.0, folded over p.1) ∷ given σ)
          ≡ (
            folded_each over (cond b (with make kind end p.1 (until make kind end e σ)) (none, p ∷ σ)).0,
            given (cond b (with make kind end p.1 (until make kind end e σ)) (none, p ∷ σ)).1,
          )
      by_test true h = rw h refl
      by_test false h = refl

  run-fold : (i : ℕ) (xs : List N) → run i xs ≡ given (fold make kind end i xs)
  run-fold i [] = refl
  run-fold i (x ∷ xs) =
      ap (λ σ. put i (kind x) (before (end x) σ)) (run-fold (i + 1) xs)
      ∙ ap (put i (kind x)) (before-given (end x) (fold make kind end (i + 1) xs))

  module _ (kind-make : (k : K) (e : ℕ) → kind (make k e) ≡ k) (end-make : (k : K) (e : ℕ) → end (make k e) ≡ e) where
    -- the loop over a whole list gives what its tree gives
    pub run-flat : (t : Rose K) → run 0 (flat make 0 t []) ≡ (0, folded over t) ∷ []
    run-flat t = run-fold 0 (flat make 0 t []) ∙ ap given (flat-law make kind end kind-make end-make 0 t [])
