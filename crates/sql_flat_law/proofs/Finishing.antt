-- The stack of finished trees, when its top is taken, and what is said of each.
use Rattle.std.proofs.Common.{◌≡◌, ℕ, ◌<◌, ◌≤◌, Bool, true, false, cond, List, [], ◌∷◌, ◌++◌, MatchOption, None, Option, Some, length, map, ltb, refl, sym, ap, ◌∙◌, arith}
use Rattle.std.proofs.lemmas.List.{reverse-append}
use Rattle.sql_flat_law.specs.declared.finished.Finished.{Finished}
use Rattle.sql_flat_law.specs.Finished.{before, finished, first, pair_of}
use Rattle.sql_flat_law.specs.Seen.{seen}
use borrow.Author.Tests.{lt-ltb, ltb-false}

module _ {T : Type 0} where
  pub finished-push : (ts : List (Finished T)) (t : Finished T) → finished (ts ++ t ∷ []) ≡ pair_of t ∷ finished ts
  finished-push ts t = ap (map pair_of) (reverse-append ts (t ∷ []))

  pub takes : (e : ℕ) (all ts : List (Finished T)) (t : Finished T) → all ≡ ts ++ t ∷ [] → t.start < e
      → before e (finished all) ≡ (t.value ∷ (before e (finished ts)).0, (before e (finished ts)).1)
  takes e all ts t is h =
      let l : ltb t.start e ≡ true = lt-ltb t.start e h in
      let s : finished all ≡ pair_of t ∷ finished ts = ap finished is ∙ finished-push ts t in rw (s, l) refl

  pub stays : (e : ℕ) (all ts : List (Finished T)) (t : Finished T) → all ≡ ts ++ t ∷ [] → e ≤ t.start
      → before e (finished all) ≡ ([], finished all)
  stays e all ts t is h =
      let l : ltb t.start e ≡ false = search (arith, ltb-false) in
      let s : finished all ≡ pair_of t ∷ finished ts = ap finished is ∙ finished-push ts t in rw (s, l) refl

pub ruleset finishing = (takes, stays, finished-push)

pub ruleset finished_push = (finished-push)

-- ---- what is said of each

module _ {A B : Type 0} (f : A → B) where
  pub seen-before : (e : ℕ) (σ : List (ℕ × A)) → before e (seen f σ) ≡ (map f (before e σ).0, seen f (before e σ).1)
  seen-before e [] = refl
  seen-before e (p ∷ σ) = by_test (ltb p.0 e) (seen-before e σ)
    where
      by_test : (b : Bool) → before e (seen f σ) ≡ (map f (before e σ).0, seen f (before e σ).1)
          → cond b (first (f p.1) (before e (seen f σ))) ([], (p.0, f p.1) ∷ seen f σ)
          ≡ (
            map f (cond b (first p.1 (before e σ)) ([], p ∷ σ)).0,
            seen f (cond b (first p.1 (before e σ)) ([], p ∷ σ)).1,
          )
      by_test true h = rw h refl
      by_test false h = refl

  seen-takes : (e : ℕ) (σ τ : List (ℕ × A)) (a : A) → before e σ ≡ (a ∷ (before e τ).0, (before e τ).1)
      → before e (seen f σ) ≡ (f a ∷ (before e (seen f τ)).0, (before e (seen f τ)).1)
  seen-takes e σ τ a h =
      let back = sym (seen-before e τ) in
      seen-before e σ ∙ (λ i. (map f (h i).0, seen f (h i).1)) ∙ (λ i. (f a ∷ (back i).0, (back i).1))

  seen-stays : (e : ℕ) (σ : List (ℕ × A)) → before e σ ≡ ([], σ) → before e (seen f σ) ≡ ([], seen f σ)
  seen-stays e σ h = seen-before e σ ∙ (λ i. (map f (h i).0, seen f (h i).1))

  -- what `take` answers
  pub seen-taken : (e : ℕ) (old new : List (Finished A)) (o : Option A)
      → MatchOption o ((new ≡ old) × (before e (finished old) ≡ ([], finished old)))
      (λ a. (length new < length old)
      × (before e (finished old) ≡ (a ∷ (before e (finished new)).0, (before e (finished new)).1)))
      → MatchOption o ((new ≡ old) × (before e (seen f (finished old)) ≡ ([], seen f (finished old))))
      (λ a. (length new < length old)
      × (before e (seen f (finished old))
      ≡ (f a ∷ (before e (seen f (finished new))).0, (before e (seen f (finished new))).1)))
  seen-taken e old new None h = (h.0, seen-stays e (finished old) h.1)
  seen-taken e old new (Some a) h = (h.0, seen-takes e (finished old) (finished new) a h.1)

  -- and `leave`
  pub seen-left : (e : ℕ) (σ τ : List (ℕ × A)) → τ ≡ (before e σ).1 → seen f τ ≡ (before e (seen f σ)).1
  seen-left e σ τ h = ap (seen f) h ∙ ap (λ p. p.1) (sym (seen-before e σ))
