-- A test of all nodes of a tree's list is the test of all nodes of the tree.
use Rattle.std.proofs.Common.{◌≡◌, ℕ, ◌+◌, true, false, Bool, ◌||◌, cond, List, [], ◌∷◌, map, refl, sym, ap, ◌∙◌, ltb}
use Rattle.std.specs.List.{list_any}
use Rattle.std.proofs.lemmas.List.Folds.{list_any-append}
use Rattle.sql_flat_law.specs.Rose.{Rose, node, Roses, none, more, flat}
use Rattle.sql_flat_law.specs.Backward as loop
use Rattle.sql_flat_law.specs.Finished.{before, first}
use Rattle.sql_flat_law.specs.Folds.{folded, folded_each, sites, sites_of}
use Rattle.sql_flat_law.proofs.Backward.{run-flat}
use Rattle.sql_flat_law.proofs.Finishing.{seen-before}
use Rattle.sql_flat.specs.declared.kind.FlatKind.{FlatKind}
use Rattle.sql_rules_check.specs.inside.Known.{Known, known_below}
use Rattle.sql_rules_check.specs.inside.Tested as tested

or-assoc : (a b c : Bool) → ((a || b) || c) ≡ (a || (b || c))
or-assoc true b c = refl
or-assoc false b c = refl

or-false : (a : Bool) → (a || false) ≡ a
or-false true = refl
or-false false = refl

module _ {K A : Type 0} (over : K → List A → A) (test : K → List A → Bool) where
  -- what a node gives, with whether the test holds of it or of a node below it
  abbrev both : K → List (A × Bool) → A × Bool
  both k ps = (over k (map (λ p. p.0) ps), test k (map (λ p. p.0) ps) || list_any (λ p. p.1) ps)

  mutual
    folded-both : (t : Rose K) → folded both t ≡ (folded over t, tested.any_node over test t)
    folded-both (node k ts) =
        let given = folded-given ts in
        let any = folded-any ts in
        (λ i. (over k (given i), test k (given i) || list_any (λ p. p.1) (folded_each both ts)))
        ∙ ap (λ b. (over k (folded_each over ts), test k (folded_each over ts) || b)) any

    folded-given : (ts : Roses K) → map (λ p. p.0) (folded_each both ts) ≡ folded_each over ts
    folded-given none = refl
    folded-given (more t ts) =
        let one = folded-both t in
        let others = folded-given ts in λ i. (one i).0 ∷ others i

    folded-any : (ts : Roses K) → list_any (λ p. p.1) (folded_each both ts) ≡ tested.any_node_of over test ts
    folded-any none = refl
    folded-any (more t ts) =
        let one = folded-both t in
        let others = folded-any ts in λ i. (one i).1 || others i

  module _ {N : Type 0} (kind : N → K) (end : N → ℕ) where
    abbrev Both : Type 0
    Both = List (ℕ × (A × Bool))

    abbrev forget : ℕ × (A × Bool) → ℕ × A
    forget p = (p.0, p.1.0)

    abbrev flag : ℕ × (A × Bool) → Bool
    flag p = p.1.1

    before-forget : (e : ℕ) (σ : Both)
        → (map (λ p. p.0) (before e σ).0, map forget (before e σ).1) ≡ before e (map forget σ)
    before-forget e σ = sym (seen-before (λ p. p.0) e σ)

    run-forget : (i : ℕ) (xs : List N)
        → map forget (loop.run kind end both i xs) ≡ loop.run kind end over i xs
    run-forget i [] = refl
    run-forget i (x ∷ xs) =
        ap (loop.put kind end over i (kind x)) (before-forget (end x) (loop.run kind end both (i + 1) xs))
        ∙ ap (λ σ. loop.put kind end over i (kind x) (before (end x) σ)) (run-forget (i + 1) xs)

    flags-split : (e : ℕ) (σ : Both)
        → list_any flag σ
        ≡ (list_any (λ p. p.1) (before e σ).0 || list_any flag (before e σ).1)
    flags-split e [] = refl
    flags-split e (p ∷ σ) = by_test (ltb p.0 e) (flags-split e σ)
      where
        by_test : (b : Bool)
            → list_any flag σ
            ≡ (list_any (λ p. p.1) (before e σ).0 || list_any flag (before e σ).1)
            → (flag p || list_any flag σ)
            ≡ (list_any (λ p. p.1) (cond b (first p.1 (before e σ)) ([], p ∷ σ)).0
            || list_any flag (cond b (first p.1 (before e σ)) ([], p ∷ σ)).1)
        by_test true h =
            ap (λ b. flag p || b) h
            ∙ sym (or-assoc (flag p) (list_any (λ p. p.1) (before e σ).0)
            (list_any flag (before e σ).1))
        by_test false h = refl

    run-flags : (i : ℕ) (xs : List N)
        → list_any flag (loop.run kind end both i xs) ≡ tested.any_from over test kind end i xs
    run-flags i [] = refl
    run-flags i (x ∷ xs) =
        let σ = loop.run kind end both (i + 1) xs in
        let inner = before (end x) σ in
        let outer = before (end x) (loop.run kind end over (i + 1) xs) in
        let given : map (λ p. p.0) inner.0 ≡ outer.0 =
        ap (λ p. p.0) (before-forget (end x) σ ∙ ap (before (end x)) (run-forget (i + 1) xs)) in
        or-assoc (test (kind x) (map (λ p. p.0) inner.0)) (list_any (λ p. p.1) inner.0) (list_any flag inner.1)
        ∙ ap (λ b. test (kind x) (map (λ p. p.0) inner.0) || b) (sym (flags-split (end x) σ) ∙ run-flags (i + 1) xs)
        ∙ ap (λ gs. test (kind x) gs || tested.any_from over test kind end (i + 1) xs) given

    module _ (make : K → ℕ → N) (kind-make : (k : K) (e : ℕ) → kind (make k e) ≡ k)
        (end-make : (k : K) (e : ℕ) → end (make k e) ≡ e) where
      -- the loop over a whole list tests the nodes of its tree
      pub any-flat : (t : Rose K)
          → tested.any_from over test kind end 0 (flat make 0 t []) ≡ tested.any_node over test t
      any-flat t =
          sym (run-flags 0 (flat make 0 t []))
          ∙ ap (list_any flag) (run-flat make kind end both kind-make end-make t)
          ∙ or-false (folded both t).1 ∙ ap (λ p. p.1) (folded-both t)

-- ---- the same at the sites of a tree

module _ {A : Type 0} (over : FlatKind → List A → A) (test : FlatKind → List A → Bool) where
  mutual
    pub any-sites : (v : Known) (t : Rose FlatKind)
        → tested.any_node over test t
        ≡ list_any (λ s. test s.kind (folded_each over s.within.kids)) (sites known_below v t)
    any-sites v (node k ts) =
        ap (λ b. test k (folded_each over ts) || b) (any-sites-of (known_below v k ts) ts)

    any-sites-of : (v : Known) (ts : Roses FlatKind)
        → tested.any_node_of over test ts
        ≡ list_any (λ s. test s.kind (folded_each over s.within.kids)) (sites_of known_below v ts)
    any-sites-of v none = refl
    any-sites-of v (more t ts) =
        (λ i. any-sites v t i || any-sites-of v ts i)
        ∙ sym (list_any-append (λ s. test s.kind (folded_each over s.within.kids))
        (sites known_below v t) (sites_of known_below v ts))
