-- Tests of the nodes of a list that read ahead are tests of the nodes of its tree by their children.
use Rattle.std.proofs.Common.{◌≡◌, ℕ, suc, ◌+◌, Bool, true, false, cond, ◌||◌, List, [], ◌∷◌, ◌++◌, drop, refl, sym, ap, ◌∙◌, arith, ltb}
use Rattle.std.specs.List.{flat_map, list_any}
use Rattle.std.proofs.lemmas.List.Folds.{list_any-append}
use Rattle.sql_flat_law.specs.Rose.{Rose, node, Roses, none, more, size, sizes, flat, flats}
use Rattle.sql_flat_law.specs.Folds.{gathered_each, sites, sites_of}
use Rattle.sql_flat_law.specs.Forward.{gather}
use Rattle.sql_flat_law.proofs.Forward.{gathers-kids}
use Rattle.sql_flat.specs.Flat.{flat_node}
use Rattle.sql_flat.specs.declared.kind.FlatKind.{FlatKind}
use Rattle.sql_flat.specs.declared.kind.FlatNode.{FlatNode}
use Rattle.sql_rules_check.specs.inside.Ahead.{any_ahead, any_over, any_over_each, gathered_behind, gathered_from}
use Rattle.sql_rules_check.specs.inside.Kids.{met, node_at, nodes_from}
use Rattle.sql_rules_check.specs.inside.Known.{Known, known_below}
use Rattle.sql_rules_check.specs.inside.Lists.{kind_of, end_of}

pub or-assoc : (a b c : Bool) → ((a || b) || c) ≡ (a || (b || c))
or-assoc true b c = refl
or-assoc false b c = refl

pub or-false : (a : Bool) → (a || false) ≡ a
or-false true = refl
or-false false = refl

module _ (test : FlatKind → Roses FlatKind → Bool) (ahead : ℕ → FlatNode → List FlatNode → Bool)
    (same : (n : ℕ) (k : FlatKind) (ts : Roses FlatKind) (rest : List FlatNode)
    → ahead n (flat_node k (n + suc (sizes ts))) (flats flat_node (n + 1) ts rest)
    ≡ test k ts) where
  mutual
    any-tree : (n : ℕ) (t : Rose FlatKind) (rest : List FlatNode)
        → any_ahead ahead n (flat flat_node n t rest) ≡ (any_over test t || any_ahead ahead (n + size t) rest)
    any-tree n (node k ts) rest =
        ap (λ b. b || any_ahead ahead (n + 1) (flats flat_node (n + 1) ts rest)) (same n k ts rest)
        ∙ ap (λ b. test k ts || b)
        (any-trees (n + 1) ts rest
        ∙ ap (λ m. any_over_each test ts || any_ahead ahead m rest) (omega arith))
        ∙ sym (or-assoc (test k ts) (any_over_each test ts) (any_ahead ahead (n + suc (sizes ts)) rest))

    any-trees : (n : ℕ) (ts : Roses FlatKind) (rest : List FlatNode)
        → any_ahead ahead n (flats flat_node n ts rest)
        ≡ (any_over_each test ts || any_ahead ahead (n + sizes ts) rest)
    any-trees n none rest = ap (λ m. any_ahead ahead m rest) (omega arith)
    any-trees n (more t ts) rest =
        any-tree n t (flats flat_node (n + size t) ts rest)
        ∙ ap (λ b. any_over test t || b)
        (any-trees (n + size t) ts rest
        ∙ ap (λ m. any_over_each test ts || any_ahead ahead m rest) (omega arith))
        ∙ sym (or-assoc (any_over test t) (any_over_each test ts) (any_ahead ahead (n + (size t + sizes ts)) rest))

  -- the whole list of a tree
  pub any-whole : (t : Rose FlatKind) → any_ahead ahead 0 (flat flat_node 0 t []) ≡ any_over test t
  any-whole t = any-tree 0 t [] ∙ or-false (any_over test t)

module _ (test : FlatKind → Roses FlatKind → Bool) where
  mutual
    pub over-sites : (v : Known) (t : Rose FlatKind)
        → any_over test t ≡ list_any (λ s. test s.kind s.within.kids) (sites known_below v t)
    over-sites v (node k ts) = ap (λ b. test k ts || b) (over-sites-of (known_below v k ts) ts)

    over-sites-of : (v : Known) (ts : Roses FlatKind)
        → any_over_each test ts ≡ list_any (λ s. test s.kind s.within.kids) (sites_of known_below v ts)
    over-sites-of v none = refl
    over-sites-of v (more t ts) =
        (λ i. over-sites v t i || over-sites-of v ts i)
        ∙ sym (list_any-append (λ s. test s.kind s.within.kids) (sites known_below v t) (sites_of known_below v ts))

-- ---- what is gathered ahead

module _ {B : Type 0} (at : FlatKind → List B) (passed : FlatKind → Bool) where
  pub behind-kids : (n : ℕ) (k : FlatKind) (ts : Roses FlatKind) (rest : List FlatNode)
      → gathered_behind at passed n (flat_node k (n + suc (sizes ts))) (flats flat_node (n + 1) ts rest)
      ≡ gathered_each at passed ts
  behind-kids n k ts rest = gathers-kids flat_node kind_of end_of at passed (λ _ _. refl) (λ _ _. refl) n ts rest

  -- what is gathered is what each of the nodes gives that are met
  gathered-met : (e u i : ℕ) (xs : List FlatNode)
      → gather kind_of end_of at passed e u i xs ≡ flat_map (λ c. at c.1.kind) (met passed node_at e u i xs)
  gathered-met e u i [] = refl
  gathered-met e u i (x ∷ xs) =
      let w = cond (passed x.kind) x.end u in
      by_tests (ltb i e) (ltb i u) _ _ (met passed node_at e u (i + 1) xs) (met passed node_at e w (i + 1) xs)
      (gathered-met e u (i + 1) xs) (gathered-met e w (i + 1) xs)
    where
      by_tests : (b c : Bool) (us vs : List B) (ps qs : List (ℕ × FlatNode)) → us ≡ flat_map (λ c. at c.1.kind) ps
          → vs ≡ flat_map (λ c. at c.1.kind) qs
          → cond b (cond c us (at x.kind ++ vs)) [] ≡ flat_map (λ c. at c.1.kind) (cond b (cond c ps ((i, x) ∷ qs)) [])
      by_tests true true us vs ps qs h g = h
      by_tests true false us vs ps qs h g = ap (λ l. at x.kind ++ l) g
      by_tests false c us vs ps qs h g = refl

  pub gathered-over : (e p : ℕ) (nodes : List FlatNode)
      → flat_map (λ c. at c.1.kind) (nodes_from passed e p nodes) ≡ gathered_from at passed e p nodes
  gathered-over e p nodes = sym (gathered-met e p p (drop p nodes))
