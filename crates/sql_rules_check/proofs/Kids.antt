-- A way through a flat list passes over what is below some nodes: that from child to child, over all.
use Rattle.std.proofs.lemmas.Bool.{le-ltb, lt-ltb, ltb-false, ltb-true}
use Rattle.std.proofs.lemmas.List.{drop_all, drop_more, drop-drop}
use Rattle.std.proofs.Common.{◌≡◌, ℕ, zero, suc, ◌+◌, ◌-◌, ◌<◌, ◌≤◌, ◌⊎◌, inl, inr, ◌&&◌, true, false, Bool, cond, if◌then◌else◌, List, [], ◌∷◌, ◌++◌, map, drop, get_or, length, ltb, refl, sym, ap, ◌∙◌, append-nil, arith}
use Rattle.sql_flat_law.specs.Rose.{Rose, node, Roses, none, more, size, sizes, flat, flats}
use Rattle.sql_flat.specs.Flat.{flat_node}
use Rattle.sql_flat.specs.declared.kind.FlatKind.{FlatKind}
use Rattle.sql_flat.specs.declared.kind.FlatNode.{FlatNode}
use Rattle.sql_rules_check.specs.inside.Kids.{after, all_passed, kids, kids_behind, kids_of, met, met_from, node_at}

module _ {B : Type 0} (passed : FlatKind → Bool) (at : ℕ → FlatNode → List FlatNode → B) where
  pub met-stop : (e u i : ℕ) (xs : List FlatNode) → e ≤ i → met passed at e u i xs ≡ []
  met-stop e u i [] h = refl
  met-stop e u i (x ∷ xs) h = rw (le-ltb i e h) refl

  -- an index that was reached holds nothing back
  met-reached : (e u w i : ℕ) (xs : List FlatNode) → u ≤ i → w ≤ i → met passed at e u i xs ≡ met passed at e w i xs
  met-reached e u w i [] h g = refl
  met-reached e u w i (x ∷ xs) h g =
      rw (le-ltb i u h, le-ltb i w g)
      (ap (λ l. cond (ltb i e) (at i x xs ∷ l) [])
      (by_test (passed x.kind) (met-reached e u w (i + 1) xs (omega arith) (omega arith))))
    where
      by_test : (b : Bool) → met passed at e u (i + 1) xs ≡ met passed at e w (i + 1) xs
          → met passed at e (cond b x.end u) (i + 1) xs ≡ met passed at e (cond b x.end w) (i + 1) xs
      by_test true g = refl
      by_test false g = g

  -- there is nothing before the index u
  met-jump : (k e u i : ℕ) (xs : List FlatNode) → i + k ≡ u → met passed at e u i xs ≡ met passed at e u u (drop k xs)
  met-jump zero e u i xs h = ap (λ j. met passed at e u j xs) (omega arith)
  met-jump (suc k) e u i [] h = ap (met passed at e u u) (sym (drop_all (suc k) [] (omega arith)))
  met-jump (suc k) e u i (x ∷ xs) h =
      rw (lt-ltb i u (omega arith)) (by_test (ltb i e) refl (met-jump k e u (i + 1) xs (omega arith)))
    where
      by_test : (b : Bool) → ltb i e ≡ b → met passed at e u (i + 1) xs ≡ met passed at e u u (drop k xs)
          → cond b (met passed at e u (i + 1) xs) [] ≡ met passed at e u u (drop k xs)
      by_test true q g = g
      by_test false q g = sym (met-stop e u u (drop k xs) (omega (arith, ltb-false i e q)))

  -- a step of the way
  pub met-turn : (e p : ℕ) (nodes : List FlatNode) (x : FlatNode) → p < e → p < length nodes → x ≡ get_or nodes p x
      → met_from passed at e p nodes ≡ at p x (drop (p + 1) nodes) ∷ met_from passed at e (after passed p x) nodes
  met-turn e p nodes x h g is =
      ap (met passed at e p p) (drop_more nodes p x g ∙ ap (λ y. y ∷ drop (p + 1) nodes) (sym is))
      ∙ rw (lt-ltb p e h, le-ltb p p (omega arith))
      (ap (λ l. at p x (drop (p + 1) nodes) ∷ l) (by_test (passed x.kind) (ltb p x.end) refl))
    where
      by_test : (b c : Bool) → ltb p x.end ≡ c
          → met passed at e (cond b x.end p) (p + 1) (drop (p + 1) nodes)
          ≡ met passed at e (if b && c then x.end else p + 1) (if b && c then x.end else p + 1)
          (drop (if b && c then x.end else p + 1) nodes)
      by_test false c q = met-reached e p (p + 1) (p + 1) (drop (p + 1) nodes) (omega arith) (omega arith)
      by_test true true q =
          let l : p < x.end = ltb-true p x.end q in
          met-jump (x.end - (p + 1)) e x.end (p + 1) (drop (p + 1) nodes) (omega arith)
          ∙ ap (met passed at e x.end x.end)
          (drop-drop (x.end - (p + 1)) (p + 1) nodes ∙ ap (λ m. drop m nodes) (omega arith))
      by_test true false q =
          met-reached e x.end (p + 1) (p + 1) (drop (p + 1) nodes) (omega (arith, ltb-false p x.end q)) (omega arith)

  -- there is none after the last node
  pub met-end : (e i : ℕ) (nodes : List FlatNode) → (e ≤ i) ⊎ (length nodes ≤ i) → met_from passed at e i nodes ≡ []
  met-end e i nodes (inl h) = met-stop e i i (drop i nodes) h
  met-end e i nodes (inr h) = ap (met passed at e i i) (drop_all i nodes h)

  -- what the nodes of a whole list give, by their indices
  pub met-over : (nodes : List FlatNode) (of : ℕ → FlatNode → B)
      → ((i : ℕ) (x : FlatNode) (xs : List FlatNode) → x ∷ xs ≡ drop i nodes → at i x xs ≡ of i x)
      → (e u i : ℕ) (xs : List FlatNode) → xs ≡ drop i nodes
      → met passed at e u i xs ≡ map (λ c. of c.0 c.1) (met passed node_at e u i xs)
  met-over nodes of same e u i [] h = refl
  met-over nodes of same e u i (x ∷ xs) h =
      let behind : xs ≡ drop (i + 1) nodes = ap (drop 1) h ∙ drop-drop 1 i nodes ∙ ap (λ m. drop m nodes) (omega arith) in
      let w = cond (passed x.kind) x.end u in
      by_tests (ltb i e) (ltb i u) _ _ _ (met passed node_at e u (i + 1) xs) (met passed node_at e w (i + 1) xs)
      (same i x xs h) (met-over nodes of same e u (i + 1) xs behind) (met-over nodes of same e w (i + 1) xs behind)
    where
      by_tests : (b c : Bool) (y : B) (us vs : List B) (ps qs : List (ℕ × FlatNode)) → y ≡ of i x
          → us ≡ map (λ c. of c.0 c.1) ps → vs ≡ map (λ c. of c.0 c.1) qs
          → cond b (cond c us (y ∷ vs)) [] ≡ map (λ c. of c.0 c.1) (cond b (cond c ps ((i, x) ∷ qs)) [])
      by_tests true true y us vs ps qs p h g = h
      by_tests true false y us vs ps qs p h g = λ j. p j ∷ g j
      by_tests false c y us vs ps qs p h g = refl

module _ {B : Type 0} (at : ℕ → FlatNode → List FlatNode → B) where
  mutual
    -- a tree before the index u is passed over
    passes : (e u n : ℕ) (t : Rose FlatKind) (rest : List FlatNode) → n + size t ≤ u → u ≤ e
        → kids at e u n (flat flat_node n t rest) ≡ kids at e u (n + size t) rest
    passes e u n (node k ts) rest h g =
        rw (lt-ltb n e (omega arith), lt-ltb n u (omega arith))
        (passes-each e u (n + 1) ts rest (omega arith) g ∙ ap (λ m. kids at e u m rest) (omega arith))

    passes-each : (e u n : ℕ) (ts : Roses FlatKind) (rest : List FlatNode) → n + sizes ts ≤ u → u ≤ e
        → kids at e u n (flats flat_node n ts rest) ≡ kids at e u (n + sizes ts) rest
    passes-each e u n none rest h g = ap (λ m. kids at e u m rest) (omega arith)
    passes-each e u n (more t ts) rest h g =
        passes e u n t (flats flat_node (n + size t) ts rest) (omega arith) g
        ∙ passes-each e u (n + size t) ts rest (omega arith) g ∙ ap (λ m. kids at e u m rest) (omega arith)

  abbrev Same : (FlatKind → Roses FlatKind → B) → Type 0
  Same of =
      (n : ℕ) (k : FlatKind) (ts : Roses FlatKind) (rest : List FlatNode)
      → at n (flat_node k (n + suc (sizes ts))) (flats flat_node (n + 1) ts rest) ≡ of k ts

  module _ (of : FlatKind → Roses FlatKind → B) (same : Same of) where
    kids-each : (e n : ℕ) (ts : Roses FlatKind) (rest : List FlatNode) → n + sizes ts ≤ e
        → kids at e n n (flats flat_node n ts rest)
        ≡ kids_of of ts ++ kids at e (n + sizes ts) (n + sizes ts) rest
    kids-each e n none rest h = ap (λ m. kids at e m m rest) (omega arith)
    kids-each e n (more (node k us) ts) rest h =
        let u = n + suc (sizes us) in
        let m = n + (suc (sizes us) + sizes ts) in
        let behind = flats flat_node u ts rest in
        let over : kids at e u (n + 1) (flats flat_node (n + 1) us behind) ≡ kids at e u u behind =
        passes-each e u (n + 1) us behind (omega arith) (omega arith)
        ∙ ap (λ j. kids at e u j behind) (let p : n + 1 + sizes us ≡ u = omega arith in p) in
        let others : kids at e u u behind ≡ kids_of of ts ++ kids at e m m rest =
        kids-each e u ts rest (omega arith)
        ∙ ap (λ j. kids_of of ts ++ kids at e j j rest) (let p : u + sizes ts ≡ m = omega arith in p) in
        let tail = over ∙ others in
        rw (lt-ltb n e (omega arith), le-ltb n n (omega arith)) (λ i. same n k us behind i ∷ tail i)

    -- what the list says of a node's children is what its tree says
    pub kids-below : (n : ℕ) (k : FlatKind) (ts : Roses FlatKind) (rest : List FlatNode)
        → kids_behind at n (flat_node k (n + suc (sizes ts))) (flats flat_node (n + 1) ts rest) ≡ kids_of of ts
    kids-below n k ts rest =
        kids-each (n + suc (sizes ts)) (n + 1) ts rest (omega arith)
        ∙ ap (λ l. kids_of of ts ++ l)
        (met-stop all_passed at (n + suc (sizes ts)) (n + 1 + sizes ts) (n + 1 + sizes ts) rest (omega arith))
        ∙ simp append-nil
