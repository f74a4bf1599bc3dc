-- The words of a list of nodes are those of its trees.
use Rattle.std.proofs.Common.{◌≡◌, ℕ, suc, ◌+◌, ◌<◌, ◌≤◌, Bool, cond, List, [], ◌∷◌, ◌++◌, refl, sym, ap, ◌∙◌, arith, append_assoc, append-nil, ltb}
use Rattle.std.proofs.lemmas.Bool.{lt-ltb, le-ltb}
use Rattle.sql_flat_law.specs.Opened.{still_open}
use Rattle.sql_flat_law.specs.Rose.{Rose, node, Roses, none, more, size, sizes, flat, flats}
use Rattle.sql_flat.specs.Flat.{flat_node}
use Rattle.sql_flat.specs.declared.kind.FlatKind.{FlatKind}
use Rattle.sql_flat.specs.declared.kind.FlatNode.{FlatNode}
use Rattle.sql_rules_check.specs.declared.order.Standing.{Standing}
use Rattle.sql_rules_check.specs.declared.order.Standing.TheVariants.{Over}
use Rattle.sql_rules_check.specs.inside.Words.{Nest, below, chosen_words, clause_at, clause_of, disordered, disordered_at, disordered_by, is_distinct_on, is_order_by, standing_in, visited, word_at, words, words_each, words_from}
use Rattle.sql_rules_check.proofs.Kids.{kids-below}

-- all end at e or later
abbrev Covers : ℕ → Nest → Type 0
Covers e [] = Unit {0}
Covers e (p ∷ σ) = e ≤ p.0 × Covers e σ

covers-open : (e i : ℕ) (σ : Nest) → Covers e σ → i < e → still_open i σ ≡ σ
covers-open e i [] c h = refl
covers-open e i (p ∷ σ) c h = rw (lt-ltb i p.0 (omega arith)) refl

covers-less : (e d : ℕ) (σ : Nest) → Covers e σ → d ≤ e → Covers d σ
covers-less e d [] c h = tt
covers-less e d (p ∷ σ) c h = (omega arith, covers-less e d σ c.1 h)

same-open : (e i : ℕ) (xs : List FlatNode) (σ τ : Nest) → still_open i σ ≡ still_open i τ
    → words_from σ e i xs ≡ words_from τ e i xs
same-open e i [] σ τ h = refl
same-open e i (x ∷ xs) σ τ h =
    ap (λ ρ. cond (ltb i e) (visited x (λ υ. words_from υ e (i + 1) xs) ρ) []) h

-- a node that has ended is as if it had not been entered
left : (e i : ℕ) (s : Standing) (σ : Nest) (xs : List FlatNode) → words_from ((i, s) ∷ σ) e i xs ≡ words_from σ e i xs
left e i s σ xs = same-open e i xs ((i, s) ∷ σ) σ (rw (le-ltb i i (omega arith)) refl)

mutual
  words-tree : (e m n : ℕ) (t : Rose FlatKind) (rest : List FlatNode) (σ : Nest) → Covers m σ → n + size t ≤ m
      → n + size t ≤ e
      → words_from σ e n (flat flat_node n t rest) ≡ words (standing_in σ) t ++ words_from σ e (n + size t) rest
  words-tree e m n (node k ts) rest σ c h g =
      let i = n + suc (sizes ts) in
      let s = below (standing_in σ) k in
      rw (lt-ltb n e (omega arith), covers-open m n σ c (omega arith))
      (ap (λ l. word_at (standing_in σ) k ++ l)
      (words-trees e i (n + 1) ts rest ((i, s) ∷ σ) (omega arith, covers-less m i σ c h) (omega arith) (omega arith)
      ∙ ap (λ j. words_each s ts ++ words_from ((i, s) ∷ σ) e j rest) (omega arith)
      ∙ ap (λ l. words_each s ts ++ l) (left e i s σ rest))
      ∙ sym (append_assoc (word_at (standing_in σ) k) (words_each s ts) (words_from σ e i rest)))

  words-trees : (e m n : ℕ) (ts : Roses FlatKind) (rest : List FlatNode) (σ : Nest) → Covers m σ → n + sizes ts ≤ m
      → n + sizes ts ≤ e
      → words_from σ e n (flats flat_node n ts rest) ≡ words_each (standing_in σ) ts ++ words_from σ e (n + sizes ts) rest
  words-trees e m n none rest σ c h g = ap (λ j. words_from σ e j rest) (omega arith)
  words-trees e m n (more t ts) rest σ c h g =
      words-tree e m n t (flats flat_node (n + size t) ts rest) σ c (omega arith) (omega arith)
      ∙ ap (λ l. words (standing_in σ) t ++ l)
      (words-trees e m (n + size t) ts rest σ c (omega arith) (omega arith)
      ∙ ap (λ j. words_each (standing_in σ) ts ++ words_from σ e j rest) (omega arith))
      ∙ sym (append_assoc (words (standing_in σ) t) (words_each (standing_in σ) ts)
      (words_from σ e (n + (size t + sizes ts)) rest))

pub words-stop : (σ : Nest) (e i : ℕ) (xs : List FlatNode) → e ≤ i → words_from σ e i xs ≡ []
words-stop σ e i [] h = refl
words-stop σ e i (x ∷ xs) h = rw (le-ltb i e h) refl

-- of the children of a clause
words-kids : (n : ℕ) (ts : Roses FlatKind) (rest : List FlatNode)
    → words_from [] (n + suc (sizes ts)) (n + 1) (flats flat_node (n + 1) ts rest) ≡ words_each (Over 0) ts
words-kids n ts rest =
    let e = n + suc (sizes ts) in
    words-trees e e (n + 1) ts rest [] tt (omega arith) (omega arith)
    ∙ ap (λ l. words_each (Over 0) ts ++ l) (words-stop [] e (n + 1 + sizes ts) rest (omega arith))
    ∙ append-nil (words_each (Over 0) ts)

-- ---- the children of a select statement

same-clause : (n : ℕ) (k : FlatKind) (ts : Roses FlatKind) (rest : List FlatNode)
    → clause_at n (flat_node k (n + suc (sizes ts))) (flats flat_node (n + 1) ts rest) ≡ clause_of k ts
same-clause n k ts rest = λ i. (k, words-kids n ts rest i)

pub same-test : (n : ℕ) (k : FlatKind) (ts : Roses FlatKind) (rest : List FlatNode)
    → disordered_at n (flat_node k (n + suc (sizes ts))) (flats flat_node (n + 1) ts rest) ≡ disordered k ts
same-test n k ts rest =
    let ps = kids-below clause_at clause_of same-clause n k ts rest in
    λ i. disordered_by k (chosen_words is_distinct_on (ps i)) (chosen_words is_order_by (ps i))
