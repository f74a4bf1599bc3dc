-- What is read ahead in a list is what is below a node of its tree.
use Rattle.std.proofs.Common.{◌≡◌, ℕ, suc, ◌+◌, ◌-◌, List, [], ◌∷◌, ◌++◌, map, take, refl, sym, ap, ◌∙◌, append_assoc, append-nil, arith}
use Rattle.std.proofs.lemmas.List.{map-append}
use Rattle.sql_dialect.specs.declared.backend.Dialect.{Dialect}
use Rattle.sql_flat_law.specs.Rose.{Rose, Roses, node, none, more, size, sizes, flat, flats}
use Rattle.sql_flat.specs.Flat.{flat_node}
use Rattle.sql_flat.specs.declared.kind.FlatKind.{FlatKind}
use Rattle.sql_flat.specs.declared.kind.FlatNode.{FlatNode}
use Rattle.sql_flat_text.specs.inside.Turns.{reads}
use Rattle.sql_flat_text.specs.inside.Writing.{kinds, kinds_of, whole, whole_of}
use Rattle.sql_flat_text.specs.Steps.{ends_in_values, is_values, kind_of}

-- ---- the last of a list

ends-kind : (ks : List FlatKind) (k : FlatKind) → ends_in_values (ks ++ k ∷ []) ≡ is_values k
ends-kind [] k = refl
ends-kind (x ∷ []) k = refl
ends-kind (x ∷ (y ∷ ks)) k = ends-kind (y ∷ ks) k

pub ends-last : (xs ys : List FlatNode) (x : FlatNode) → xs ≡ ys ++ x ∷ [] → ends_in_values (map kind_of xs)
    ≡ is_values x.kind
ends-last xs ys x is =
    ap (λ l. ends_in_values (map kind_of l)) is
    ∙ ap ends_in_values (map-append kind_of ys (x ∷ [])) ∙ ends-kind (map kind_of ys) x.kind

pub ruleset lasts = (ends-last)

-- ---- the nodes below another

mutual
  tree-kinds : (m : ℕ) (t : Rose FlatKind) (rest : List FlatNode) (j : ℕ)
      → map kind_of (take (size t + j) (flat flat_node m t rest)) ≡ kinds t ++ map kind_of (take j rest)
  tree-kinds m (node k ts) rest j =
      let e : suc (sizes ts) + j ≡ suc (sizes ts + j) = omega arith in
      ap (λ n. map kind_of (take n (flat flat_node m (node k ts) rest))) e
      ∙ ap (λ l. k ∷ l) (trees-kinds (m + 1) ts rest j)

  trees-kinds : (m : ℕ) (ts : Roses FlatKind) (rest : List FlatNode) (j : ℕ)
      → map kind_of (take (sizes ts + j) (flats flat_node m ts rest)) ≡ kinds_of ts ++ map kind_of (take j rest)
  trees-kinds m none rest j = ap (λ n. map kind_of (take n rest)) (omega arith)
  trees-kinds m (more t ts) rest j =
      let e : size t + sizes ts + j ≡ size t + (sizes ts + j) = omega arith in
      ap (λ n. map kind_of (take n (flat flat_node m t (flats flat_node (m + size t) ts rest)))) e
      ∙ tree-kinds m t (flats flat_node (m + size t) ts rest) (sizes ts + j)
      ∙ ap (λ l. kinds t ++ l) (trees-kinds (m + size t) ts rest j)
      ∙ sym (append_assoc (kinds t) (kinds_of ts) (map kind_of (take j rest)))

pub reads-whole : (d : Dialect) (n : ℕ) (k : FlatKind) (ts : Roses FlatKind) (rest : List FlatNode)
    → reads d n (flat_node k (n + suc (sizes ts))) (flats flat_node (n + 1) ts rest) ≡ whole d k ts
reads-whole d n k ts rest =
    let e : n + suc (sizes ts) - (n + 1) ≡ sizes ts + 0 = omega arith in
    ap (λ j. whole_of d k (map kind_of (take j (flats flat_node (n + 1) ts rest)))) e
    ∙ ap (whole_of d k) (trees-kinds (n + 1) ts rest 0 ∙ append-nil (kinds_of ts))
