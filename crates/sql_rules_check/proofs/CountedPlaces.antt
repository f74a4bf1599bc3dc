-- Where each position among the nodes of a statement is counted, so is each of its orders: one that is not would be a node.
use Rattle.std.proofs.Common.{◌≡◌, ◌⊎◌, inl, inr, ℕ, ◌+◌, ◌≤◌, List, [], ◌∷◌, Option, None, Some, subst, arith}
use Rattle.std.proofs.lemmas.Bool.Decides.{leb_tells}
use Rattle.sql_leaf.specs.declared.position.PositionalItem.{PositionalItem}
use Rattle.sql_flat_law.specs.Rose.{Rose, node, Roses, none, more, leaf, roses_of, size, flat, flats}
use Rattle.sql_flat_law.specs.Folds.{Site, sites, sites_of}
use Rattle.sql_node.specs.Tree.{Statement}
use Rattle.sql_rules.specs.Counted.{OrderIsCounted, PartIsCounted, PlacesAreCounted}
use Rattle.sql_rules.specs.Lists.{AnyOf, Each}
use Rattle.sql_rules.specs.Scope.{Part, a_combination, a_select, parts}
use Rattle.sql_rules.proofs.Loops.{any_each, any_split}
use Rattle.sql_flat.specs.Flat.{flat_node, flat_of, rose}
use Rattle.sql_flat.specs.declared.kind.FlatKind.{FlatKind}
use Rattle.sql_flat.specs.declared.kind.FlatKind.TheVariants as K
use Rattle.sql_flat.specs.declared.kind.FlatNode.{FlatNode}
use Rattle.sql_rules_check.specs.inside.Counted.{KindIsCounted}
use Rattle.sql_rules_check.specs.inside.Known.{Known, known_below}
use Rattle.sql_rules_check.proofs.Absent.{Never, NoClause, NoCombination, NoExpr, NoSelect, NoSource}
use Rattle.sql_rules_check.proofs.Decided.{outside}
use Rattle.sql_rules_check.proofs.Seen as seen

-- ---- the nodes of a tree

abbrev mutual
  TreeIsCounted : Rose FlatKind → Type 0
  TreeIsCounted (node k ts) = KindIsCounted k × TreesAreCounted ts

  TreesAreCounted : Roses FlatKind → Type 0
  TreesAreCounted none = Unit {0}
  TreesAreCounted (more t ts) = TreeIsCounted t × TreesAreCounted ts

abbrev NodesAreCounted : List FlatNode → Type 0
NodesAreCounted xs = Each (λ x. KindIsCounted x.kind) xs

mutual
  tree-counted : (n : ℕ) (t : Rose FlatKind) (rest : List FlatNode) → NodesAreCounted (flat flat_node n t rest)
      → TreeIsCounted t × NodesAreCounted rest
  tree-counted n (node k ts) rest h =
      let r = trees-counted (n + 1) ts rest h.1 in ((h.0, r.0), r.1)

  trees-counted : (n : ℕ) (ts : Roses FlatKind) (rest : List FlatNode) → NodesAreCounted (flats flat_node n ts rest)
      → TreesAreCounted ts × NodesAreCounted rest
  trees-counted n none rest h = (tt, h)
  trees-counted n (more t ts) rest h =
      let r = tree-counted n t (flats flat_node (n + size t) ts rest) h in
      let s = trees-counted (n + size t) ts rest r.1 in
      ((r.0, s.0), s.1)

-- ---- an order that is not counted

abbrev Uncounted : Roses FlatKind → Type 0
Uncounted ts = TreesAreCounted ts → ⊥

abbrev Out : Site Known FlatKind → Type 0
Out = seen.Out NoExpr NoClause Never Uncounted NoSelect NoCombination NoSource

none-out : (k : FlatKind) (v w : Known) → TreesAreCounted w.kids
    → seen.of_kind NoExpr NoClause Never Uncounted NoSelect NoCombination NoSource v.clause k w → ⊥
none-out K.Positions v w h n = n h
none-out _ v w h n = n

mutual
  no-site : (v : Known) (t : Rose FlatKind) → TreeIsCounted t → AnyOf Out (sites known_below v t) → ⊥
  no-site v (node k ts) h (inl p) = none-out k v (known_below v k ts) h.1 p
  no-site v (node k ts) h (inr q) = no-site-of (known_below v k ts) ts h.1 q

  no-site-of : (v : Known) (ts : Roses FlatKind) → TreesAreCounted ts → AnyOf Out (sites_of known_below v ts) → ⊥
  no-site-of v none h p = p
  no-site-of v (more t ts) h p =
      elim (any_split Out (sites known_below v t) (sites_of known_below v ts) p) [
        | inl q ↦ no-site v t h.0 q
        | inr q ↦ no-site-of v ts h.1 q
      ]

-- ---- the parts of a statement

-- what is not uncounted is counted
counted-or-not : (n : ℕ) → (n ≤ 4294967295) ⊎ ((n ≤ 4294967295) → ⊥)
counted-or-not n = elim (leb_tells n 4294967295) [ inl p ↦ inl p.1 | inr p ↦ inr (λ h. omega arith) ]

items-or-not : (ps : List PositionalItem)
    → Each (λ p. p.column.0 ≤ 4294967295) ps ⊎ (Each (λ p. p.column.0 ≤ 4294967295) ps → ⊥)
items-or-not [] = inl tt
items-or-not (p ∷ ps) =
    elim (counted-or-not p.column.0) [
      | inl h ↦ elim (items-or-not ps) [ inl r ↦ inl (h, r) | inr n ↦ inr (λ e. n e.1) ]
      | inr n ↦ inr (λ e. n e.0)
    ]

part-or-not : (p : Part) → PartIsCounted p ⊎ (PartIsCounted p → ⊥)
part-or-not (a_select outer s) = inl tt
part-or-not (a_combination c) = by_order c.order
  where
    by_order : (o : Option (List PositionalItem)) → OrderIsCounted o ⊎ (OrderIsCounted o → ⊥)
    by_order None = inl tt
    by_order (Some ps) = items-or-not ps

none-uncounted : (ps : List Part) → (AnyOf (λ p. PartIsCounted p → ⊥) ps → ⊥) → Each PartIsCounted ps
none-uncounted [] h = tt
none-uncounted (p ∷ ps) h =
    (elim (part-or-not p) [ inl c ↦ c | inr n ↦ absurd (h (inl n)) ], none-uncounted ps (λ r. h (inr r)))

positions-counted : (ps : List PositionalItem) → TreesAreCounted (roses_of (λ p. leaf (K.Position p)) ps)
    → Each (λ p. p.column.0 ≤ 4294967295) ps
positions-counted [] h = tt
positions-counted (p ∷ ps) h = (h.0.0, positions-counted ps h.1)

part-out : (p : Part) → (PartIsCounted p → ⊥)
    → seen.PartOut NoExpr NoClause Never Uncounted NoSelect NoCombination NoSource p
part-out (a_select outer s) n = absurd (n tt)
part-out (a_combination c) n = inr (by_order c.order n)
  where
    by_order : (o : Option (List PositionalItem)) → (OrderIsCounted o → ⊥)
        → seen.OfPositions NoExpr NoClause Never Uncounted NoSelect NoCombination NoSource o
    by_order None m = m tt
    by_order (Some ps) m = λ h. m (positions-counted ps h)

pub places-counted : (s : Statement) (nodes : List FlatNode) → nodes ≡ flat_of s
    → Each (λ x. KindIsCounted x.kind) nodes → PlacesAreCounted s
places-counted s nodes is h =
    let all = tree-counted 0 (rose s) [] (subst NodesAreCounted is h) in
    none-uncounted (parts [] s)
    (λ r. no-site outside (rose s) all.0
    ((seen.statement-seen NoExpr NoClause Never Uncounted NoSelect NoCombination NoSource outside s).1
    (any_each (λ p. PartIsCounted p → ⊥)
    (seen.PartOut NoExpr NoClause Never Uncounted NoSelect NoCombination NoSource) part-out (parts [] s) r)))
