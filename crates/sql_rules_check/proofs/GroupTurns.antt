-- What the loops over a select statement's clauses give, and over the nodes of one.
use Rattle.std.proofs.Common.{◌≡◌, ℕ, suc, ◌+◌, ◌||◌, Bool, List, [], ◌∷◌, ◌++◌, Option, Some, option_map, map, drop, refl, sym, ap, ◌∙◌}
use Rattle.std.specs.List.{flat_map, list_any}
use Rattle.std.proofs.lemmas.List.Folds.{list_any-append}
use Rattle.sql_flat_law.specs.Rose.{Roses, node, sizes, flats}
use Rattle.sql_flat_law.specs.Forward.{gather}
use Rattle.sql_flat_law.proofs.Forward.{gathers-tree}
use Rattle.sql_node.specs.Tree.{Origin}
use Rattle.sql_rules.specs.Verdicts as v
use Rattle.sql_rules.specs.Verdicts.{Field, holds_column, mix}
use Rattle.sql_flat.specs.Flat.{flat_node}
use Rattle.sql_flat.specs.declared.kind.FlatKind.{FlatKind}
use Rattle.sql_flat.specs.declared.kind.FlatKind.TheVariants as K
use Rattle.sql_flat.specs.declared.kind.FlatNode.{FlatNode}
use Rattle.sql_rules_check.specs.inside.Grouping.{Piece, Sums, adding, all_give, field_at, field_passed, fields_from, group_in, group_or, is_aggregate, kind_gives, misgrouped, misgrouped_at, misgrouped_by, own_at, own_from, own_passed, piece_at, piece_of, summed}
use Rattle.sql_rules_check.specs.inside.Kids.{all_passed, kids_from, nodes_from}
use Rattle.sql_rules_check.specs.inside.Lists.{kind_of, end_of}
use Rattle.sql_rules_check.proofs.Ahead.{behind-kids, gathered-over}
use Rattle.sql_rules_check.proofs.Kids.{kids-below, met-over}

pub mix-unit : (a : v.Verdict) → mix a v.Never ≡ a
mix-unit v.No = refl
mix-unit v.Yes = refl
mix-unit v.Never = refl
mix-unit v.NoVerdict = refl

pub mix-mix : (a b c : v.Verdict) → mix (mix a b) c ≡ mix a (mix b c)
mix-mix v.No v.No v.No = refl
mix-mix v.No v.No v.Yes = refl
mix-mix v.No v.No v.Never = refl
mix-mix v.No v.No v.NoVerdict = refl
mix-mix v.No v.Yes v.No = refl
mix-mix v.No v.Yes v.Yes = refl
mix-mix v.No v.Yes v.Never = refl
mix-mix v.No v.Yes v.NoVerdict = refl
mix-mix v.No v.Never c = refl
mix-mix v.No v.NoVerdict c = refl
mix-mix v.Yes v.No v.No = refl
mix-mix v.Yes v.No v.Yes = refl
mix-mix v.Yes v.No v.Never = refl
mix-mix v.Yes v.No v.NoVerdict = refl
mix-mix v.Yes v.Yes v.No = refl
mix-mix v.Yes v.Yes v.Yes = refl
mix-mix v.Yes v.Yes v.Never = refl
mix-mix v.Yes v.Yes v.NoVerdict = refl
mix-mix v.Yes v.Never c = refl
mix-mix v.Yes v.NoVerdict c = refl
mix-mix v.Never b c = refl
mix-mix v.NoVerdict b c = refl

other-group : (k : FlatKind) (fs : List Field) (rest : Option (List Field)) → (k ≡ K.GroupBy → ⊥)
    → group_or k fs rest ≡ rest
other-group K.GroupBy fs rest other = absurd (other refl)
other-group _ fs rest other = refl

-- ---- what the loops over the nodes of a list give

abbrev pub kinds_of : List (ℕ × FlatNode) → List FlatKind
kinds_of = map (λ c. c.1.kind)

-- of one more node
pub give-more : (g : Option (List Field)) (cs : List (ℕ × FlatNode)) (c : ℕ × FlatNode)
    → mix (all_give g (kinds_of cs)) (kind_gives g c.1.kind) ≡ all_give g (kinds_of (cs ++ c ∷ []))
give-more g [] c = sym (mix-unit (kind_gives g c.1.kind))
give-more g (d ∷ cs) c =
    mix-mix (kind_gives g d.1.kind) (all_give g (kinds_of cs)) (kind_gives g c.1.kind)
    ∙ ap (mix (kind_gives g d.1.kind)) (give-more g cs c)

any-flat : {X Y : Type 0} (test : Y → Bool) (f : X → List Y) (xs : List X)
    → list_any (λ x. list_any test (f x)) xs ≡ list_any test (flat_map f xs)
any-flat test f [] = refl
any-flat test f (x ∷ xs) =
    ap (λ b. list_any test (f x) || b) (any-flat test f xs) ∙ sym (list_any-append test (f x) (flat_map f xs))

-- a clause of a list by its index
abbrev pub piece_in : List FlatNode → ℕ × FlatNode → Piece
piece_in nodes c = record { kind = c.1.kind; own = own_from c.1.end c.0 nodes; fields = fields_from c.1.end c.0 nodes }

singly : (cs : List (ℕ × FlatNode)) → kinds_of cs ≡ flat_map (λ c. own_at c.1.kind) cs
singly [] = refl
singly (c ∷ cs) = ap (λ ks. c.1.kind ∷ ks) (singly cs)

any-kind : (cs : List (ℕ × FlatNode)) → list_any (λ c. is_aggregate c.1.kind) cs ≡ list_any is_aggregate (kinds_of cs)
any-kind [] = refl
any-kind (c ∷ cs) = ap (λ b. is_aggregate c.1.kind || b) (any-kind cs)

module _ (e p : ℕ) (nodes : List FlatNode) where
  pub own-over : kinds_of (nodes_from own_passed e p nodes) ≡ own_from e p nodes
  own-over = singly (nodes_from own_passed e p nodes) ∙ gathered-over own_at own_passed e p nodes

  pub aggregates-over : list_any (λ c. is_aggregate c.1.kind) (nodes_from own_passed e p nodes)
      ≡ list_any is_aggregate (own_from e p nodes)
  aggregates-over = any-kind (nodes_from own_passed e p nodes) ∙ ap (list_any is_aggregate) own-over

  pub holds-over : (o : Origin) (name : List ℕ)
      → list_any (λ c. holds_column (field_at c.1.kind) o name) (nodes_from field_passed e p nodes)
      ≡ holds_column (fields_from e p nodes) o name
  holds-over o name =
      any-flat _ (λ c. field_at c.1.kind) (nodes_from field_passed e p nodes)
      ∙ ap (λ fs. holds_column fs o name) (gathered-over field_at field_passed e p nodes)

  abbrev piece_over : ℕ → FlatNode → List FlatNode → Piece
  piece_over i x l = record {
    kind = x.kind;
    own = gather kind_of end_of own_at own_passed x.end i i l;
    fields = gather kind_of end_of field_at field_passed x.end i i l;
  }

  pub pieces-over : map (piece_in nodes) (nodes_from all_passed e p nodes) ≡ kids_from piece_at e p nodes
  pieces-over =
      sym (met-over all_passed piece_at nodes (λ i x. piece_in nodes (i, x)) (λ i x xs h. ap (piece_over i x) h) e p p (drop p nodes) refl)

module _ (nodes : List FlatNode) (cs ds : List (ℕ × FlatNode)) (c : ℕ × FlatNode) (is : cs ≡ c ∷ ds) where
  -- after a clause that is no GROUP BY
  pub group-later : (all : Option (List Field)) → (c.1.kind ≡ K.GroupBy → ⊥) → group_in (map (piece_in nodes) cs) ≡ all
      → group_in (map (piece_in nodes) ds) ≡ all
  group-later all other held =
      sym (other-group c.1.kind _ (group_in (map (piece_in nodes) ds)) other)
      ∙ ap (λ l. group_in (map (piece_in nodes) l)) (sym is) ∙ held

  -- and at one
  pub group-here : (all : Option (List Field)) → c.1.kind ≡ K.GroupBy → group_in (map (piece_in nodes) cs) ≡ all
      → Some (fields_from c.1.end c.0 nodes) ≡ all
  group-here all it held =
      ap (λ k. group_or k (fields_from c.1.end c.0 nodes) (group_in (map (piece_in nodes) ds))) (sym it)
      ∙ ap (λ l. group_in (map (piece_in nodes) l)) (sym is) ∙ held

  pub sums-later : (g : Option (List Field)) (so_far more all : Sums)
      → more ≡ adding g so_far c.1.kind (own_from c.1.end c.0 nodes)
      → summed g so_far (map (piece_in nodes) cs) ≡ all → summed g more (map (piece_in nodes) ds) ≡ all
  sums-later g so_far more all added held =
      ap (λ s. summed g s (map (piece_in nodes) ds)) added
      ∙ ap (λ l. summed g so_far (map (piece_in nodes) l)) (sym is) ∙ held

pub ruleset grouping = (pieces-over, group-later, group-here, sums-later)

-- ---- what is read ahead is what the tree has

piece-same : (n : ℕ) (k : FlatKind) (ts : Roses FlatKind) (rest : List FlatNode)
    → piece_at n (flat_node k (n + suc (sizes ts))) (flats flat_node (n + 1) ts rest) ≡ piece_of k ts
piece-same n k ts rest =
    let t = node k ts in
    let o = gathers-tree flat_node kind_of end_of own_at own_passed (λ _ _. refl) (λ _ _. refl) n t rest in
    let f = gathers-tree flat_node kind_of end_of field_at field_passed (λ _ _. refl) (λ _ _. refl) n t rest in
    λ i. record { kind = k; own = o i; fields = f i }

pub misgrouped-same : (n : ℕ) (k : FlatKind) (ts : Roses FlatKind) (rest : List FlatNode)
    → misgrouped_at n (flat_node k (n + suc (sizes ts))) (flats flat_node (n + 1) ts rest) ≡ misgrouped k ts
misgrouped-same n k ts rest =
    let ps = kids-below piece_at piece_of piece-same n k ts rest in
    let ks = behind-kids own_at own_passed n k ts rest in λ i. misgrouped_by k (ps i) (ks i)
