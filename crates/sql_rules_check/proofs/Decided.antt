-- What the loops answer decides what is said of the parts of a statement.
use Rattle.std.proofs.Common.{◌≡◌, ℕ, suc, ◌+◌, ◌||◌, List, [], ◌∷◌, Bool, refl, sym, ap, ◌∙◌}
use Rattle.std.specs.Bool.{Decides}
use Rattle.std.specs.List.{list_any}
use Rattle.std.proofs.lemmas.Bool.Decides.{Decides-at, Decides-like}
use Rattle.sql_flat_law.specs.Rose.{Roses, none, sizes, flats}
use Rattle.sql_flat_law.specs.Folds.{Site, folded_each, sites}
use Rattle.sql_node.specs.Tree.{Statement}
use Rattle.sql_rules.specs.Lists.{AnyOf}
use Rattle.sql_rules.specs.Scope.{View, Place, Part, parts}
use Rattle.sql_rules.specs.Types.{Given}
use Rattle.sql_rules.proofs.Loops.{any-decides, any_each}
use Rattle.sql_flat.specs.Flat.{flat_node, flat_of, rose}
use Rattle.sql_flat.specs.declared.kind.Combining.{Combining}
use Rattle.sql_flat.specs.declared.kind.FlatKind.{FlatKind}
use Rattle.sql_flat.specs.declared.kind.FlatNode.{FlatNode}
use Rattle.sql_flat.specs.declared.kind.Selecting.{Selecting}
use Rattle.sql_rules_check.specs.inside.Ahead.{any_ahead}
use Rattle.sql_rules_check.specs.inside.Known.{Known, known_below}
use Rattle.sql_rules_check.specs.inside.Lists.{kind_of, end_of}
use Rattle.sql_rules_check.specs.inside.Tested.{any_from}
use Rattle.sql_rules_check.specs.inside.Typing.{typing}
use Rattle.sql_rules_check.specs.inside.Views.{Views}
use Rattle.sql_rules_check.specs.inside.Walks.{walked}
use Rattle.sql_rules_check.proofs.Ahead.{any-whole, over-sites}
use Rattle.sql_rules_check.proofs.Around.{same-sites, seen_at, walks-statement}
use Rattle.sql_rules_check.proofs.Seen.{Out, PartOut, of_kind, statement-seen}
use Rattle.sql_rules_check.proofs.Tested.{any-flat, any-sites}

abbrev pub outside : Known
outside = record { clause = []; condition = []; kids = none }

-- a test that asks for no child
pub each-alone : (test : FlatKind → Bool) (i : ℕ) (xs : List FlatNode)
    → any_from typing (λ k gs. test k) kind_of end_of i xs ≡ list_any (λ x. test x.kind) xs
each-alone test i [] = refl
each-alone test i (x ∷ xs) = ap (λ b. test x.kind || b) (each-alone test (i + 1) xs)

module _ (X : View → FlatKind → Roses FlatKind → Type 0) (Y : Place → Roses FlatKind → Type 0)
    (O D : Roses FlatKind → Type 0) (S : View → Views → Selecting → Roses FlatKind → Type 0)
    (C : Combining → Roses FlatKind → Type 0) (Z : FlatKind → Type 0) where
  -- the same of the rule that the parts break
  pub decides-rule : (R : Part → Type 0) (to : (p : Part) → PartOut X Y O D S C Z p → R p)
      (back : (p : Part) → R p → PartOut X Y O D S C Z p) (ps : List Part) (b : Bool)
      → Decides b (AnyOf (PartOut X Y O D S C Z) ps) → Decides b (AnyOf R ps)
  decides-rule R to back ps b d =
      Decides-like b (any_each (PartOut X Y O D S C Z) R to ps) (any_each R (PartOut X Y O D S C Z) back ps) d

  -- a loop from the last node on
  pub decides-folded : {A : Type 0} (over : FlatKind → List A → A) (test : FlatKind → List A → Bool)
      → ((v : View) (k : FlatKind) (w : Known)
      → Decides (test k (folded_each over w.kids)) (of_kind X Y O D S C Z v k w))
      → (s : Statement) (nodes : List FlatNode) (b : Bool) → nodes ≡ flat_of s
      → b ≡ any_from over test kind_of end_of 0 nodes → Decides b (AnyOf (PartOut X Y O D S C Z) (parts [] s))
  decides-folded over test d s nodes b is h =
      let seen = statement-seen X Y O D S C Z outside s in
      let all = sites known_below outside (rose s) in
      Decides-like b seen.0 seen.1
      (Decides-at b (list_any (λ x. test x.kind (folded_each over x.within.kids)) all)
      (h ∙ ap (any_from over test kind_of end_of 0) is
      ∙ any-flat over test kind_of end_of flat_node (λ _ _. refl) (λ _ _. refl) (rose s)
      ∙ any-sites over test outside (rose s))
      (any-decides (Out X Y O D S C Z) (λ x. test x.kind (folded_each over x.within.kids))
      (λ x. d x.around.clause x.kind x.within) all))

  pub decides-backward : (test : FlatKind → List Given → Bool)
      → ((v : View) (k : FlatKind) (w : Known)
      → Decides (test k (folded_each typing w.kids)) (of_kind X Y O D S C Z v k w))
      → (s : Statement) (nodes : List FlatNode) (b : Bool) → nodes ≡ flat_of s
      → b ≡ any_from typing test kind_of end_of 0 nodes → Decides b (AnyOf (PartOut X Y O D S C Z) (parts [] s))
  decides-backward = decides-folded typing

  -- the loop from the first node on
  pub decides-forward : (test : Site Views FlatKind → Bool)
      → ((x : Site Known FlatKind) → Decides (test (seen_at x)) (Out X Y O D S C Z x))
      → (s : Statement) (nodes : List FlatNode) (b : Bool) → nodes ≡ flat_of s
      → b ≡ list_any test (walked [] 0 nodes) → Decides b (AnyOf (PartOut X Y O D S C Z) (parts [] s))
  decides-forward test d s nodes b is h =
      let seen = statement-seen X Y O D S C Z outside s in
      let all = sites known_below outside (rose s) in
      Decides-like b seen.0 seen.1
      (Decides-at b (list_any (λ x. test (seen_at x)) all)
      (h ∙ ap (λ xs. list_any test (walked [] 0 xs)) is ∙ ap (list_any test) (walks-statement s)
      ∙ same-sites test outside (rose s))
      (any-decides (Out X Y O D S C Z) (λ x. test (seen_at x)) d all))

  -- a test of nodes alone
  pub decides-nodes : (test : FlatKind → Bool)
      → ((v : View) (k : FlatKind) (w : Known) → Decides (test k) (of_kind X Y O D S C Z v k w))
      → (s : Statement) (nodes : List FlatNode) (b : Bool) → nodes ≡ flat_of s
      → b ≡ list_any (λ x. test x.kind) nodes → Decides b (AnyOf (PartOut X Y O D S C Z) (parts [] s))
  decides-nodes test d s nodes b is h =
      decides-backward (λ k gs. test k) d s nodes b is (h ∙ sym (each-alone test 0 nodes))

  -- tests that read ahead
  pub decides-ahead : (test : FlatKind → Roses FlatKind → Bool) (ahead : ℕ → FlatNode → List FlatNode → Bool)
      → ((n : ℕ) (k : FlatKind) (ts : Roses FlatKind) (rest : List FlatNode)
      → ahead n (flat_node k (n + suc (sizes ts))) (flats flat_node (n + 1) ts rest) ≡ test k ts)
      → ((v : View) (k : FlatKind) (w : Known) → Decides (test k w.kids) (of_kind X Y O D S C Z v k w))
      → (s : Statement) (nodes : List FlatNode) (b : Bool) → nodes ≡ flat_of s
      → b ≡ any_ahead ahead 0 nodes → Decides b (AnyOf (PartOut X Y O D S C Z) (parts [] s))
  decides-ahead test ahead same d s nodes b is h =
      let seen = statement-seen X Y O D S C Z outside s in
      let all = sites known_below outside (rose s) in
      Decides-like b seen.0 seen.1
      (Decides-at b (list_any (λ x. test x.kind x.within.kids) all)
      (h ∙ ap (any_ahead ahead 0) is ∙ any-whole test ahead same (rose s) ∙ over-sites test outside (rose s))
      (any-decides (Out X Y O D S C Z) (λ x. test x.kind x.within.kids) (λ x. d x.around.clause x.kind x.within) all))
