-- What the loop from the first node to the last comes to is the sites of the statement's tree.
use Rattle.std.proofs.Common.{◌≡◌, ℕ, suc, ◌+◌, List, [], Bool, true, ◌||◌, refl, sym, ap, ◌∙◌}
use Rattle.std.specs.List.{list_any}
use Rattle.std.proofs.lemmas.Bool.{false≢true}
use Rattle.std.proofs.lemmas.List.Folds.{list_any-append}
use Rattle.sql_flat_law.specs.Rose.{Rose, node, Roses, none, more, sizes, flats}
use Rattle.sql_flat_law.specs.Folds.{Site, sites, sites_of}
use Rattle.sql_flat_law.proofs.Around.{walks-tree}
use Rattle.sql_flat_law.proofs.Forward.{gathers-kids}
use Rattle.sql_node.specs.Tree.{Statement}
use Rattle.sql_flat.specs.Flat.{flat_node, flat_of, rose}
use Rattle.sql_flat.specs.declared.kind.FlatKind.{FlatKind}
use Rattle.sql_flat.specs.declared.kind.FlatKind.TheVariants as K
use Rattle.sql_flat.specs.declared.kind.FlatNode.{FlatNode}
use Rattle.sql_rules_check.specs.inside.Known.{Known, known_below, views}
use Rattle.sql_rules_check.specs.inside.Lists.{kind_of, end_of}
use Rattle.sql_rules_check.specs.inside.Views.{Views, nothing, leaf_at, is_passed, within, below, keeps}
use Rattle.sql_rules_check.specs.inside.Walks.{reads, walked}

keeps-below : (k : FlatKind) (v : Views) (ts : Roses FlatKind) → keeps k ≡ true → below v k ts ≡ v
keeps-below (K.Select s) v ts h = absurd (false≢true h)
keeps-below (K.Join j on) v ts h = absurd (false≢true h)
keeps-below K.Where v ts h = absurd (false≢true h)
keeps-below _ v ts h = refl

reads-below : (v : Views) (n : ℕ) (k : FlatKind) (ts : Roses FlatKind) (rest : List FlatNode)
    → reads v n (flat_node k (n + suc (sizes ts))) (flats flat_node (n + 1) ts rest) ≡ below v k ts
reads-below v n k ts rest =
    ap (within v k)
    (gathers-kids flat_node kind_of end_of leaf_at is_passed (λ _ _. refl) (λ _ _. refl) n ts rest)

pub walks-statement : (s : Statement) → walked [] 0 (flat_of s) ≡ sites below nothing (rose s)
walks-statement s =
    walks-tree flat_node kind_of end_of nothing keeps reads (λ _ _. refl) (λ _ _. refl) below keeps-below reads-below
    (rose s)

-- a site, its children aside
abbrev pub seen_at : Site Known FlatKind → Site Views FlatKind
seen_at s = record { around = views s.around; kind = s.kind; within = views s.within }

module _ (test : Site Views FlatKind → Bool) where
  mutual
    pub same-sites : (v : Known) (t : Rose FlatKind)
        → list_any test (sites below (views v) t) ≡ list_any (λ s. test (seen_at s)) (sites known_below v t)
    same-sites v (node k ts) =
        ap (λ b. test (record { around = views v; kind = k; within = below (views v) k ts }) || b)
        (same-sites-of (known_below v k ts) ts)

    same-sites-of : (v : Known) (ts : Roses FlatKind)
        → list_any test (sites_of below (views v) ts) ≡ list_any (λ s. test (seen_at s)) (sites_of known_below v ts)
    same-sites-of v none = refl
    same-sites-of v (more t ts) =
        list_any-append test (sites below (views v) t) (sites_of below (views v) ts)
        ∙ (λ i. same-sites v t i || same-sites-of v ts i)
        ∙ sym (list_any-append (λ s. test (seen_at s)) (sites known_below v t) (sites_of known_below v ts))
