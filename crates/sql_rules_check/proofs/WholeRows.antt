-- Where no node is a left outer join no row is lacking, and so no select statement lacks a nullable.
use Rattle.std.proofs.Common.{◌≡◌, ℕ, ◌+◌, List, [], ◌∷◌, ◌++◌, Bool, true, false, ◌&&◌, cond, ltb, map, refl}
use Rattle.std.proofs.lemmas.Bool.{and_left, and_right, or_from, or_parts, true≢false}
use Rattle.sql_leaf.specs.declared.table_source.JoinKind.TheVariants.{Inner, LeftOuter}
use Rattle.sql_flat_law.specs.Backward.{run}
use Rattle.sql_flat_law.specs.Finished.{before, first}
use Rattle.sql_node.specs.Tree.{Origin}
use Rattle.sql_origin.specs.Origins.{same_origin}
use Rattle.sql_rules.specs.Lists.{Each}
use Rattle.sql_rules.specs.Scope.{View}
use Rattle.sql_flat.specs.declared.kind.FlatKind.{FlatKind}
use Rattle.sql_flat.specs.declared.kind.FlatKind.TheVariants as K
use Rattle.sql_flat.specs.declared.kind.FlatNode.{FlatNode}
use Rattle.sql_rules_check.specs.inside.Lists.{kind_of, end_of}
use Rattle.sql_rules_check.specs.inside.Padding.{Held, PaddedLeaf, all_bare, all_leaves, any_lacking, first_held, has_left_join, holding, is_lacking, is_left_join, lacks_nullable, lacks_row, other_held, under}
use Rattle.sql_rules_check.specs.inside.PaddingStacks.{any_lacking_from}

-- no leaf is padded
abbrev Whole : List PaddedLeaf → Type 0
Whole ls = Each (λ l. l.padded ≡ false) ls

abbrev AllWhole : List Held → Type 0
AllWhole hs = Each (λ h. Whole h.leaves) hs

whole-append : (ls ks : List PaddedLeaf) → Whole ls → Whole ks → Whole (ls ++ ks)
whole-append [] ks h g = g
whole-append (l ∷ ls) ks h g = (h.0, whole-append ls ks h.1 g)

whole-inner : (ls : List PaddedLeaf) → Whole ls → Whole (map (under Inner) ls)
whole-inner [] h = h
whole-inner (l ∷ ls) h = (h.0, whole-inner ls h.1)

whole-first : (hs : List Held) → AllWhole hs → Whole (first_held hs).leaves
whole-first [] h = h
whole-first (x ∷ hs) h = h.0

whole-other : (hs : List Held) → AllWhole hs → AllWhole (other_held hs)
whole-other [] h = h
whole-other (x ∷ hs) h = h.1

whole-all : (hs : List Held) → AllWhole hs → Whole (all_leaves hs)
whole-all [] h = h
whole-all (x ∷ hs) h = whole-append x.leaves (all_leaves hs) h.0 (whole-all hs h.1)

whole-held : (k : FlatKind) (hs : List Held) → is_left_join k ≡ false → AllWhole hs → Whole (holding k hs).leaves
whole-held (K.Table s) hs n h = (refl, tt)
whole-held (K.Alias a) hs n h = (refl, tt)
whole-held (K.Join Inner on) hs n h =
    whole-append (first_held hs).leaves (map (under Inner) (first_held (other_held hs)).leaves) (whole-first hs h)
    (whole-inner (first_held (other_held hs)).leaves (whole-first (other_held hs) (whole-other hs h)))
whole-held (K.Join LeftOuter on) hs n h = absurd (true≢false n)
whole-held K.From hs n h = whole-first hs h
whole-held _ hs n h = tt

none-lacking : (ls : List PaddedLeaf) (o : Origin) → Whole ls → is_lacking ls o ≡ false
none-lacking [] o h = refl
none-lacking (l ∷ ls) o h =
    or_from (same_origin l.origin o && l.padded) (is_lacking ls o) (and_right (same_origin l.origin o) l.padded h.0)
    (none-lacking ls o h.1)

none-bare : (ls : List PaddedLeaf) (os : View) → Whole ls → any_lacking ls os ≡ false
none-bare ls [] h = refl
none-bare ls (o ∷ os) h =
    or_from (lacks_row ls o) (any_lacking ls os) (and_left (is_lacking ls o) _ (none-lacking ls o h))
    (none-bare ls os h)

none-nullable : (k : FlatKind) (hs : List Held) → AllWhole hs → lacks_nullable k hs ≡ false
none-nullable (K.Select s) hs h = none-bare (all_leaves hs) (all_bare hs) (whole-all hs h)
none-nullable _ hs h = refl

-- ---- the loop's stack

abbrev Stack : Type 0
Stack = List (ℕ × Held)

abbrev WholeStack : Stack → Type 0
WholeStack σ = Each (λ p. Whole p.1.leaves) σ

whole-before : (e : ℕ) (σ : Stack) → WholeStack σ
    → AllWhole (before e σ).0 × WholeStack (before e σ).1
whole-before e [] h = (h, h)
whole-before e (p ∷ σ) h = by_test (ltb p.0 e) (whole-before e σ h.1)
  where
    by_test : (b : Bool)
        → AllWhole (before e σ).0 × WholeStack (before e σ).1
        → AllWhole (cond b (first p.1 (before e σ)) ([], p ∷ σ)).0
        × WholeStack (cond b (first p.1 (before e σ)) ([], p ∷ σ)).1
    by_test true g = ((h.0, g.0), g.1)
    by_test false g = (tt, h)

whole-run : (i : ℕ) (xs : List FlatNode) → has_left_join xs ≡ false → WholeStack (run kind_of end_of holding i xs)
whole-run i [] n = tt
whole-run i (x ∷ xs) n =
    let ns = or_parts (is_left_join x.kind) (has_left_join xs) n in
    let σ = run kind_of end_of holding (i + 1) xs in
    let w = whole-before x.end σ (whole-run (i + 1) xs ns.1) in
    (whole-held x.kind (before x.end σ).0 ns.0 w.0, w.1)

pub none-from : (i : ℕ) (xs : List FlatNode) → has_left_join xs ≡ false → any_lacking_from i xs ≡ false
none-from i [] n = refl
none-from i (x ∷ xs) n =
    let ns = or_parts (is_left_join x.kind) (has_left_join xs) n in
    let σ = run kind_of end_of holding (i + 1) xs in
    let w = whole-before x.end σ (whole-run (i + 1) xs ns.1) in
    let kids = (before x.end σ).0 in
    or_from (lacks_nullable x.kind kids) (any_lacking_from (i + 1) xs) (none-nullable x.kind kids w.0)
    (none-from (i + 1) xs ns.1)

pub ruleset whole = (none-from)
