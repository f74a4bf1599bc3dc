-- Ambiguous, NotTogether and NameClash, by a test of two leaves that the condition of a select statement sees.
use Rattle.std.proofs.Common.{◌≡◌, List, [], ◌∷◌, Bool, false, inl, inr}
use Rattle.std.specs.Bool.{Decides}
use Rattle.std.specs.List.{list_any}
use Rattle.std.proofs.lemmas.Bool.{false≢true}
use Rattle.std.proofs.lemmas.Bool.Decides.{Decides-like, Decides-or}
use Rattle.sql_schema.specs.Declarations.{Declarations}
use Rattle.sql_dialect.specs.declared.backend.Dialect.{Dialect}
use Rattle.sql_flat_law.specs.Rose.{Roses}
use Rattle.sql_node.specs.Tree.{Origin, Expr, column, Statement}
use Rattle.sql_origin.proofs.OriginLaws.{origin-decides}
use Rattle.sql_origin.specs.Origins.{same_origin}
use Rattle.sql_rules.specs.Lists.{AnyOf, AnyPair}
use Rattle.sql_rules.specs.Rules.{AnyTwoLeaves, Broken, Clash, MayNotMeet, PartBreaks}
use Rattle.sql_rules.specs.Scope.{View, Part, a_select, a_combination, parts}
use Rattle.sql_rules.specs.declared.rule.Rule.TheVariants as rule
use Rattle.sql_rules.proofs.Loops.{any-decides, any_each}
use Rattle.sql_flat.specs.Flat.{flat_of}
use Rattle.sql_flat.specs.declared.kind.FlatKind.{FlatKind}
use Rattle.sql_flat.specs.declared.kind.FlatKind.TheVariants as K
use Rattle.sql_flat.specs.declared.kind.FlatNode.{FlatNode}
use Rattle.sql_flat.specs.declared.kind.Selecting.{Selecting}
use Rattle.sql_rules_check.specs.inside.Ends.{leaves_clash, tables_part}
use Rattle.sql_rules_check.specs.inside.Known.{Known}
use Rattle.sql_rules_check.specs.inside.Sites.{any_pair, is_ambiguous, is_apart, is_clashing, of_select, site_select}
use Rattle.sql_rules_check.specs.inside.Views.{Views}
use Rattle.sql_rules_check.specs.inside.Walks.{walked}
use Rattle.sql_rules_check.proofs.Absent.{Never, NoClause, NoCombination, NoExpr, NoSource, no-any-expr, no-from, no-order, no-positions}
use Rattle.sql_rules_check.proofs.Clashes.{apart-decides, clash-decides}
use Rattle.sql_rules_check.proofs.Decided.{decides-forward, decides-rule}
use Rattle.sql_rules_check.proofs.Seen as seen

never : Decides false ⊥
never = (λ e. absurd (false≢true e), λ h. absurd h)

-- a test of two leaves
pub pair-decides : (R : Origin → Origin → Type 0) (t : Origin → Origin → Bool)
    → ((a b : Origin) → Decides (t a b) (R a b))
    → (v : View) → Decides (any_pair t v) (AnyPair R v)
pair-decides R t d [] = never
pair-decides R t d (o ∷ os) =
    Decides-or (list_any (t o) os) (any_pair t os) (any-decides (R o) (t o) (d o) os) (pair-decides R t d os)

module _ (R : Origin → Origin → Type 0) (t : View → Bool) (decides : (v : View) → Decides (t v) (AnyPair R v)) where
  abbrev Meets : View → Views → Selecting → Roses FlatKind → Type 0
  Meets v w s ts = AnyPair R w.condition

  site-decides : (v : View) (k : FlatKind) (w : Known)
      → Decides (of_select t k (record { clause = w.clause; condition = w.condition }))
      (seen.of_kind NoExpr NoClause Never Never Meets NoCombination NoSource v k w)
  site-decides v (K.Select s) w = decides w.condition
  site-decides v _ w = never

  no-node : (v : View) (e : Expr) → seen.OfExpr NoExpr NoClause Never Never Meets NoCombination NoSource v e → ⊥
  no-node v (column o c) h = h
  no-node v _ h = h

  -- what a part breaks, where it is two leaves of a select statement that may not meet
  abbrev Two : Part → Type 0
  Two (a_select outer s) = AnyTwoLeaves R outer s
  Two (a_combination c) = ⊥

  to-two : (p : Part) → seen.PartOut NoExpr NoClause Never Never Meets NoCombination NoSource p → Two p
  to-two (a_select outer s) (inl (inl h)) =
      absurd (no-any-expr NoExpr Meets NoCombination NoSource no-node outer s h)
  to-two (a_select outer s) (inl (inr h)) = h
  to-two (a_select outer s) (inr (inl h)) = absurd (no-from NoExpr Meets NoCombination s.source h)
  to-two (a_select outer s) (inr (inr h)) = absurd (no-order NoExpr Meets NoCombination NoSource s.order h)
  to-two (a_combination c) (inl h) = h
  to-two (a_combination c) (inr h) = no-positions NoExpr Meets NoCombination NoSource c.order h

  of-two : (p : Part) → Two p → seen.PartOut NoExpr NoClause Never Never Meets NoCombination NoSource p
  of-two (a_select outer s) h = inl (inr h)
  of-two (a_combination c) h = absurd h

  two : (s : Statement) (nodes : List FlatNode) (b : Bool) → nodes ≡ flat_of s
      → b ≡ list_any (site_select t) (walked [] 0 nodes) → Decides b (AnyOf Two (parts [] s))
  two s nodes b is h =
      decides-rule NoExpr NoClause Never Never Meets NoCombination NoSource Two to-two of-two (parts [] s) b
      (decides-forward NoExpr NoClause Never Never Meets NoCombination NoSource
      (site_select t) (λ x. site-decides x.around.clause x.kind x.within)
      s nodes b is h)

pub ambiguous-decides : (v : View) → Decides (is_ambiguous v) (AnyPair (λ a b. a ≡ b) v)
ambiguous-decides v = pair-decides (λ a b. a ≡ b) same_origin origin-decides v

pub apart-any : (schema : Declarations) (v : View) → Decides (is_apart schema v) (AnyPair (MayNotMeet schema) v)
apart-any schema v =
    pair-decides (MayNotMeet schema) (λ a b. tables_part schema a.table b.table) (apart-decides schema) v

pub clash-any : (v : View) → Decides (is_clashing v) (AnyPair Clash v)
clash-any v = pair-decides Clash leaves_clash clash-decides v

module _ (schema : Declarations) (d : Dialect) where
  abbrev Same : Origin → Origin → Type 0
  Same a b = a ≡ b

  to-ambiguous : (p : Part) → Two Same is_ambiguous ambiguous-decides p → PartBreaks rule.Ambiguous schema d p
  to-ambiguous (a_select outer s) h = h
  to-ambiguous (a_combination c) h = h

  of-ambiguous : (p : Part) → PartBreaks rule.Ambiguous schema d p → Two Same is_ambiguous ambiguous-decides p
  of-ambiguous (a_select outer s) h = h
  of-ambiguous (a_combination c) h = h

  to-apart : (p : Part) → Two (MayNotMeet schema) (is_apart schema) (apart-any schema) p
      → PartBreaks rule.NotTogether schema d p
  to-apart (a_select outer s) h = h
  to-apart (a_combination c) h = h

  of-apart : (p : Part) → PartBreaks rule.NotTogether schema d p
      → Two (MayNotMeet schema) (is_apart schema) (apart-any schema) p
  of-apart (a_select outer s) h = h
  of-apart (a_combination c) h = h

  to-clash : (p : Part) → Two Clash is_clashing clash-any p → PartBreaks rule.NameClash schema d p
  to-clash (a_select outer s) h = h
  to-clash (a_combination c) h = h

  of-clash : (p : Part) → PartBreaks rule.NameClash schema d p → Two Clash is_clashing clash-any p
  of-clash (a_select outer s) h = h
  of-clash (a_combination c) h = h

  module _ (s : Statement) (nodes : List FlatNode) (b : Bool) (is : nodes ≡ flat_of s) where
    pub ambiguous : b ≡ list_any (site_select is_ambiguous) (walked [] 0 nodes)
        → Decides b (Broken rule.Ambiguous schema d s)
    ambiguous h =
        let ps = parts [] s in
        let two-leaves = Two Same is_ambiguous ambiguous-decides in
        Decides-like b (any_each two-leaves (PartBreaks rule.Ambiguous schema d) to-ambiguous ps)
        (any_each (PartBreaks rule.Ambiguous schema d) two-leaves of-ambiguous ps)
        (two Same is_ambiguous ambiguous-decides s nodes b is h)

    pub apart : b ≡ list_any (site_select (is_apart schema)) (walked [] 0 nodes)
        → Decides b (Broken rule.NotTogether schema d s)
    apart h =
        let ps = parts [] s in
        let two-leaves = Two (MayNotMeet schema) (is_apart schema) (apart-any schema) in
        Decides-like b (any_each two-leaves (PartBreaks rule.NotTogether schema d) to-apart ps)
        (any_each (PartBreaks rule.NotTogether schema d) two-leaves of-apart ps)
        (two (MayNotMeet schema) (is_apart schema) (apart-any schema) s nodes b is h)

    pub clashing : b ≡ list_any (site_select is_clashing) (walked [] 0 nodes)
        → Decides b (Broken rule.NameClash schema d s)
    clashing h =
        let ps = parts [] s in
        let two-leaves = Two Clash is_clashing clash-any in
        Decides-like b (any_each two-leaves (PartBreaks rule.NameClash schema d) to-clash ps)
        (any_each (PartBreaks rule.NameClash schema d) two-leaves of-clash ps)
        (two Clash is_clashing clash-any s nodes b is h)
