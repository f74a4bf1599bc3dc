-- NeedsNullable, by a test of select statements and what their parts hold.
use Rattle.std.proofs.Common.{◌≡◌, List, [], ◌∷◌, ◌++◌, Bool, true, false, not, ◌&&◌, ℕ, suc, map, inl, inr, refl, sym, ap, ◌∙◌, append-nil, nat_lt, arith}
use Rattle.std.specs.Prelude.{IsTrue, Result, Ok, Err, IfOk}
use Rattle.std.specs.Bool.{Decides}
use Rattle.std.specs.List.{list_any}
use Rattle.std.proofs.lemmas.Bool.{false≢true}
use Rattle.std.proofs.lemmas.Bool.Decides.{Decides-and, Decides-at, Decides-ltb, Decides-not}
use Rattle.std.proofs.lemmas.List.{map-append}
use Rattle.sql_schema.specs.Declarations.{Declarations}
use Rattle.sql_dialect.specs.declared.backend.Dialect.{Dialect}
use Rattle.sql_leaf.specs.declared.table_source.JoinKind.{JoinKind}
use Rattle.sql_leaf.specs.declared.table_source.JoinKind.TheVariants.{Inner, LeftOuter}
use Rattle.sql_flat_law.specs.Rose.{Roses}
use Rattle.sql_flat_law.specs.Folds.{folded, folded_each}
use Rattle.sql_node.specs.Tree.{Origin, Expr, column, value, list, count_star, nullable, unary, count, compared, joined, exists, single, among_values, among_rows, Exprs, no_exprs, more_exprs, MaybeExpr, no_expr, an_expr, Source, of_table, of_alias, join, From, no_source, from, Distinct, every, distinct, distinct_on, Order, no_order, order_by, Statement, select, combination}
use Rattle.sql_origin.proofs.OriginLaws.{origin-decides}
use Rattle.sql_origin.specs.Leaves.{Leaf, in_right_side, is_padded, leaves}
use Rattle.sql_origin.specs.Origins.{same_origin}
use Rattle.sql_rules.specs.Lists.{AnyOf, AnyPair}
use Rattle.sql_rules.specs.Rules.{Broken, IsPadded, PartBreaks, bare, bare_of}
use Rattle.sql_rules.specs.Scope.{View, Part, a_select, a_combination, Select, leaves_of, own, parts}
use Rattle.sql_rules.specs.declared.rule.Rule.TheVariants as rule
use Rattle.sql_rules.proofs.Loops.{any-decides}
use Rattle.sql_rules.proofs.TypeLaws.{any-mapped}
use Rattle.sql_flat.specs.Flat.{distinct_roses, expr_rose, exprs_roses, flat_of, from_roses, maybe_roses, order_roses, rose, source_rose}
use Rattle.sql_flat.specs.declared.kind.FlatKind.{FlatKind}
use Rattle.sql_flat.specs.declared.kind.FlatKind.TheVariants as K
use Rattle.sql_flat.specs.declared.kind.FlatNode.{FlatNode}
use Rattle.sql_flat.specs.declared.kind.Selecting.{Selecting}
use Rattle.sql_rules_check.specs.inside.Known.{Known}
use Rattle.sql_rules_check.specs.inside.Lists.{kind_of, end_of}
use Rattle.sql_rules_check.specs.inside.Padding.{Held, PaddedLeaf, all_bare, all_leaves, any_lacking, holding, is_lacking, lacks_nullable, lacks_row, none_held, stands_twice, under}
use Rattle.sql_rules_check.specs.inside.Tested.{any_from}
use Rattle.sql_rules_check.specs.inside.Views.{Views}
use Rattle.sql_rules_check.proofs.Absent.{Never, NoClause, NoCombination, NoExpr, NoSource, no-any-expr, no-from, no-order, no-positions}
use Rattle.sql_rules_check.proofs.Decided.{decides-folded, decides-rule}
use Rattle.sql_rules_check.proofs.LeafPairs.{pair-decides}
use Rattle.sql_rules_check.proofs.Seen as seen
use Rattle.sql_rules_check.proofs.SelectedPlaces.{distinct_bare, of-selected, to-selected}
use Rattle.sql_rules_check.proofs.SourceLeaves.{select_roses}

-- ---- what the nodes of a statement hold

abbrev held : Roses FlatKind → List Held
held ts = folded_each holding ts

query-held : (s : Statement) → folded holding (rose s) ≡ none_held
query-held (select default e f u w o rows g h form marks) = refl
query-held (combination by all a b o rows) = refl

bare-alone : (v : View) → (v ++ []) ≡ v
bare-alone v = append-nil v

abbrev bares : View → Held
bares v = record { leaves = []; bare = v }

mutual
  expr-held : (e : Expr) → folded holding (expr_rose e) ≡ bares (bare e)
  expr-held (column o c) = refl
  expr-held (value t x) = refl
  expr-held (list es) = ap bares (exprs-held es)
  expr-held count_star = refl
  expr-held (nullable e) = refl
  expr-held (unary n e) = ap (λ h. bares (h.bare ++ [])) (expr-held e) ∙ ap bares (bare-alone (bare e))
  expr-held (count e) = ap (λ h. bares (h.bare ++ [])) (expr-held e) ∙ ap bares (bare-alone (bare e))
  expr-held (compared by a b) =
      (λ i. bares ((expr-held a i).bare ++ ((expr-held b i).bare ++ [])))
      ∙ ap (λ v. bares (bare a ++ v)) (bare-alone (bare b))
  expr-held (joined by a b) =
      (λ i. bares ((expr-held a i).bare ++ ((expr-held b i).bare ++ [])))
      ∙ ap (λ v. bares (bare a ++ v)) (bare-alone (bare b))
  expr-held (exists q) = refl
  expr-held (single q) = refl
  expr-held (among_values n e t vs) = ap (λ h. bares (h.bare ++ [])) (expr-held e) ∙ ap bares (bare-alone (bare e))
  expr-held (among_rows n e q) =
      (λ i. bares ((expr-held e i).bare ++ ((query-held q i).bare ++ []))) ∙ ap bares (bare-alone (bare e))

  exprs-held : (es : Exprs) → all_bare (held (exprs_roses es)) ≡ bare_of es
  exprs-held no_exprs = refl
  exprs-held (more_exprs e es) = λ i. (expr-held e i).bare ++ exprs-held es i

abbrev leaf_of : Leaf → PaddedLeaf
leaf_of l = record { origin = l.origin; padded = is_padded l }

padded-more : (n : ℕ) → nat_lt 0 (suc n) ≡ true
padded-more n = (Decides-ltb 0 (suc n)).1 (omega arith)

under-right : (k : JoinKind) (ls : List Leaf) → map (under k) (map leaf_of ls) ≡ map leaf_of (map (in_right_side k) ls)
under-right k [] = refl
under-right Inner (l ∷ ls) = ap (λ ks. leaf_of l ∷ ks) (under-right Inner ls)
under-right LeftOuter (l ∷ ls) =
    let p = sym (padded-more l.paddings) in
    let rest = under-right LeftOuter ls in λ i. record { origin = l.origin; padded = p i } ∷ rest i

abbrev sources : List PaddedLeaf → Held
sources ls = record { leaves = ls; bare = [] }

source-held : (f : Source) → folded holding (source_rose f) ≡ sources (map leaf_of (leaves f))
source-held (of_table t only sample) = refl
source-held (of_alias a t) = refl
source-held (join k l r on) =
    (λ i. sources ((source-held l i).leaves ++ map (under k) (source-held r i).leaves))
    ∙ ap (λ ls. sources (map leaf_of (leaves l) ++ ls)) (under-right k (leaves r))
    ∙ ap sources (sym (map-append leaf_of (leaves l) (map (in_right_side k) (leaves r))))

-- clauses that hold nothing
Nothing : Roses FlatKind → Type 0
Nothing ts = (all_leaves (held ts) ≡ []) × (all_bare (held ts) ≡ [])

order-nothing : (o : Order) → Nothing (order_roses o)
unfolding Nothing
order-nothing no_order = (refl, refl)
order-nothing (order_by is) = (refl, refl)

having-nothing : (m : MaybeExpr) (rest : Roses FlatKind) → Nothing rest → Nothing (maybe_roses K.Having m rest)
unfolding Nothing
having-nothing no_expr rest h = h
having-nothing (an_expr e) rest h = h

group-nothing : (m : MaybeExpr) (rest : Roses FlatKind) → Nothing rest → Nothing (maybe_roses K.GroupBy m rest)
unfolding Nothing
group-nothing no_expr rest h = h
group-nothing (an_expr e) rest h = h

where-nothing : (m : MaybeExpr) (rest : Roses FlatKind) → Nothing rest → Nothing (maybe_roses K.Where m rest)
unfolding Nothing
where-nothing no_expr rest h = h
where-nothing (an_expr e) rest h = h

from-leaves : (f : From) (rest : Roses FlatKind) → Nothing rest
    → all_leaves (held (from_roses f rest)) ≡ map leaf_of (leaves_of f)
unfolding Nothing
from-leaves no_source rest h = h.0
from-leaves (from f) rest h =
    (λ i. (source-held f i).leaves ++ h.0 i) ∙ append-nil (map leaf_of (leaves f))

from-bare : (f : From) (rest : Roses FlatKind) → Nothing rest → all_bare (held (from_roses f rest)) ≡ []
unfolding Nothing
from-bare no_source rest h = h.1
from-bare (from f) rest h = h.1

distinct-leaves : (u : Distinct) (rest : Roses FlatKind)
    → all_leaves (held (distinct_roses u rest)) ≡ all_leaves (held rest)
distinct-leaves every rest = refl
distinct-leaves distinct rest = refl
distinct-leaves (distinct_on e) rest = refl

distinct-bare : (u : Distinct) (rest : Roses FlatKind)
    → all_bare (held (distinct_roses u rest)) ≡ distinct_bare u ++ all_bare (held rest)
distinct-bare every rest = refl
distinct-bare distinct rest = refl
distinct-bare (distinct_on e) rest =
    (λ i. ((expr-held e i).bare ++ []) ++ all_bare (held rest))
    ∙ ap (λ v. v ++ all_bare (held rest)) (bare-alone (bare e))

module _ (e : Expr) (f : From) (u : Distinct) (w : MaybeExpr) (o : Order) (g h : MaybeExpr) where
  abbrev behind : Roses FlatKind
  behind = maybe_roses K.Where w (maybe_roses K.GroupBy g (maybe_roses K.Having h (order_roses o)))

  none-behind : Nothing behind
  none-behind =
      where-nothing w _ (group-nothing g _ (having-nothing h (order_roses o) (order-nothing o)))

  kids-leaves : all_leaves (held (select_roses e f u w o g h)) ≡ map leaf_of (leaves_of f)
  kids-leaves =
      distinct-leaves u _
      ∙ ap (λ x. x.leaves ++ all_leaves (held (from_roses f behind))) (expr-held e)
      ∙ from-leaves f behind none-behind

  kids-bare : all_bare (held (select_roses e f u w o g h)) ≡ distinct_bare u ++ bare e
  kids-bare =
      distinct-bare u _
      ∙ ap (λ v. distinct_bare u ++ v)
      ((λ i. (expr-held e i).bare ++ from-bare f behind none-behind i) ∙ bare-alone (bare e))

-- ---- the test of a select statement

never : Decides false ⊥
never = (λ e. absurd (false≢true e), λ h. absurd h)

truth : (b : Bool) → Decides b (IsTrue b)
truth b = (λ e. e, λ h. h)

abbrev Lacks : View → Views → Selecting → Roses FlatKind → Type 0
Lacks v w s ts = IsTrue (any_lacking (all_leaves (held ts)) (all_bare (held ts)))

node-decides : (v : View) (k : FlatKind) (w : Known)
    → Decides (lacks_nullable k (held w.kids))
    (seen.of_kind NoExpr NoClause Never Never Lacks NoCombination NoSource v k w)
node-decides v (K.Select s) w = truth (any_lacking (all_leaves (held w.kids)) (all_bare (held w.kids)))
node-decides v _ w = never

no-node : (v : View) (e : Expr) → seen.OfExpr NoExpr NoClause Never Never Lacks NoCombination NoSource v e → ⊥
no-node v (column o c) h = h
no-node v _ h = h

same-origins : (ls : List Leaf) → map (λ l. l.origin) (map leaf_of ls) ≡ map (λ l. l.origin) ls
same-origins [] = refl
same-origins (l ∷ ls) = ap (λ v. l.origin ∷ v) (same-origins ls)

module _ (s : Select) where
  abbrev own_leaves : List Leaf
  own_leaves = leaves_of s.source

  abbrev kids : Roses FlatKind
  kids = select_roses s.selection s.source s.distinctness s.where_by s.order s.group_by s.having_by

  abbrev selected : View
  selected = distinct_bare s.distinctness ++ bare s.selection

  same-lacking : any_lacking (all_leaves (held kids)) (all_bare (held kids))
      ≡ any_lacking (map leaf_of own_leaves) selected
  same-lacking =
      let ls = kids-leaves s.selection s.source s.distinctness s.where_by s.order s.group_by s.having_by in
      let os = kids-bare s.selection s.source s.distinctness s.where_by s.order s.group_by s.having_by in
      λ i. any_lacking (ls i) (os i)

  pads : (o : Origin)
      → Decides (is_lacking (map leaf_of own_leaves) o)
      (AnyOf (λ l. (l.origin ≡ o) × IsTrue (is_padded l)) own_leaves)
  pads o =
      Decides-at (is_lacking (map leaf_of own_leaves) o)
      (list_any (λ l. same_origin l.origin o && is_padded l) own_leaves)
      (sym (any-mapped (λ l. same_origin l.origin o && l.padded) leaf_of own_leaves))
      (any-decides (λ l. (l.origin ≡ o) × IsTrue (is_padded l)) (λ l. same_origin l.origin o && is_padded l)
      (λ l. Decides-and (same_origin l.origin o) (is_padded l) (origin-decides l.origin o) (truth (is_padded l)))
      own_leaves)

  twice : (o : Origin)
      → Decides (stands_twice (map (λ l. l.origin) (map leaf_of own_leaves)) o)
      (AnyPair (λ a b. (a ≡ o) × (b ≡ o)) (own s))
  twice o =
      Decides-at (stands_twice (map (λ l. l.origin) (map leaf_of own_leaves)) o) (stands_twice (own s) o)
      (ap (λ v. stands_twice v o) (same-origins own_leaves))
      (pair-decides (λ a b. (a ≡ o) × (b ≡ o)) (λ a b. same_origin a o && same_origin b o)
      (λ a b. Decides-and (same_origin a o) (same_origin b o) (origin-decides a o) (origin-decides b o)) (own s))

  row : (o : Origin) → Decides (lacks_row (map leaf_of own_leaves) o) (IsPadded s o)
  row o =
      let here = is_lacking (map leaf_of own_leaves) o in
      let both = stands_twice (map (λ l. l.origin) (map leaf_of own_leaves)) o in
      Decides-and here (not both) (pads o) (Decides-not both (twice o))

  lacking : Decides (any_lacking (map leaf_of own_leaves) selected) (AnyOf (IsPadded s) selected)
  lacking = any-decides (IsPadded s) (lacks_row (map leaf_of own_leaves)) row selected

module _ (schema : Declarations) (d : Dialect) where
  to-rule : (p : Part) → seen.PartOut NoExpr NoClause Never Never Lacks NoCombination NoSource p
      → PartBreaks rule.NeedsNullable schema d p
  to-rule (a_select outer s) (inl (inl h)) =
      absurd (no-any-expr NoExpr Lacks NoCombination NoSource no-node outer s h)
  to-rule (a_select outer s) (inl (inr h)) =
      of-selected (IsPadded s) outer s ((lacking s).0 (sym (same-lacking s) ∙ h))
  to-rule (a_select outer s) (inr (inl h)) = absurd (no-from NoExpr Lacks NoCombination s.source h)
  to-rule (a_select outer s) (inr (inr h)) = absurd (no-order NoExpr Lacks NoCombination NoSource s.order h)
  to-rule (a_combination c) (inl h) = h
  to-rule (a_combination c) (inr h) = no-positions NoExpr Lacks NoCombination NoSource c.order h

  of-rule : (p : Part) → PartBreaks rule.NeedsNullable schema d p
      → seen.PartOut NoExpr NoClause Never Never Lacks NoCombination NoSource p
  of-rule (a_select outer s) h =
      inl (inr (same-lacking s ∙ (lacking s).1 (to-selected (IsPadded s) outer s h)))
  of-rule (a_combination c) h = absurd h

pub lacking-rows : (s : Statement) (nodes : List FlatNode) (b : Bool) → nodes ≡ flat_of s
    → b ≡ any_from holding lacks_nullable kind_of end_of 0 nodes → (schema : Declarations) (d : Dialect)
    → Decides b (Broken rule.NeedsNullable schema d s)
lacking-rows s nodes b is h schema d =
    decides-rule NoExpr NoClause Never Never Lacks NoCombination NoSource (PartBreaks rule.NeedsNullable schema d)
    (to-rule schema d) (of-rule schema d) (parts [] s) b
    (decides-folded NoExpr NoClause Never Never Lacks NoCombination NoSource holding lacks_nullable
    node-decides s nodes b is h)

pub lacking-answer : {E : Type 0} (s : Statement) (nodes : List FlatNode) (r : Result Bool E) → nodes ≡ flat_of s
    → IfOk r (λ b. b ≡ any_from holding lacks_nullable kind_of end_of 0 nodes) → (schema : Declarations) (d : Dialect)
    → IfOk r (λ b. Decides b (Broken rule.NeedsNullable schema d s))
lacking-answer s nodes (Ok b) is h schema d = lacking-rows s nodes b is h schema d
lacking-answer s nodes (Err e) is h schema d = tt
