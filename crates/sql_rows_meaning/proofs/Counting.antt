-- What is selected of a group without rows: where something is counted, and the rule Grouping is kept, no column of a row.
use Rattle.std.proofs.Common.{◌≡◌, Bool, true, false, ◌||◌, refl, inl, inr, ◌⊎◌, if◌then◌else◌}
use Rattle.std.proofs.lemmas.Bool.{false≢true}
use Rattle.sql_node.specs.Tree.{Form, unboxed, boxed, Expr, column, value, list, count_star, nullable, unary, count, compared, joined, exists, single, among_values, among_rows, Exprs, no_exprs, more_exprs, Items, no_items, more_items, MaybeExpr, no_expr, Distinct, every, distinct, distinct_on, Order, no_order, order_by}
use Rattle.sql_rules.specs.Lists.{AnyOf}
use Rattle.sql_rules.specs.Rules.{IsUnboxed, distinct_verdict, items_verdict, order_verdict}
use Rattle.sql_rules.specs.Scope.{nodes, nodes_of}
use Rattle.sql_rules.specs.Verdicts.{Verdict, No, Yes, Never, NoVerdict, mix, verdict, verdict_of, is_aggregate, holds_aggregate}
use Rattle.sql_rules.proofs.Loops.{any-decides, any_split}
use Rattle.sql_rows_meaning.specs.Groups.{items_count, order_counts, distinct_counts, counts}
use Rattle.sql_rows_meaning.proofs.Facts.{or_true}

-- a column stands in it under no nullable, outside COUNT and subselects
abbrev mutual
  pub IsLoose : Expr → Type 0
  IsLoose (column o c) = Unit {0}
  IsLoose (value t x) = ⊥
  IsLoose (list es) = AreLoose es
  IsLoose count_star = ⊥
  IsLoose (nullable e) = ⊥
  IsLoose (unary u e) = IsLoose e
  IsLoose (count e) = ⊥
  IsLoose (compared by a b) = IsLoose a ⊎ IsLoose b
  IsLoose (joined by a b) = IsLoose a ⊎ IsLoose b
  IsLoose (exists q) = ⊥
  IsLoose (single q) = ⊥
  IsLoose (among_values n e t xs) = IsLoose e
  IsLoose (among_rows n e q) = IsLoose e

  pub AreLoose : Exprs → Type 0
  AreLoose no_exprs = ⊥
  AreLoose (more_exprs e es) = IsLoose e ⊎ AreLoose es

-- ---- verdicts

abbrev IsRowwise : Verdict → Type 0
IsRowwise No = Unit {0}
IsRowwise Yes = ⊥
IsRowwise Never = ⊥
IsRowwise NoVerdict = Unit {0}

abbrev IsGroupwise : Verdict → Type 0
IsGroupwise No = ⊥
IsGroupwise Yes = Unit {0}
IsGroupwise Never = ⊥
IsGroupwise NoVerdict = Unit {0}

rowwise-left : (v w : Verdict) → IsRowwise v → IsRowwise (mix v w)
rowwise-left No No h = tt
rowwise-left No Yes h = tt
rowwise-left No Never h = tt
rowwise-left No NoVerdict h = tt
rowwise-left NoVerdict w h = tt
rowwise-left Yes w h = absurd h
rowwise-left Never w h = absurd h

rowwise-right : (v w : Verdict) → IsRowwise w → IsRowwise (mix v w)
rowwise-right No No h = tt
rowwise-right No NoVerdict h = tt
rowwise-right No Yes h = absurd h
rowwise-right No Never h = absurd h
rowwise-right Yes No h = tt
rowwise-right Yes NoVerdict h = tt
rowwise-right Yes Yes h = absurd h
rowwise-right Yes Never h = absurd h
rowwise-right Never w h = h
rowwise-right NoVerdict w h = tt

groupwise-left : (v w : Verdict) → IsGroupwise v → IsGroupwise (mix v w)
groupwise-left Yes No h = tt
groupwise-left Yes Yes h = tt
groupwise-left Yes Never h = tt
groupwise-left Yes NoVerdict h = tt
groupwise-left NoVerdict w h = tt
groupwise-left No w h = absurd h
groupwise-left Never w h = absurd h

groupwise-right : (v w : Verdict) → IsGroupwise w → IsGroupwise (mix v w)
groupwise-right No Yes h = tt
groupwise-right No NoVerdict h = tt
groupwise-right No No h = absurd h
groupwise-right No Never h = absurd h
groupwise-right Yes Yes h = tt
groupwise-right Yes NoVerdict h = tt
groupwise-right Yes No h = absurd h
groupwise-right Yes Never h = absurd h
groupwise-right Never w h = h
groupwise-right NoVerdict w h = tt

both-ways : (v : Verdict) → IsRowwise v → IsGroupwise v → v ≡ NoVerdict
both-ways NoVerdict h k = refl
both-ways No h k = absurd k
both-ways Yes h k = absurd h
both-ways Never h k = absurd h

clash : (v w : Verdict) → IsRowwise v → IsGroupwise w → mix v w ≡ NoVerdict
clash No Yes h k = refl
clash No NoVerdict h k = refl
clash NoVerdict w h k = refl
clash No No h k = absurd k
clash No Never h k = absurd k
clash Yes w h k = absurd h
clash Never w h k = absurd h

two-groupwise : (v w : Verdict) (P Q : Type 0) → (P → IsGroupwise v) → (Q → IsGroupwise w) → P ⊎ Q
    → IsGroupwise (mix v w)
two-groupwise v w P Q f g (inl h) = groupwise-left v w (f h)
two-groupwise v w P Q f g (inr h) = groupwise-right v w (g h)

mutual
  loose-rowwise : (e : Expr) → IsLoose e → IsRowwise (verdict no_expr e)
  loose-rowwise (column o c) h = tt
  loose-rowwise (value t x) h = absurd h
  loose-rowwise count_star h = absurd h
  loose-rowwise (nullable e) h = absurd h
  loose-rowwise (count e) h = absurd h
  loose-rowwise (exists q) h = absurd h
  loose-rowwise (single q) h = absurd h
  loose-rowwise (list es) h = all_loose-rowwise es h
  loose-rowwise (unary u e) h = loose-rowwise e h
  loose-rowwise (compared by a b) (inl h) = rowwise-left (verdict no_expr a) (verdict no_expr b) (loose-rowwise a h)
  loose-rowwise (compared by a b) (inr h) = rowwise-right (verdict no_expr a) (verdict no_expr b) (loose-rowwise b h)
  loose-rowwise (joined by a b) (inl h) = rowwise-left (verdict no_expr a) (verdict no_expr b) (loose-rowwise a h)
  loose-rowwise (joined by a b) (inr h) = rowwise-right (verdict no_expr a) (verdict no_expr b) (loose-rowwise b h)
  loose-rowwise (among_values n e t xs) h = loose-rowwise e h
  loose-rowwise (among_rows n e q) h = loose-rowwise e h

  all_loose-rowwise : (es : Exprs) → AreLoose es → IsRowwise (verdict_of no_expr es)
  all_loose-rowwise no_exprs h = absurd h
  all_loose-rowwise (more_exprs e es) (inl h) =
      rowwise-left (verdict no_expr e) (verdict_of no_expr es) (loose-rowwise e h)
  all_loose-rowwise (more_exprs e es) (inr h) =
      rowwise-right (verdict no_expr e) (verdict_of no_expr es) (all_loose-rowwise es h)

abbrev Counts : Expr → Type 0
Counts e = is_aggregate e ≡ true

module _ (g : MaybeExpr) where
  mutual
    counting : (e : Expr) → AnyOf Counts (nodes e) → IsGroupwise (verdict g e)
    counting (column o c) (inl h) = absurd (false≢true h)
    counting (column o c) (inr h) = absurd h
    counting (value t x) (inl h) = absurd (false≢true h)
    counting (value t x) (inr h) = absurd h
    counting (list es) (inl h) = absurd (false≢true h)
    counting (list es) (inr h) = all_counting es h
    counting count_star h = tt
    counting (nullable e) (inl h) = absurd (false≢true h)
    counting (nullable e) (inr h) = counting e h
    counting (unary u e) (inl h) = absurd (false≢true h)
    counting (unary u e) (inr h) = counting e h
    counting (count e) h = go (holds_aggregate e)
      where
        go : (b : Bool) → IsGroupwise (if b then NoVerdict else Yes)
        go true = tt
        go false = tt
    counting (compared by a b) (inl h) = absurd (false≢true h)
    counting (compared by a b) (inr h) =
        two-groupwise (verdict g a) (verdict g b) (AnyOf Counts (nodes a)) (AnyOf Counts (nodes b)) (counting a)
        (counting b) (any_split Counts (nodes a) (nodes b) h)
    counting (joined by a b) (inl h) = absurd (false≢true h)
    counting (joined by a b) (inr h) =
        two-groupwise (verdict g a) (verdict g b) (AnyOf Counts (nodes a)) (AnyOf Counts (nodes b)) (counting a)
        (counting b) (any_split Counts (nodes a) (nodes b) h)
    counting (exists q) (inl h) = absurd (false≢true h)
    counting (exists q) (inr h) = absurd h
    counting (single q) (inl h) = absurd (false≢true h)
    counting (single q) (inr h) = absurd h
    counting (among_values n e t xs) (inl h) = absurd (false≢true h)
    counting (among_values n e t xs) (inr h) = counting e h
    counting (among_rows n e q) (inl h) = absurd (false≢true h)
    counting (among_rows n e q) (inr h) = counting e h

    all_counting : (es : Exprs) → AnyOf Counts (nodes_of es) → IsGroupwise (verdict_of g es)
    all_counting no_exprs h = absurd h
    all_counting (more_exprs e es) h =
        two-groupwise (verdict g e) (verdict_of g es) (AnyOf Counts (nodes e)) (AnyOf Counts (nodes_of es)) (counting e)
        (all_counting es) (any_split Counts (nodes e) (nodes_of es) h)

  counted-groupwise : (e : Expr) → holds_aggregate e ≡ true → IsGroupwise (verdict g e)
  counted-groupwise e h = counting e ((any-decides Counts is_aggregate (λ x. (λ q. q, λ q. q)) (nodes e)).0 h)

  items-groupwise : (is : Items) → items_count is ≡ true → IsGroupwise (items_verdict g is)
  items-groupwise no_items h = absurd (false≢true h)
  items-groupwise (more_items e by is) h =
      two-groupwise (verdict g e) (items_verdict g is) (holds_aggregate e ≡ true) (items_count is ≡ true)
      (counted-groupwise e) (items-groupwise is) (or_true (holds_aggregate e) (items_count is) h)

  order-groupwise : (o : Order) → order_counts o ≡ true → IsGroupwise (order_verdict g o)
  order-groupwise no_order h = absurd (false≢true h)
  order-groupwise (order_by is) h = items-groupwise is h

  distinct-groupwise : (u : Distinct) → distinct_counts u ≡ true → IsGroupwise (distinct_verdict g u)
  distinct-groupwise every h = absurd (false≢true h)
  distinct-groupwise distinct h = absurd (false≢true h)
  distinct-groupwise (distinct_on e) h = counted-groupwise e h

-- ---- where all rows are one group

-- what the rule Grouping says of the selection, with what it is compared to
pub counted-tight : (e : Expr) (u : Distinct) (o : Order) (form : Form) → counts e u o ≡ true
    → ¬ (verdict no_expr e ≡ NoVerdict)
    → ¬ (IsUnboxed form × ((mix (verdict no_expr e) (order_verdict no_expr o) ≡ NoVerdict)
    ⊎ (mix (verdict no_expr e) (distinct_verdict no_expr u) ≡ NoVerdict)))
    → ¬ ((¬ IsUnboxed form) × (holds_aggregate e ≡ false) × ((distinct_counts u || order_counts o) ≡ true))
    → ¬ IsLoose e
counted-tight e u o form h n m beside loose = go (holds_aggregate e) refl h
  where
    compared_with : (f : Form) → ¬ (IsUnboxed f × ((mix (verdict no_expr e) (order_verdict no_expr o) ≡ NoVerdict)
        ⊎ (mix (verdict no_expr e) (distinct_verdict no_expr u) ≡ NoVerdict)))
        → ¬ ((¬ IsUnboxed f) × (holds_aggregate e ≡ false) × ((distinct_counts u || order_counts o) ≡ true))
        → holds_aggregate e ≡ false → (distinct_counts u || order_counts o) ≡ true
        → (distinct_counts u ≡ true) ⊎ (order_counts o ≡ true) → ⊥
    compared_with (unboxed l) k b q c (inl d) =
        k (
          tt,
          inr (clash (verdict no_expr e) (distinct_verdict no_expr u) (loose-rowwise e loose)
              (distinct-groupwise no_expr u d)),
        )
    compared_with (unboxed l) k b q c (inr d) =
        k (
          tt,
          inl (clash (verdict no_expr e) (order_verdict no_expr o) (loose-rowwise e loose)
              (order-groupwise no_expr o d)),
        )
    compared_with (boxed d x) k b q c i = b (λ y. y, q, c)

    go : (b : Bool) → holds_aggregate e ≡ b → (b || (distinct_counts u || order_counts o)) ≡ true → ⊥
    go true q c = n (both-ways (verdict no_expr e) (loose-rowwise e loose) (counted-groupwise no_expr e q))
    go false q c = compared_with form m beside q c (or_true (distinct_counts u) (order_counts o) c)
