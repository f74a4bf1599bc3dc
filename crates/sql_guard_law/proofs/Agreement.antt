-- What a statement answers depends on the tables alone that it and its subselects read.
use Rattle.std.proofs.Common.{◌≡◌, Bool, true, false, List, [], ◌∷◌, ◌++◌, refl, subst, inl, inr}
use Rattle.std.specs.Bool.{Decides}
use Rattle.std.proofs.lemmas.Bool.{false≢true}
use Rattle.sql_schema.specs.Equality.{same_table}
use Rattle.sql_schema.specs.declared.declaration.TableDecl.{TableDecl}
use Rattle.sql_pass.specs.declared.value.Value.{Value}
use Rattle.sql_node.specs.Tree.{Origin, Expr, column, value, list, count_star, nullable, unary, count, compared, joined, exists, single, among_values, among_rows, Exprs, no_exprs, more_exprs, Items, no_items, more_items, MaybeExpr, no_expr, an_expr, Source, of_table, of_alias, join, From, no_source, from, Distinct, every, distinct, distinct_on, Order, no_order, order_by, Statement, select, combination}
use Rattle.sql_origin.specs.Leaves.{leaves}
use Rattle.sql_origin.specs.Origins.{a_table, an_alias}
use Rattle.sql_origin.proofs.OriginLaws.{table-decides}
use Rattle.sql_rules.specs.Lists.{AnyOf, Each}
use Rattle.sql_rules.specs.Scope.{View, parts, origins, origins_of, widest, in_expr, in_exprs, in_items, in_maybe, in_source, in_from, in_distinct, in_order}
use Rattle.sql_rules.proofs.Loops.{any-decides}
use Rattle.sql_rows_meaning.specs.Answers.{Gives, AllGive, Holds, SourceRows, FromRows, GroupedBy, KeyGives, ItemsGive, OrderGives, Answers, rows_as, is_partial}
use Rattle.sql_rows_meaning.specs.Frames.{Database, Frame, nulls, where_sees}
use Rattle.sql_rows_meaning.specs.Groups.{Group, alone, one_row, counts}
use Rattle.sql_rows_meaning.specs.Rows.{Row, NullPlaces, IsPart}
use Rattle.sql_rows_meaning.proofs.Lists.{AllZip-weaken, Each-front, Each-end}
use Rattle.sql_guard_law.specs.Policies.{Policy, HasPolicy, LacksPolicy}
use Rattle.sql_guard_law.proofs.Cuts.{Filtered-weaken, Joined-weaken}
use Rattle.sql_guard_law.proofs.Leaves.{source_leaves, leaves-source_leaves}
use Rattle.sql_guard_law.proofs.Plain.{free_left, free_right}

stable : {P : Type 0} (b : Bool) → Decides b P → ¬ ¬ P → P
stable true d n = d.0 refl
stable false d n = absurd (n (λ p. false≢true (d.1 p)))

covered : (qs : List Policy) (t : TableDecl) → ¬ ¬ HasPolicy qs t → HasPolicy qs t
covered qs t n =
    stable _ (any-decides (λ q. q.table ≡ t) (λ q. same_table q.table t) (λ q. table-decides q.table t) qs) n

abbrev Agree : Database → Database → List Origin → Type 0
Agree db db' os = Each (λ o. db o.table ≡ db' o.table) os

all-agree : (qs : List Policy) (db db' : Database) → ((t : TableDecl) → HasPolicy qs t → db t ≡ db' t)
    → (os : List Origin) → ¬ AnyOf (λ o. ¬ HasPolicy qs o.table) os → Agree db db' os
all-agree qs db db' same [] n = tt
all-agree qs db db' same (o ∷ os) n = (
  same o.table (covered qs o.table (λ m. n (inl m))),
  all-agree qs db db' same os (λ i. n (inr i)),
)

from_agree : (qs : List Policy) (db db' : Database) (s : Source) → Agree db db' (origins s)
    → Agree db db' (source_leaves s)
from_agree qs db db' s k = subst (Agree db db') (leaves-source_leaves s) k

module _ (places : NullPlaces) (qs : List Policy) (db db' : Database)
    (same : (t : TableDecl) → HasPolicy qs t → db t ≡ db' t) where
  mutual
    gives-agree : (e : Expr) (v : View) → ¬ AnyOf (LacksPolicy qs) (in_expr v e) → (rows : Group) (vs : List Value)
        → Gives places e db rows vs → Gives places e db' rows vs
    gives-agree (column o c) v n rows vs g = g
    gives-agree (value ty x) v n rows vs g = g
    gives-agree (list es) v n rows vs g = all-give es v n rows vs g
    gives-agree count_star v n rows vs g = g
    gives-agree (nullable e) v n rows vs g = gives-agree e v n rows vs g
    gives-agree (unary u e) v n rows vs g = (g.0, gives-agree e v n rows (g.0 ∷ []) g.1, g.2)
    gives-agree (count e) v n rows vs g =
        (g.0, AllZip-weaken _ _ (λ row x m. gives-agree e v n (alone row) (x ∷ []) m) rows g.0 g.1, g.2)
    gives-agree (compared by a b) v n rows vs g = (
      g.0,
      g.1,
      gives-agree a v (free_left (LacksPolicy qs) (in_expr v a) (in_expr v b) n) rows (g.0 ∷ []) g.2,
      gives-agree b v (free_right (LacksPolicy qs) (in_expr v a) (in_expr v b) n) rows (g.1 ∷ []) g.3,
      g.4,
    )
    gives-agree (joined by a b) v n rows vs g = (
      g.0,
      g.1,
      gives-agree a v (free_left (LacksPolicy qs) (in_expr v a) (in_expr v b) n) rows (g.0 ∷ []) g.2,
      gives-agree b v (free_right (LacksPolicy qs) (in_expr v a) (in_expr v b) n) rows (g.1 ∷ []) g.3,
      g.4,
    )
    gives-agree (exists q) v n rows vs g = (g.0, answers-agree q v n (one_row rows) g.0 g.1, g.2)
    gives-agree (single q) v n rows vs g = (g.0, answers-agree q v n (one_row rows) g.0 g.1, g.2)
    gives-agree (among_values m e ty xs) v n rows vs g = (g.0, gives-agree e v n rows (g.0 ∷ []) g.1, g.2)
    gives-agree (among_rows m e q) v n rows vs g = (
      g.0,
      g.1,
      gives-agree e v (free_left (LacksPolicy qs) (in_expr v e) (parts v q) n) rows (g.0 ∷ []) g.2,
      answers-agree q v (free_right (LacksPolicy qs) (in_expr v e) (parts v q) n) (one_row rows) g.1 g.3,
      g.4,
    )

    all-give : (es : Exprs) (v : View) → ¬ AnyOf (LacksPolicy qs) (in_exprs v es) → (rows : Group) (vs : List Value)
        → AllGive places es db rows vs → AllGive places es db' rows vs
    all-give no_exprs v n rows vs g = g
    all-give (more_exprs e es) v n rows vs g = (
      g.0,
      g.1,
      gives-agree e v (free_left (LacksPolicy qs) (in_expr v e) (in_exprs v es) n) rows g.0 g.2,
      all-give es v (free_right (LacksPolicy qs) (in_expr v e) (in_exprs v es) n) rows g.1 g.3,
      g.4,
    )

    holds-agree : (c : MaybeExpr) (v : View) → ¬ AnyOf (LacksPolicy qs) (in_maybe v c) → (rows : Group) (b : Bool)
        → Holds places c db rows b → Holds places c db' rows b
    holds-agree no_expr v n rows b g = g
    holds-agree (an_expr e) v n rows b g = (g.0, gives-agree e v n rows (g.0 ∷ []) g.1, g.2)

    source-agree : (s : Source) → ¬ AnyOf (LacksPolicy qs) (in_source s) → Agree db db' (source_leaves s)
        → (rows : List Frame)
        → SourceRows places s db rows → SourceRows places s db' rows
    source-agree (of_table t only sample) n k rows g =
        subst (λ xs. IsPart (is_partial only sample) (rows_as (a_table t) xs) rows) k.0 g
    source-agree (of_alias a t) n k rows g = subst (λ xs. IsPart false (rows_as (an_alias a t) xs) rows) k.0 g
    source-agree (join kind l r on) n k rows g =
        let here = in_maybe (origins l ++ origins r) on in
        let n' : ¬ AnyOf (LacksPolicy qs) (in_source r ++ here) = free_right (LacksPolicy qs) (in_source l)
        (in_source r ++ here) n in (
          g.0,
          g.1,
          source-agree l (free_left (LacksPolicy qs) (in_source l) (in_source r ++ here) n)
              (Each-front _ (source_leaves l) (source_leaves r) k) g.0 g.2,
          source-agree r (free_left (LacksPolicy qs) (in_source r) here n')
              (Each-end _ (source_leaves l) (source_leaves r) k) g.1 g.3,
          Joined-weaken kind (nulls (leaves r)) _ _
              (λ row b m. holds-agree on (origins l ++ origins r) (free_right (LacksPolicy qs) (in_source r) here n')
              (alone row) b m) g.1 g.4,
        )

    from-agree : (f : From) → ¬ AnyOf (LacksPolicy qs) (in_from f) → Agree db db' (origins_of f) → (rows : List Frame)
        → FromRows places f db rows → FromRows places f db' rows
    from-agree no_source n k rows g = g
    from-agree (from s) n k rows g = source-agree s n (from_agree qs db db' s k) rows g

    grouped-agree : (g : MaybeExpr) (v : View) → ¬ AnyOf (LacksPolicy qs) (in_maybe v g)
        → (counted : Bool) (rows : List Frame)
        (groups : List Group) → GroupedBy places g counted db rows groups → GroupedBy places g counted db' rows groups
    grouped-agree (an_expr e) v n counted rows groups g =
        (g.0, AllZip-weaken _ _ (λ row key m. gives-agree e v n (alone row) key m) rows g.0 g.1, g.2)
    grouped-agree no_expr v n true rows groups g = g
    grouped-agree no_expr v n false rows groups g = g

    key-agree : (u : Distinct) (v : View) → ¬ AnyOf (LacksPolicy qs) (in_distinct v u) → (rows : Group) (key : Row)
        → KeyGives places u db rows key → KeyGives places u db' rows key
    key-agree every v n rows key g = g
    key-agree distinct v n rows key g = g
    key-agree (distinct_on e) v n rows key g = gives-agree e v n rows key g

    items-agree : (is : Items) (v : View) → ¬ AnyOf (LacksPolicy qs) (in_items v is) → (rows : Group) (vs : Row)
        → ItemsGive places is db rows vs → ItemsGive places is db' rows vs
    items-agree no_items v n rows vs g = g
    items-agree (more_items e by is) v n rows vs g = (
      g.0,
      g.1,
      gives-agree e v (free_left (LacksPolicy qs) (in_expr v e) (in_items v is) n) rows (g.0 ∷ []) g.2,
      items-agree is v (free_right (LacksPolicy qs) (in_expr v e) (in_items v is) n) rows g.1 g.3,
      g.4,
    )

    order-agree : (o : Order) (v : View) → ¬ AnyOf (LacksPolicy qs) (in_order v o) → (rows : Group) (vs : Row)
        → OrderGives places o db rows vs → OrderGives places o db' rows vs
    order-agree no_order v n rows vs g = g
    order-agree (order_by is) v n rows vs g = items-agree is v n rows vs g

    pub answers-agree : (s : Statement) (v : View) → ¬ AnyOf (LacksPolicy qs) (parts v s)
        → (outer : Frame) (answer : List Row)
        → Answers places s db outer answer → Answers places s db' outer answer
    answers-agree (select default e f u w o rows g h form marks) v n outer answer a =
        let own = origins_of f in
        let wide = widest form f v in
        let n0 : ¬ AnyOf (LacksPolicy qs)
        (in_distinct own u ++ (in_expr own e ++ (in_from f ++ (in_maybe wide w ++ (in_maybe own g ++ (in_maybe own h
        ++ in_order own o)))))) = λ i. n (inr i) in
        let n1 = free_right (LacksPolicy qs) (in_distinct own u) _ n0 in
        let n2 = free_right (LacksPolicy qs) (in_expr own e) _ n1 in
        let n3 = free_right (LacksPolicy qs) (in_from f) _ n2 in
        let n4 = free_right (LacksPolicy qs) (in_maybe wide w) _ n3 in
        let n5 = free_right (LacksPolicy qs) (in_maybe own g) _ n4 in (
          a.0,
          a.1,
          a.2,
          a.3,
          a.4,
          a.5,
          from-agree f (free_left (LacksPolicy qs) (in_from f) _ n2)
              (all-agree qs db db' same own (λ i. n (inl i))) a.0 a.6,
          Filtered-weaken _ _
              (λ row b m. holds-agree w wide (free_left (LacksPolicy qs) (in_maybe wide w) _ n3)
              (alone (where_sees form f row outer)) b m) a.7,
          a.8,
          grouped-agree g own (free_left (LacksPolicy qs) (in_maybe own g) _ n4) (counts e u o) a.2 a.3 a.9,
          Filtered-weaken _ _
              (λ group b m. holds-agree h own (free_left (LacksPolicy qs) (in_maybe own h) (in_order own o) n5) group b m)
              a.10,
          AllZip-weaken _ _
              (λ group line m. (
                gives-agree e own (free_left (LacksPolicy qs) (in_expr own e) _ n1) group line.shown m.0,
                key-agree u own (free_left (LacksPolicy qs) (in_distinct own u) _ n0) group line.key m.1,
                order-agree o own (free_right (LacksPolicy qs) (in_maybe own h) (in_order own o) n5) group line.order m.2,
              ))
              a.4 a.5 a.11,
          a.12,
          a.13,
        )
    answers-agree (combination by all l r o rows) v n outer answer a =
        let inside : ¬ AnyOf (LacksPolicy qs) (parts v l ++ parts v r) = λ i. n (inr i) in (
          a.0,
          a.1,
          a.2,
          answers-agree l v (free_left (LacksPolicy qs) (parts v l) (parts v r) inside) outer a.0 a.3,
          answers-agree r v (free_right (LacksPolicy qs) (parts v l) (parts v r) inside) outer a.1 a.4,
          a.5,
          a.6,
          a.7,
        )
