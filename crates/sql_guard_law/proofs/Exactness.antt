-- The guarded statement answers what the statement answers over the cut database, in every frame.
use Rattle.std.proofs.Common.{◌≡◌, Bool, true, false, ◌&&◌, List, [], ◌∷◌, ◌++◌, map, refl, sym, ap, subst, ◌∙◌, filter, inl, inr}
use Rattle.sql_schema.specs.Declarations.{Declarations}
use Rattle.sql_schema.specs.declared.declaration.TableDecl.{TableDecl}
use Rattle.sql_dialect.specs.declared.backend.Dialect.{Dialect}
use Rattle.sql_leaf.specs.declared.table_source.JoinKind.TheVariants.{Inner, LeftOuter}
use Rattle.sql_pass.specs.declared.value.Value.{Value}
use Rattle.sql_node.specs.Tree.{Expr, column, value, list, count_star, nullable, unary, count, compared, joined, exists, single, among_values, among_rows, Exprs, no_exprs, more_exprs, Items, no_items, more_items, MaybeExpr, no_expr, an_expr, Source, of_table, of_alias, join, From, no_source, from, Distinct, every, distinct, distinct_on, Order, no_order, order_by, Statement, select, combination}
use Rattle.sql_origin.specs.Leaves.{leaves}
use Rattle.sql_origin.specs.Origins.{a_table, an_alias}
use Rattle.sql_rules.specs.Scope.{View, parts, origins, origins_of, widest, in_expr, in_exprs, in_items, in_maybe, in_source, in_from, in_distinct, in_order}
use Rattle.sql_rules.specs.declared.rule.Rule.TheVariants as R
use Rattle.sql_rows_meaning.specs.Answers.{Gives, AllGive, Holds, SourceRows, FromRows, GroupedBy, KeyGives, ItemsGive, OrderGives, Answers, Joined, rows_as, is_partial, directions, ordered_by}
use Rattle.sql_rows_meaning.specs.Frames.{Database, Frame, nulls, where_sees}
use Rattle.sql_rows_meaning.specs.Groups.{Group, alone, one_row, counts}
use Rattle.sql_rows_meaning.specs.Rows.{Row, NullPlaces, Filtered, IsPart, IsOrdered, page}
use Rattle.sql_rows_meaning.proofs.Existence.{holds-some}
use Rattle.sql_rows_meaning.proofs.Kept.{Clean, Clean-left, Clean-right}
use Rattle.sql_rows_meaning.proofs.Lists.{AllZip-weaken}
use Rattle.sql_rows_meaning.proofs.Soundness.{the_select}
use Rattle.sql_rows_meaning.proofs.TypedClauses.{IsTypedSource, IsTypedFrom, select-typed}
use Rattle.sql_guard_law.specs.Guarded.{guarded_expr, guarded_exprs, guarded_items, guarded_maybe, guarded_source, guarded_from, guarded_distinct, guarded_order, guarded}
use Rattle.sql_guard_law.specs.Restricted.{predicates, with_all}
use Rattle.sql_guard_law.specs.Tenant.{AnswersAsCut, BreaksAtMostTooManyBinds, IsCut, IsPredicate}
use Rattle.sql_guard_law.proofs.Cuts.{Filtered-weaken, inner-to, inner-back, outer-to, outer-back}
use Rattle.sql_guard_law.proofs.Filters.{filter-all, Each-always, part-widened, part-filtered}
use Rattle.sql_guard_law.proofs.GuardedShapes.{leaves-same, counts-same, directions-same, ordered-same, left-same}
use Rattle.sql_guard_law.proofs.Leaves.{IsFit, Named, pass, added-of, added-to}
use Rattle.sql_guard_law.proofs.Plain.{IsPlainSource, IsPlainFrom, at_most-clean, predicate-fit}
use Rattle.sql_guard_law.proofs.CutRows.{open_from, passes_open, and_met, and_unmet, leaf_rows, source-named, from-named, left_pass, right_pass, both_pass, where-to, where-back, plain-of}

module _ (places : NullPlaces) (t : TableDecl) (p : Expr) (fit : IsFit t p) (db cut : Database)
    (is_cut : IsCut places t p db cut) (schema : Declarations) (d : Dialect) where
  mutual
    gives-to : (e : Expr) (v : View) → Clean schema d (in_expr v e) → (rows : Group) (vs : List Value)
        → Gives places (guarded_expr t p e) db rows vs
        → Gives places e cut rows vs
    gives-to (column o c) v k rows vs g = g
    gives-to (value ty x) v k rows vs g = g
    gives-to (list es) v k rows vs g = all-to es v k rows vs g
    gives-to count_star v k rows vs g = g
    gives-to (nullable e) v k rows vs g = gives-to e v k rows vs g
    gives-to (unary u e) v k rows vs g = (g.0, gives-to e v k rows (g.0 ∷ []) g.1, g.2)
    gives-to (count e) v k rows vs g =
        (g.0, AllZip-weaken _ _ (λ row x m. gives-to e v k (alone row) (x ∷ []) m) rows g.0 g.1, g.2)
    gives-to (compared by a b) v k rows vs g = (
      g.0,
      g.1,
      gives-to a v (Clean-left schema d (in_expr v a) (in_expr v b) k) rows (g.0 ∷ []) g.2,
      gives-to b v (Clean-right schema d (in_expr v a) (in_expr v b) k) rows (g.1 ∷ []) g.3,
      g.4,
    )
    gives-to (joined by a b) v k rows vs g = (
      g.0,
      g.1,
      gives-to a v (Clean-left schema d (in_expr v a) (in_expr v b) k) rows (g.0 ∷ []) g.2,
      gives-to b v (Clean-right schema d (in_expr v a) (in_expr v b) k) rows (g.1 ∷ []) g.3,
      g.4,
    )
    gives-to (exists q) v k rows vs g = (g.0, answers-to q v k (one_row rows) g.0 g.1, g.2)
    gives-to (single q) v k rows vs g = (g.0, answers-to q v k (one_row rows) g.0 g.1, g.2)
    gives-to (among_values m e ty xs) v k rows vs g = (g.0, gives-to e v k rows (g.0 ∷ []) g.1, g.2)
    gives-to (among_rows m e q) v k rows vs g = (
      g.0,
      g.1,
      gives-to e v (Clean-left schema d (in_expr v e) (parts v q) k) rows (g.0 ∷ []) g.2,
      answers-to q v (Clean-right schema d (in_expr v e) (parts v q) k) (one_row rows) g.1 g.3,
      g.4,
    )

    all-to : (es : Exprs) (v : View) → Clean schema d (in_exprs v es) → (rows : Group) (vs : List Value)
        → AllGive places (guarded_exprs t p es) db rows vs
        → AllGive places es cut rows vs
    all-to no_exprs v k rows vs g = g
    all-to (more_exprs e es) v k rows vs g = (
      g.0,
      g.1,
      gives-to e v (Clean-left schema d (in_expr v e) (in_exprs v es) k) rows g.0 g.2,
      all-to es v (Clean-right schema d (in_expr v e) (in_exprs v es) k) rows g.1 g.3,
      g.4,
    )

    holds-to : (c : MaybeExpr) (v : View) → Clean schema d (in_maybe v c) → (rows : Group) (b : Bool)
        → Holds places (guarded_maybe t p c) db rows b
        → Holds places c cut rows b
    holds-to no_expr v k rows b g = g
    holds-to (an_expr e) v k rows b g = (g.0, gives-to e v k rows (g.0 ∷ []) g.1, g.2)

    grouped-to : (g : MaybeExpr) (v : View) → Clean schema d (in_maybe v g) → (counted : Bool) (rows : List Frame)
        (groups : List Group)
        → GroupedBy places (guarded_maybe t p g) counted db rows groups
        → GroupedBy places g counted cut rows groups
    grouped-to (an_expr e) v k counted rows groups g =
        (g.0, AllZip-weaken _ _ (λ row key m. gives-to e v k (alone row) key m) rows g.0 g.1, g.2)
    grouped-to no_expr v k true rows groups g = g
    grouped-to no_expr v k false rows groups g = g

    key-to : (u : Distinct) (v : View) → Clean schema d (in_distinct v u) → (rows : Group) (key : Row)
        → KeyGives places (guarded_distinct t p u) db rows key
        → KeyGives places u cut rows key
    key-to every v k rows key g = g
    key-to distinct v k rows key g = g
    key-to (distinct_on e) v k rows key g = gives-to e v k rows key g

    items-to : (is : Items) (v : View) → Clean schema d (in_items v is) → (rows : Group) (vs : Row)
        → ItemsGive places (guarded_items t p is) db rows vs
        → ItemsGive places is cut rows vs
    items-to no_items v k rows vs g = g
    items-to (more_items e by is) v k rows vs g = (
      g.0,
      g.1,
      gives-to e v (Clean-left schema d (in_expr v e) (in_items v is) k) rows (g.0 ∷ []) g.2,
      items-to is v (Clean-right schema d (in_expr v e) (in_items v is) k) rows g.1 g.3,
      g.4,
    )

    order-to : (o : Order) (v : View) → Clean schema d (in_order v o) → (rows : Group) (vs : Row)
        → OrderGives places (guarded_order t p o) db rows vs
        → OrderGives places o cut rows vs
    order-to no_order v k rows vs g = g
    order-to (order_by is) v k rows vs g = items-to is v k rows vs g

    source-to : (s : Source) → Clean schema d (in_source s) → IsPlainSource s → (rows : List Frame)
        → SourceRows places (guarded_source t p s) db rows → SourceRows places s cut (filter (passes_open t p s) rows)
    source-to (of_table u only sample) k h rows g =
        subst (λ ws. IsPart (is_partial only sample) ws (filter (passes_open t p (of_table u only sample)) rows))
        (sym (leaf_rows places t p fit db cut is_cut schema d (a_table u)))
        (part-filtered (is_partial only sample) (passes_open t p (of_table u only sample))
        (rows_as (a_table u) (db u)) rows g)
    source-to (of_alias a u) k h rows g =
        subst (λ ws. IsPart false ws (filter (passes_open t p (of_alias a u)) rows))
        (sym (leaf_rows places t p fit db cut is_cut schema d (an_alias a u)))
        (part-filtered false (passes_open t p (of_alias a u)) (rows_as (an_alias a u) (db u)) rows g)
    source-to (join Inner a b on) k h rows g =
        let here = in_maybe (origins a ++ origins b) on in
        let k' : Clean schema d (in_source b ++ here) = Clean-right schema d (in_source a) (in_source b ++ here) k in (
          filter (passes_open t p a) g.0,
          filter (passes_open t p b) g.1,
          source-to a (Clean-left schema d (in_source a) (in_source b ++ here) k) h.0 g.0 g.2,
          source-to b (Clean-left schema d (in_source b) here k') h.1 g.1 g.3,
          inner-to (Named a) (Named b) (nulls (leaves b))
              (λ row c. Holds places (guarded_maybe t p on) db (alone row) c) (λ row c. Holds places on cut (alone row) c)
              (passes_open t p (join Inner a b on)) (passes_open t p a) (passes_open t p b)
              (both_pass places t p fit db cut is_cut schema d a b h.3 on)
              (λ z c m. holds-to on (origins a ++ origins b) (Clean-right schema d (in_source b) here k') (alone z) c m)
              g.1 (source-named places t p fit db cut is_cut schema d b g.1 g.3)
              (source-named places t p fit db cut is_cut schema d a g.0 g.2)
              (subst (λ ls. Joined Inner (nulls ls)
              (λ row c. Holds places (guarded_maybe t p on) db (alone row) c) g.1 g.0 rows)
              (leaves-same t p b) g.4),
        )
    source-to (join LeftOuter a b on) k h rows g =
        let here = in_maybe (origins a ++ origins b) on in
        let k' : Clean schema d (in_source b ++ here) = Clean-right schema d (in_source a) (in_source b ++ here) k in (
          filter (passes_open t p a) g.0,
          filter (passes_open t p b) g.1,
          source-to a (Clean-left schema d (in_source a) (in_source b ++ here) k) h.0 g.0 g.2,
          source-to b (Clean-left schema d (in_source b) here k') h.1 g.1 g.3,
          outer-to (Named a) (Named b) (nulls (leaves b))
              (λ row c. Holds places (with_all (predicates t p b) (guarded_maybe t p on)) db (alone row) c)
              (λ row c. Holds places on cut (alone row) c)
              (passes_open t p (join LeftOuter a b on)) (passes_open t p a) (passes_open t p b) (passes_open t p b)
              (λ x y m n. left_pass places t p fit db cut is_cut schema d a x y m)
              (λ x m. left_pass places t p fit db cut is_cut schema d a x (nulls (leaves b)) m)
              (λ x y m n. right_pass places t p fit db cut is_cut schema d a b x y h.3 m)
              (λ z c m e. let (i, held, is) = added-of places p fit.test db (alone z) t fit.own b
              (guarded_maybe t p on) c m in
              holds-to on (origins a ++ origins b) (Clean-right schema d (in_source b) here k') (alone z) c
              (subst (λ x. Holds places (guarded_maybe t p on) db (alone z) x)
              (sym (is ∙ and_met i (passes_open t p b z) e)) held))
              (λ z c m e. let (i, held, is) = added-of places p fit.test db (alone z) t fit.own b
              (guarded_maybe t p on) c m in
              is ∙ and_unmet i (passes_open t p b z) e)
              g.1 (source-named places t p fit db cut is_cut schema d b g.1 g.3)
              (source-named places t p fit db cut is_cut schema d a g.0 g.2)
              (subst (λ ls. Joined LeftOuter (nulls ls)
              (λ row c. Holds places (with_all (predicates t p b) (guarded_maybe t p on)) db (alone row) c) g.1 g.0 rows)
              (leaves-same t p b) g.4),
        )

    rows-to : (f : From) → Clean schema d (in_from f) → IsPlainFrom f → (rows : List Frame)
        → FromRows places (guarded_from t p f) db rows → FromRows places f cut (filter (pass p (open_from t f)) rows)
    rows-to no_source k h rows g = rw g refl
    rows-to (from s) k h rows g = source-to s k h rows g

    answers-to : (s : Statement) (v : View) → Clean schema d (parts v s) → (outer : Frame) (answer : List Row)
        → Answers places (guarded t p s) db outer answer
        → Answers places s cut outer answer
    answers-to (select default e f u w o rows g h form marks) v k outer answer a =
        let own = origins_of f in
        let wide = widest form f v in
        let k0 : Clean schema d
        (in_distinct own u ++ (in_expr own e ++ (in_from f ++ (in_maybe wide w ++ (in_maybe own g ++ (in_maybe own h
        ++ in_order own o)))))) = λ r i. k r (inr i) in
        let k1 = Clean-right schema d (in_distinct own u) _ k0 in
        let k2 = Clean-right schema d (in_expr own e) _ k1 in
        let k3 = Clean-right schema d (in_from f) _ k2 in
        let k4 = Clean-right schema d (in_maybe wide w) _ k3 in
        let k5 = Clean-right schema d (in_maybe own g) _ k4 in
        let kf = Clean-left schema d (in_from f) _ k2 in
        let kw = Clean-left schema d (in_maybe wide w) _ k3 in
        let plain = plain-of places t p fit db cut is_cut schema d v default e f u w o rows g h form marks k in (
          filter (pass p (open_from t f)) a.0,
          a.1,
          a.2,
          a.3,
          a.4,
          a.5,
          rows-to f kf plain a.0 a.6,
          where-to places t p fit db cut is_cut schema d form f w outer
              (λ group b m. holds-to w wide kw group b m) a.0 a.1
              (from-named places t p fit db cut is_cut schema d f a.0 a.6) a.7,
          a.8,
          grouped-to g own (Clean-left schema d (in_maybe own g) _ k4) (counts e u o) a.2 a.3
              (subst (λ b. GroupedBy places (guarded_maybe t p g) b db a.2 a.3) (counts-same t p e u o) a.9),
          Filtered-weaken _ _
              (λ group b m. holds-to h own (Clean-left schema d (in_maybe own h) (in_order own o) k5) group b m)
              a.10,
          AllZip-weaken _ _
              (λ group line m. (
                gives-to e own (Clean-left schema d (in_expr own e) _ k1) group line.shown m.0,
                key-to u own (Clean-left schema d (in_distinct own u) _ k0) group line.key m.1,
                order-to o own (Clean-right schema d (in_maybe own h) (in_order own o) k5) group line.order m.2,
              ))
              a.4 a.5 a.11,
          subst (λ ds. IsOrdered places ds (map (λ line. line.order) (ordered_by u a.5))) (directions-same t p o)
              (subst (λ ls. IsOrdered places (directions (guarded_order t p o)) (map (λ line. line.order) ls))
              (ordered-same t p u a.5) a.12),
          a.13 ∙ ap (λ ls. page rows (map (λ line. line.shown) ls)) (left-same t p u a.5),
        )
    answers-to (combination by all l r o rows) v k outer answer a =
        let inside : Clean schema d (parts v l ++ parts v r) = λ q i. k q (inr i) in (
          a.0,
          a.1,
          a.2,
          answers-to l v (Clean-left schema d (parts v l) (parts v r) inside) outer a.0 a.3,
          answers-to r v (Clean-right schema d (parts v l) (parts v r) inside) outer a.1 a.4,
          a.5,
          a.6,
          a.7,
        )

  mutual
    gives-back : (e : Expr) (v : View) → Clean schema d (in_expr v e) → (rows : Group) (vs : List Value)
        → Gives places e cut rows vs
        → Gives places (guarded_expr t p e) db rows vs
    gives-back (column o c) v k rows vs g = g
    gives-back (value ty x) v k rows vs g = g
    gives-back (list es) v k rows vs g = all-back es v k rows vs g
    gives-back count_star v k rows vs g = g
    gives-back (nullable e) v k rows vs g = gives-back e v k rows vs g
    gives-back (unary u e) v k rows vs g = (g.0, gives-back e v k rows (g.0 ∷ []) g.1, g.2)
    gives-back (count e) v k rows vs g =
        (g.0, AllZip-weaken _ _ (λ row x m. gives-back e v k (alone row) (x ∷ []) m) rows g.0 g.1, g.2)
    gives-back (compared by a b) v k rows vs g = (
      g.0,
      g.1,
      gives-back a v (Clean-left schema d (in_expr v a) (in_expr v b) k) rows (g.0 ∷ []) g.2,
      gives-back b v (Clean-right schema d (in_expr v a) (in_expr v b) k) rows (g.1 ∷ []) g.3,
      g.4,
    )
    gives-back (joined by a b) v k rows vs g = (
      g.0,
      g.1,
      gives-back a v (Clean-left schema d (in_expr v a) (in_expr v b) k) rows (g.0 ∷ []) g.2,
      gives-back b v (Clean-right schema d (in_expr v a) (in_expr v b) k) rows (g.1 ∷ []) g.3,
      g.4,
    )
    gives-back (exists q) v k rows vs g = (g.0, answers-back q v k (one_row rows) g.0 g.1, g.2)
    gives-back (single q) v k rows vs g = (g.0, answers-back q v k (one_row rows) g.0 g.1, g.2)
    gives-back (among_values m e ty xs) v k rows vs g = (g.0, gives-back e v k rows (g.0 ∷ []) g.1, g.2)
    gives-back (among_rows m e q) v k rows vs g = (
      g.0,
      g.1,
      gives-back e v (Clean-left schema d (in_expr v e) (parts v q) k) rows (g.0 ∷ []) g.2,
      answers-back q v (Clean-right schema d (in_expr v e) (parts v q) k) (one_row rows) g.1 g.3,
      g.4,
    )

    all-back : (es : Exprs) (v : View) → Clean schema d (in_exprs v es) → (rows : Group) (vs : List Value)
        → AllGive places es cut rows vs
        → AllGive places (guarded_exprs t p es) db rows vs
    all-back no_exprs v k rows vs g = g
    all-back (more_exprs e es) v k rows vs g = (
      g.0,
      g.1,
      gives-back e v (Clean-left schema d (in_expr v e) (in_exprs v es) k) rows g.0 g.2,
      all-back es v (Clean-right schema d (in_expr v e) (in_exprs v es) k) rows g.1 g.3,
      g.4,
    )

    holds-back : (c : MaybeExpr) (v : View) → Clean schema d (in_maybe v c) → (rows : Group) (b : Bool)
        → Holds places c cut rows b
        → Holds places (guarded_maybe t p c) db rows b
    holds-back no_expr v k rows b g = g
    holds-back (an_expr e) v k rows b g = (g.0, gives-back e v k rows (g.0 ∷ []) g.1, g.2)

    grouped-back : (g : MaybeExpr) (v : View) → Clean schema d (in_maybe v g) → (counted : Bool) (rows : List Frame)
        (groups : List Group)
        → GroupedBy places g counted cut rows groups
        → GroupedBy places (guarded_maybe t p g) counted db rows groups
    grouped-back (an_expr e) v k counted rows groups g =
        (g.0, AllZip-weaken _ _ (λ row key m. gives-back e v k (alone row) key m) rows g.0 g.1, g.2)
    grouped-back no_expr v k true rows groups g = g
    grouped-back no_expr v k false rows groups g = g

    key-back : (u : Distinct) (v : View) → Clean schema d (in_distinct v u) → (rows : Group) (key : Row)
        → KeyGives places u cut rows key
        → KeyGives places (guarded_distinct t p u) db rows key
    key-back every v k rows key g = g
    key-back distinct v k rows key g = g
    key-back (distinct_on e) v k rows key g = gives-back e v k rows key g

    items-back : (is : Items) (v : View) → Clean schema d (in_items v is) → (rows : Group) (vs : Row)
        → ItemsGive places is cut rows vs
        → ItemsGive places (guarded_items t p is) db rows vs
    items-back no_items v k rows vs g = g
    items-back (more_items e by is) v k rows vs g = (
      g.0,
      g.1,
      gives-back e v (Clean-left schema d (in_expr v e) (in_items v is) k) rows (g.0 ∷ []) g.2,
      items-back is v (Clean-right schema d (in_expr v e) (in_items v is) k) rows g.1 g.3,
      g.4,
    )

    order-back : (o : Order) (v : View) → Clean schema d (in_order v o) → (rows : Group) (vs : Row)
        → OrderGives places o cut rows vs
        → OrderGives places (guarded_order t p o) db rows vs
    order-back no_order v k rows vs g = g
    order-back (order_by is) v k rows vs g = items-back is v k rows vs g

    source-back : (s : Source) → Clean schema d (in_source s) → IsPlainSource s → IsTypedSource s → (found : List Frame)
        → SourceRows places s cut found
        → (rows : List Frame) × SourceRows places (guarded_source t p s) db rows
        × (filter (passes_open t p s) rows ≡ found)
    source-back (of_table u only sample) k h ty found g =
        part-widened (is_partial only sample) (passes_open t p (of_table u only sample))
        (rows_as (a_table u) (db u)) found
        (subst (λ ws. IsPart (is_partial only sample) ws found)
        (leaf_rows places t p fit db cut is_cut schema d (a_table u)) g)
    source-back (of_alias a u) k h ty found g =
        part-widened false (passes_open t p (of_alias a u)) (rows_as (an_alias a u) (db u)) found
        (subst (λ ws. IsPart false ws found) (leaf_rows places t p fit db cut is_cut schema d (an_alias a u)) g)
    source-back (join Inner a b on) k h ty found g =
        let here = in_maybe (origins a ++ origins b) on in
        let k' : Clean schema d (in_source b ++ here) = Clean-right schema d (in_source a) (in_source b ++ here) k in
        let kon : Clean schema d here = Clean-right schema d (in_source b) here k' in
        let (xs, gx, xs_are) = source-back a
        (Clean-left schema d (in_source a) (in_source b ++ here) k) h.0 ty.0 g.0 g.2 in
        let (ys, gy, ys_are) = source-back b (Clean-left schema d (in_source b) here k') h.1 ty.1 g.1 g.3 in
        let (rows, j, are) = inner-back (Named a) (Named b) (nulls (leaves b))
        (λ row c. Holds places (guarded_maybe t p on) db (alone row) c) (λ row c. Holds places on cut (alone row) c)
        (passes_open t p (join Inner a b on)) (passes_open t p a) (passes_open t p b)
        (both_pass places t p fit db cut is_cut schema d a b h.3 on)
        (λ z c m. holds-back on (origins a ++ origins b) kon (alone z) c m)
        (λ z. let (c, m) = holds-some places schema d cut on (origins a ++ origins b) kon ty.2 (alone z) in
        (c, holds-back on (origins a ++ origins b) kon (alone z) c m))
        ys (source-named places t p fit db cut is_cut schema d b ys gy) xs found
        (source-named places t p fit db cut is_cut schema d a xs gx)
        (subst (λ l. Joined Inner (nulls (leaves b)) (λ row c. Holds places on cut (alone row) c) l
        (filter (passes_open t p a) xs) found)
        (sym ys_are)
        (subst (λ l. Joined Inner (nulls (leaves b)) (λ row c. Holds places on cut (alone row) c) g.1 l found)
        (sym xs_are) g.4)) in (
          rows,
          (
            xs,
            ys,
            gx,
            gy,
            subst (λ ls. Joined Inner (nulls ls)
                (λ row c. Holds places (guarded_maybe t p on) db (alone row) c) ys xs rows)
                (sym (leaves-same t p b)) j,
          ),
          are,
        )
    source-back (join LeftOuter a b on) k h ty found g =
        let here = in_maybe (origins a ++ origins b) on in
        let k' : Clean schema d (in_source b ++ here) = Clean-right schema d (in_source a) (in_source b ++ here) k in
        let kon : Clean schema d here = Clean-right schema d (in_source b) here k' in
        let (xs, gx, xs_are) = source-back a
        (Clean-left schema d (in_source a) (in_source b ++ here) k) h.0 ty.0 g.0 g.2 in
        let (ys, gy, ys_are) = source-back b (Clean-left schema d (in_source b) here k') h.1 ty.1 g.1 g.3 in
        let some : (z : Frame) → (c : Bool) × Holds places (guarded_maybe t p on) db (alone z) c =
        λ z. (let (c, m) = holds-some places schema d cut on (origins a ++ origins b) kon ty.2 (alone z) in
        (c, holds-back on (origins a ++ origins b) kon (alone z) c m)) in
        let (rows, j, are) = outer-back (Named a) (Named b) (nulls (leaves b))
        (λ row c. Holds places (with_all (predicates t p b) (guarded_maybe t p on)) db (alone row) c)
        (λ row c. Holds places on cut (alone row) c)
        (passes_open t p (join LeftOuter a b on)) (passes_open t p a) (passes_open t p b) (passes_open t p b)
        (λ x y m n. left_pass places t p fit db cut is_cut schema d a x y m)
        (λ x m. left_pass places t p fit db cut is_cut schema d a x (nulls (leaves b)) m)
        (λ x y m n. right_pass places t p fit db cut is_cut schema d a b x y h.3 m)
        (λ z c m e. subst (λ x. Holds places (with_all (predicates t p b) (guarded_maybe t p on)) db (alone z) x)
        (and_met c (passes_open t p b z) e)
        (added-to places p fit.test db (alone z) t fit.own b (guarded_maybe t p on) c
        (holds-back on (origins a ++ origins b) kon (alone z) c m)))
        (λ z e. let (c, m) = some z in
        subst (λ x. Holds places (with_all (predicates t p b) (guarded_maybe t p on)) db (alone z) x)
        (and_unmet c (passes_open t p b z) e)
        (added-to places p fit.test db (alone z) t fit.own b (guarded_maybe t p on) c m))
        (λ z. let (c, m) = some z in
        (c && passes_open t p b z, added-to places p fit.test db (alone z) t fit.own b (guarded_maybe t p on) c m))
        ys (source-named places t p fit db cut is_cut schema d b ys gy) xs found
        (source-named places t p fit db cut is_cut schema d a xs gx)
        (subst (λ l. Joined LeftOuter (nulls (leaves b)) (λ row c. Holds places on cut (alone row) c) l
        (filter (passes_open t p a) xs) found) (sym ys_are)
        (subst (λ l. Joined LeftOuter (nulls (leaves b)) (λ row c. Holds places on cut (alone row) c) g.1 l found)
        (sym xs_are) g.4)) in (
          rows,
          (
            xs,
            ys,
            gx,
            gy,
            subst (λ ls. Joined LeftOuter (nulls ls)
                (λ row c. Holds places (with_all (predicates t p b) (guarded_maybe t p on)) db (alone row) c) ys xs rows)
                (sym (leaves-same t p b)) j,
          ),
          are,
        )

    rows-back : (f : From) → Clean schema d (in_from f) → IsPlainFrom f → IsTypedFrom f → (found : List Frame)
        → FromRows places f cut found
        → (rows : List Frame) × FromRows places (guarded_from t p f) db rows
        × (filter (pass p (open_from t f)) rows ≡ found)
    rows-back no_source k h ty found g =
        (found, g, filter-all (λ row. true) found (Each-always _ (λ row. refl) found))
    rows-back (from s) k h ty found g = source-back s k h ty found g

    answers-back : (s : Statement) (v : View) → Clean schema d (parts v s) → (outer : Frame) (answer : List Row)
        → Answers places s cut outer answer
        → Answers places (guarded t p s) db outer answer
    answers-back (select default e f u w o rows g h form marks) v k outer answer a =
        let own = origins_of f in
        let wide = widest form f v in
        let k0 : Clean schema d
        (in_distinct own u ++ (in_expr own e ++ (in_from f ++ (in_maybe wide w ++ (in_maybe own g ++ (in_maybe own h
        ++ in_order own o)))))) = λ r i. k r (inr i) in
        let k1 = Clean-right schema d (in_distinct own u) _ k0 in
        let k2 = Clean-right schema d (in_expr own e) _ k1 in
        let k3 = Clean-right schema d (in_from f) _ k2 in
        let k4 = Clean-right schema d (in_maybe wide w) _ k3 in
        let k5 = Clean-right schema d (in_maybe own g) _ k4 in
        let kf = Clean-left schema d (in_from f) _ k2 in
        let kw = Clean-left schema d (in_maybe wide w) _ k3 in
        let plain = plain-of places t p fit db cut is_cut schema d v default e f u w o rows g h form marks k in
        let typed = select-typed v (the_select e f u w o rows g h form marks) (λ i. k R.TypeMismatch (inl (inl i))) in
        let (all, given_rows, all_are) = rows-back f kf plain typed.source a.0 a.6 in (
          all,
          a.1,
          a.2,
          a.3,
          a.4,
          a.5,
          given_rows,
          where-back places t p fit db cut is_cut schema d form f w outer (λ group b m. holds-back w wide kw group b m)
              (holds-some places schema d cut w wide kw typed.condition) all a.1
              (from-named places t p fit db cut is_cut schema d f all given_rows)
              (subst (λ l. Filtered (λ row b. Holds places w cut (alone (where_sees form f row outer)) b) l a.1)
              (sym all_are) a.7),
          a.8,
          subst (λ b. GroupedBy places (guarded_maybe t p g) b db a.2 a.3) (sym (counts-same t p e u o))
              (grouped-back g own (Clean-left schema d (in_maybe own g) _ k4) (counts e u o) a.2 a.3 a.9),
          Filtered-weaken _ _
              (λ group b m. holds-back h own (Clean-left schema d (in_maybe own h) (in_order own o) k5) group b m) a.10,
          AllZip-weaken _ _
              (λ group line m. (
                gives-back e own (Clean-left schema d (in_expr own e) _ k1) group line.shown m.0,
                key-back u own (Clean-left schema d (in_distinct own u) _ k0) group line.key m.1,
                order-back o own (Clean-right schema d (in_maybe own h) (in_order own o) k5) group line.order m.2,
              ))
              a.4 a.5 a.11,
          subst (λ ls. IsOrdered places (directions (guarded_order t p o)) (map (λ line. line.order) ls))
              (sym (ordered-same t p u a.5))
              (subst (λ ds. IsOrdered places ds (map (λ line. line.order) (ordered_by u a.5)))
              (sym (directions-same t p o))
              a.12),
          a.13 ∙ sym (ap (λ ls. page rows (map (λ line. line.shown) ls)) (left-same t p u a.5)),
        )
    answers-back (combination by all l r o rows) v k outer answer a =
        let inside : Clean schema d (parts v l ++ parts v r) = λ q i. k q (inr i) in (
          a.0,
          a.1,
          a.2,
          answers-back l v (Clean-left schema d (parts v l) (parts v r) inside) outer a.0 a.3,
          answers-back r v (Clean-right schema d (parts v l) (parts v r) inside) outer a.1 a.4,
          a.5,
          a.6,
          a.7,
        )

pub guard-exact : (schema : Declarations) (d : Dialect) (s : Statement) (t : TableDecl) (p : Expr)
    → BreaksAtMostTooManyBinds schema d s → IsPredicate t p → AnswersAsCut (guarded t p s) s t p
guard-exact schema d s t p h predicate places db cut is_cut answer =
    let fit = predicate-fit t p predicate in
    let clean = at_most-clean schema d s h in (
      answers-to places t p fit db cut is_cut schema d s [] clean [] answer,
      answers-back places t p fit db cut is_cut schema d s [] clean [] answer,
    )
