-- A statement that breaks no rule has an answer over every database, whether or not that conforms, in every frame.
use Rattle.std.proofs.Common.{◌≡◌, pos, ◌+◌, ◌≤◌, Bool, true, false, List, [], ◌∷◌, ◌++◌, map, length, Option, Some, None, refl, sym, ap, ap₂, subst, ◌∙◌, inl, inr, arith, IsPermutation, IsSortedBy}
use Rattle.std.proofs.lemmas.List.{length-append, length-map}
use Rattle.std.proofs.lemmas.List.Sorted.{IsPermutation-refl, IsPermutation-trans}
use Rattle.sql_schema.specs.Declarations.{Declarations}
use Rattle.sql_schema.specs.declared.types.SqlType.{SqlType}
use Rattle.sql_dialect.specs.declared.backend.Dialect.{Dialect}
use Rattle.sql_dialect.specs.declared.combination.Combinator.{Combinator}
use Rattle.sql_dialect.specs.declared.combination.DuplicateRule.{DuplicateRule}
use Rattle.sql_leaf.specs.declared.limit_offset.LimitOffsetClause.{LimitOffsetClause}
use Rattle.sql_leaf.specs.declared.marks.Marks.{Marks}
use Rattle.sql_leaf.specs.declared.position.PositionalItem.{PositionalItem}
use Rattle.sql_pass.specs.declared.value.Value.{Value}
use Rattle.sql_pass.specs.declared.value.Value.TheVariants as V
use Rattle.sql_node.specs.Tree.{Form, Expr, column, value, list, count_star, nullable, unary, count, compared, joined, exists, single, among_values, among_rows, Exprs, no_exprs, more_exprs, Items, no_items, more_items, MaybeExpr, no_expr, an_expr, Source, of_table, of_alias, join, From, no_source, from, Distinct, every, distinct, distinct_on, Order, no_order, order_by, Statement, select, combination}
use Rattle.sql_origin.specs.Leaves.{leaves}
use Rattle.sql_origin.specs.Origins.{a_table, an_alias}
use Rattle.sql_rules.specs.Rules.{Accepted}
use Rattle.sql_rules.specs.Scope.{View, parts, origins, origins_of, widest, in_expr, in_exprs, in_items, in_maybe, in_source, in_from, in_distinct, in_order}
use Rattle.sql_rules.specs.Types.{given, given_each, element_types, only_type, columns, unary_type, compared_type, joined_type, among_type, as_nullable, single_type, bool_type, big_type, if_typed}
use Rattle.sql_rules.specs.declared.rule.Rule.TheVariants as R
use Rattle.sql_rules.proofs.Nulled.{nulled_elements}
use Rattle.sql_rows_meaning.specs.Answers.{Line, left_by, directions, rows_as, is_partial, may_skip, has_row, single_value, first_value, positional_items, Gives, AllGive, Holds, SourceRows, FromRows, GroupedBy, KeyGives, ItemsGive, OrderGives, Answers}
use Rattle.sql_rows_meaning.specs.Frames.{Database, Frame, value_of, nulls, where_sees}
use Rattle.sql_rows_meaning.specs.Groups.{Group, alone, one_row, keyed_groups, not_nulls, counts}
use Rattle.sql_rows_meaning.specs.Rows.{Row, NullPlaces, row_before, values_at, page, count_row, combined}
use Rattle.sql_rows_meaning.specs.Values.{is_true, compared_value, joined_value, unary_value, among_value}
use Rattle.sql_rows_meaning.proofs.Facts.{nulled}
use Rattle.sql_rows_meaning.proofs.Typed.{one-typed, only-typed, unary-typed, compared-typed, joined-typed, among-typed, all_nulled-typed, split-typed}
use Rattle.sql_rows_meaning.proofs.Kept.{Clean, Clean-left, Clean-right, accepted-clean}
use Rattle.sql_rows_meaning.proofs.Functional.{permutation-whole, one-order}
use Rattle.sql_rows_meaning.proofs.Soundness.{the_select}
use Rattle.sql_rows_meaning.proofs.Sorting.{IsAsymmetric, sorted, path-sorted, in-order, path-map, lifted}
use Rattle.sql_rows_meaning.proofs.Orders.{row-asymmetric}
use Rattle.sql_rows_meaning.proofs.SortedLines.{ordered-sorted}
use Rattle.sql_rows_meaning.proofs.Thinned.{thinned, count-append, combined-bound, count-sorted}
use Rattle.sql_rows_meaning.proofs.Choices.{filtered-some, joined-some, zip-some, zip-permuted, filtered-permuted}
use Rattle.sql_rows_meaning.proofs.TypedClauses.{IsTypedKey, AreTypedItems, IsTypedOrder, IsTypedMaybe, IsTypedCondition, IsTypedSource, IsTypedFrom, select-typed}

one_value : (vs : List Value) → length vs ≡ 1 → (x : Value) × (vs ≡ x ∷ [])
one_value [] e = absurd (grind arith)
one_value (v ∷ []) e = (v, refl)
one_value (v ∷ (w ∷ vs)) e = absurd (grind arith)

one_long : (ts : List SqlType) (t : SqlType) → ts ≡ t ∷ [] → 1 ≡ length ts
one_long ts t e = sym (ap length e)

no_types : (ts : List SqlType) → [] ≡ map Some ts → 0 ≡ length ts
no_types [] e = refl
no_types (t ∷ ts) e = absurd cc

counted-typed : (o : Option SqlType) (t : SqlType) → if_typed o big_type ≡ Some t → (w : SqlType) × (o ≡ Some w)
counted-typed None t e = absurd cc
counted-typed (Some w) t e = (w, refl)

abbrev line_before : NullPlaces → Order → Line → Line → Bool
line_before places o a b = row_before places (directions o) a.order b.order

line-asymmetric : (places : NullPlaces) (o : Order) → IsAsymmetric (line_before places o)
line-asymmetric places o a b h = row-asymmetric places (directions o) a.order b.order h

abbrev places_before : NullPlaces → Option (List PositionalItem) → Row → Row → Bool
places_before places o x y =
    row_before places (map (λ i. i.direction) (positional_items o)) (values_at (positional_items o) x)
    (values_at (positional_items o) y)

places-asymmetric : (places : NullPlaces) (o : Option (List PositionalItem)) → IsAsymmetric (places_before places o)
places-asymmetric places o x y h =
    row-asymmetric places (map (λ i. i.direction) (positional_items o)) (values_at (positional_items o) x)
    (values_at (positional_items o) y) h

module _ (places : NullPlaces) (db : Database) where
  -- as many values as types
  abbrev pub HasValues : Expr → Group → List SqlType → Type 0
  HasValues e rows ts = (vs : List Value) × Gives places e db rows vs × (length vs ≡ length ts)

  single-of : (e : Expr) (rows : Group) (t : SqlType) → HasValues e rows (t ∷ [])
      → (x : Value) × Gives places e db rows (x ∷ [])
  single-of e rows t (vs, g, long) =
      let (x, is) = one_value vs long in (x, subst (λ ws. Gives places e db rows ws) is g)

  abbrev pub GivesLine : Expr → Distinct → Order → Group → Line → Type 0
  GivesLine e u o group line =
      Gives places e db group line.shown × KeyGives places u db group line.key × OrderGives places o db group line.order

  abbrev pub HasAnswer : Statement → Frame → Type 0
  HasAnswer s outer = (answer : List Row) × Answers places s db outer answer

  -- GROUP BY, where there is one, has values in the row
  abbrev pub IsKeyed : MaybeExpr → Frame → Type 0
  IsKeyed no_expr row = Unit {0}
  IsKeyed (an_expr g) row = (key : Row) × Gives places g db (alone row) key

  -- groups in any order are those of rows in some order
  regrouped : (g : MaybeExpr) (counted : Bool) (rows : List Frame) (groups groups' : List Group)
      → GroupedBy places g counted db rows groups → IsPermutation groups groups'
      → (taken : List Frame) × IsPermutation rows taken × GroupedBy places g counted db taken groups'
  regrouped (an_expr g) counted rows groups groups' (keys, zip, p) q =
      (rows, IsPermutation-refl rows, (keys, zip, IsPermutation-trans _ groups groups' p q))
  regrouped no_expr true rows groups groups' e q =
      (rows, IsPermutation-refl rows, one-order rows groups' (subst (λ gs. IsPermutation gs groups') e q))
  regrouped no_expr false rows groups groups' e q =
      let (taken, p, are) = lifted alone rows groups' (subst (λ gs. IsPermutation gs groups') e q) in
      (taken, p, sym are)

  grouped-some : (g : MaybeExpr) (counted : Bool) → ((row : Frame) → IsKeyed g row) → (rows : List Frame)
      → (groups : List Group) × GroupedBy places g counted db rows groups
  grouped-some (an_expr g) counted key rows =
      let (keys, zip) = zip-some (λ row key. Gives places g db (alone row) key) key rows in
      (map (λ group. group.rows) (keyed_groups keys rows), (keys, zip, IsPermutation-refl _))
  grouped-some no_expr true key rows = (rows ∷ [], refl)
  grouped-some no_expr false key rows = (map alone rows, refl)

  -- the lines of the groups that pass HAVING, so ordered that those are in order of which it is asked
  select-has : (default : Bool) (e : Expr) (f : From) (u : Distinct) (w : MaybeExpr) (o : Order)
      (rows : LimitOffsetClause)
      (g h : MaybeExpr) (form : Form) (marks : Marks) (outer : Frame)
      → ((all : List Frame) × FromRows places f db all)
      → ((group : Group) → (t : Bool) × Holds places w db group t)
      → ((row : Frame) → IsKeyed g row)
      → ((group : Group) → (t : Bool) × Holds places h db group t)
      → ((group : Group) → (line : Line) × GivesLine e u o group line)
      → HasAnswer (select default e f u w o rows g h form marks) outer
  select-has default e f u w o rows g h form marks outer (all, given_rows) condition key having line =
      let (passing, passes) = filtered-some (λ row t. Holds places w db (alone (where_sees form f row outer)) t)
      (λ row. condition (alone (where_sees form f row outer))) all in
      let (groups0, grouped0) = grouped-some g (counts e u o) key passing in
      let (kept0, keeps0) = filtered-some (λ group t. Holds places h db group t) having groups0 in
      let (lines0, zip0) = zip-some (λ group l. GivesLine e u o group l) line kept0 in
      let (lines, chosen, order_is, ordered) = ordered-sorted u (line_before places o) lines0 in
      let (kept', kept_is, zip') = zip-permuted (λ group l. GivesLine e u o group l) kept0 lines0 lines zip0 order_is in
      let (groups', groups_are, keeps') = filtered-permuted
      (λ group t. Holds places h db group t) groups0 kept0 kept' keeps0 kept_is in
      let (taken, taken_is, grouped') = regrouped g (counts e u o) passing groups0 groups' grouped0 groups_are in (
        page rows (map (λ l. l.shown) (left_by u lines)),
        (
          all,
          passing,
          taken,
          groups',
          kept',
          lines,
          given_rows,
          passes,
          permutation-whole (may_skip form) passing taken taken_is,
          grouped',
          keeps',
          zip',
          subst (λ ls. IsSortedBy (row_before places (directions o)) (map (λ l. l.order) ls)) (sym ordered)
              (in-order (row_before places (directions o)) (map (λ l. l.order) (sorted (line_before places o) chosen))
              (path-map (λ l. l.order) (row_before places (directions o)) (sorted (line_before places o) chosen)
              (path-sorted (line_before places o) (line-asymmetric places o) chosen))),
          refl,
        ),
      )

  combination-has : (by : Combinator) (all : DuplicateRule) (a b : Statement) (o : Option (List PositionalItem))
      (rows : LimitOffsetClause) (outer : Frame) → HasAnswer a outer → HasAnswer b outer
      → HasAnswer (combination by all a b o rows) outer
  combination-has by all a b o rows outer (xs, left) (ys, right) =
      let (thin, counts_are) = thinned (xs ++ ys) (λ row. combined by all (count_row row xs) (count_row row ys))
      (λ row. subst (λ n. combined by all (count_row row xs) (count_row row ys) ≤ n) (sym (count-append row xs ys))
      (combined-bound by all (count_row row xs) (count_row row ys))) in
      let both = sorted (places_before places o) thin in (
        page rows both,
        (
          xs,
          ys,
          both,
          left,
          right,
          λ row. count-sorted (places_before places o) row thin ∙ counts_are row,
          in-order (row_before places (map (λ i. i.direction) (positional_items o)))
              (map (values_at (positional_items o)) both)
              (path-map (values_at (positional_items o)) (row_before places (map (λ i. i.direction) (positional_items o)))
              both (path-sorted (places_before places o) (places-asymmetric places o) thin)),
          refl,
        ),
      )

module _ (places : NullPlaces) (schema : Declarations) (d : Dialect) (db : Database) where
  mutual
    pub gives-some : (e : Expr) (v : View) (ts : List SqlType) → Clean schema d (in_expr v e)
        → element_types (given e) ≡ map Some ts → (rows : Group) → HasValues places db e rows ts
    gives-some (column o c) v ts p t rows =
        let (u, is, are) = one-typed (Some c.ty) ts t in
        (value_of o c (one_row rows) ∷ [], refl, one_long ts u are)
    gives-some (value ty x) v ts p t rows =
        let (u, is, are) = one-typed (Some ty) ts t in (x ∷ [], refl, one_long ts u are)
    gives-some (list es) v ts p t rows = all-some es v ts p t rows
    gives-some count_star v ts p t rows =
        let (u, is, are) = one-typed big_type ts t in (V.BigInt (pos (length rows)) ∷ [], refl, one_long ts u are)
    gives-some (nullable e) v ts p t rows =
        let (us, are, ts_are) = all_nulled-typed (element_types (given e)) ts (sym (nulled_elements (given e)) ∙ t) in
        let (vs, g, long) = gives-some e v us p are rows in
        (vs, g, long ∙ (sym (length-map us nulled) ∙ ap length (sym ts_are)))
    gives-some (unary o e) v ts p t rows =
        let (u, is, are) = one-typed (unary_type o (only_type (given e))) ts t in
        let (w, w_is) = unary-typed o (only_type (given e)) u is in
        let (x, g) = single-of places db e rows w (gives-some e v (w ∷ []) p (only-typed (given e) w w_is) rows) in
        (unary_value o x ∷ [], (x, g, refl), one_long ts u are)
    gives-some (count e) v ts p t rows =
        let (u, is, are) = one-typed (if_typed (only_type (given e)) big_type) ts t in
        let (w, w_is) = counted-typed (only_type (given e)) u is in
        let (xs, zip) = zip-some (λ row x. Gives places e db (alone row) (x ∷ []))
        (λ row. single-of places db e (alone row) w
        (gives-some e v (w ∷ []) p (only-typed (given e) w w_is) (alone row))) rows in
        (V.BigInt (pos (not_nulls xs)) ∷ [], (xs, zip, refl), one_long ts u are)
    gives-some (compared by a b) v ts p t rows =
        let (u, is, are) = one-typed (compared_type (only_type (given a)) (only_type (given b))) ts t in
        let (w, a_is, b_is, u_is) = compared-typed (only_type (given a)) (only_type (given b)) u is in
        let (x, g) = single-of places db a rows w
        (gives-some a v (w ∷ []) (Clean-left schema d (in_expr v a) (in_expr v b) p)
        (only-typed (given a) w a_is) rows) in
        let (y, k) = single-of places db b rows w
        (gives-some b v (w ∷ []) (Clean-right schema d (in_expr v a) (in_expr v b) p)
        (only-typed (given b) w b_is) rows) in
        (compared_value by x y ∷ [], (x, y, g, k, refl), one_long ts u are)
    gives-some (joined by a b) v ts p t rows =
        let (u, is, are) = one-typed (joined_type (only_type (given a)) (only_type (given b))) ts t in
        let (w, z, a_is, b_is, u_is) = joined-typed (only_type (given a)) (only_type (given b)) u is in
        let (x, g) = single-of places db a rows w
        (gives-some a v (w ∷ []) (Clean-left schema d (in_expr v a) (in_expr v b) p)
        (only-typed (given a) w a_is) rows) in
        let (y, k) = single-of places db b rows z
        (gives-some b v (z ∷ []) (Clean-right schema d (in_expr v a) (in_expr v b) p)
        (only-typed (given b) z b_is) rows) in
        (joined_value by x y ∷ [], (x, y, g, k, refl), one_long ts u are)
    gives-some (exists q) v ts p t rows =
        let (u, is, are) = one-typed (bool_type false) ts t in
        let (found, a) = answers-some q v p (one_row rows) in
        (V.Bool (has_row found) ∷ [], (found, a, refl), one_long ts u are)
    gives-some (single q) v ts p t rows =
        let (u, is, are) = one-typed (as_nullable (single_type (columns q))) ts t in
        let (found, a) = answers-some q v p (one_row rows) in
        (single_value found ∷ [], (found, a, refl), one_long ts u are)
    gives-some (among_values n e ty xs) v ts p t rows =
        let (u, is, are) = one-typed (among_type (only_type (given e)) ty xs) ts t in
        let (fit, compared_is) = among-typed (only_type (given e)) ty xs u is in
        let (w, e_is, ty_is, u_is) = compared-typed (only_type (given e)) (Some ty) u compared_is in
        let (x, g) = single-of places db e rows w (gives-some e v (w ∷ []) p (only-typed (given e) w e_is) rows) in
        (among_value n x xs ∷ [], (x, g, refl), one_long ts u are)
    gives-some (among_rows n e q) v ts p t rows =
        let (u, is, are) = one-typed (compared_type (only_type (given e)) (single_type (columns q))) ts t in
        let (w, e_is, q_is, u_is) = compared-typed (only_type (given e)) (single_type (columns q)) u is in
        let (x, g) = single-of places db e rows w
        (gives-some e v (w ∷ []) (Clean-left schema d (in_expr v e) (parts v q) p) (only-typed (given e) w e_is) rows) in
        let (found, a) = answers-some q v (Clean-right schema d (in_expr v e) (parts v q) p) (one_row rows) in
        (among_value n x (map first_value found) ∷ [], (x, found, g, a, refl), one_long ts u are)

    all-some : (es : Exprs) (v : View) (ts : List SqlType) → Clean schema d (in_exprs v es)
        → given_each es ≡ map Some ts → (rows : Group)
        → (vs : List Value) × AllGive places es db rows vs × (length vs ≡ length ts)
    all-some no_exprs v ts p t rows = ([], refl, no_types ts t)
    all-some (more_exprs e es) v ts p t rows =
        let (us, ws, u_is, w_is, both) = split-typed (element_types (given e)) (given_each es) ts t in
        let (xs, g, long) = gives-some e v us (Clean-left schema d (in_expr v e) (in_exprs v es) p) u_is rows in
        let (ys, k, longs) = all-some es v ws (Clean-right schema d (in_expr v e) (in_exprs v es) p) w_is rows in (
          xs ++ ys,
          (xs, ys, g, k, refl),
          length-append xs ys ∙ (ap₂ ◌+◌ long longs ∙ (sym (length-append us ws) ∙ ap length (sym both))),
        )

    pub holds-some : (c : MaybeExpr) (v : View) → Clean schema d (in_maybe v c) → IsTypedCondition c → (rows : Group)
        → (t : Bool) × Holds places c db rows t
    holds-some no_expr v p t rows = (true, refl)
    holds-some (an_expr e) v p t rows =
        let (x, g) = single-of places db e rows t.0 (gives-some e v (t.0 ∷ []) p (only-typed (given e) t.0 t.1) rows) in
        (is_true x, (x, g, refl))

    source-some : (s : Source) → Clean schema d (in_source s) → IsTypedSource s
        → (rows : List Frame) × SourceRows places s db rows
    source-some (of_table t only sample) p h =
        (rows_as (a_table t) (db t), permutation-whole (is_partial only sample) _ _ (IsPermutation-refl _))
    source-some (of_alias a t) p h = (rows_as (an_alias a t) (db t), permutation-whole false _ _ (IsPermutation-refl _))
    source-some (join kind l r on) p h =
        let here = in_maybe (origins l ++ origins r) on in
        let after : Clean schema d (in_source r ++ here) = Clean-right schema d (in_source l) (in_source r ++ here) p in
        let (xs, gx) = source-some l (Clean-left schema d (in_source l) (in_source r ++ here) p) h.0 in
        let (ys, gy) = source-some r (Clean-left schema d (in_source r) here after) h.1 in
        let (rows, j) = joined-some kind (nulls (leaves r)) (λ row t. Holds places on db (alone row) t)
        (λ row. holds-some on (origins l ++ origins r) (Clean-right schema d (in_source r) here after) h.2 (alone row))
        ys xs in
        (rows, (xs, ys, gx, gy, j))

    from-some : (f : From) → Clean schema d (in_from f) → IsTypedFrom f
        → (rows : List Frame) × FromRows places f db rows
    from-some no_source p h = ([] ∷ [], refl)
    from-some (from s) p h = source-some s p h

    keyed-some : (g : MaybeExpr) (v : View) → Clean schema d (in_maybe v g) → IsTypedMaybe g → (row : Frame)
        → IsKeyed places db g row
    keyed-some no_expr v p t row = tt
    keyed-some (an_expr g) v p t row = let (vs, k, long) = gives-some g v t.0 p t.1 (alone row) in (vs, k)

    key-some : (u : Distinct) (v : View) → Clean schema d (in_distinct v u) → IsTypedKey u → (rows : Group)
        → (key : Row) × KeyGives places u db rows key
    key-some every v p t rows = ([], refl)
    key-some distinct v p t rows = ([], refl)
    key-some (distinct_on e) v p t rows = let (vs, k, long) = gives-some e v t.0 p t.1 rows in (vs, k)

    items-some : (is : Items) (v : View) → Clean schema d (in_items v is) → AreTypedItems is → (rows : Group)
        → (vs : Row) × ItemsGive places is db rows vs
    items-some no_items v p t rows = ([], refl)
    items-some (more_items e by is) v p t rows =
        let (x, g) = single-of places db e rows t.0.0
        (gives-some e v (t.0.0 ∷ []) (Clean-left schema d (in_expr v e) (in_items v is) p)
        (only-typed (given e) t.0.0 t.0.1) rows) in
        let (ys, k) = items-some is v (Clean-right schema d (in_expr v e) (in_items v is) p) t.1 rows in
        (x ∷ ys, (x, ys, g, k, refl))

    order-some : (o : Order) (v : View) → Clean schema d (in_order v o) → IsTypedOrder o → (rows : Group)
        → (vs : Row) × OrderGives places o db rows vs
    order-some no_order v p t rows = ([], refl)
    order-some (order_by is) v p t rows = items-some is v p t rows

    pub answers-some : (s : Statement) (v : View) → Clean schema d (parts v s) → (outer : Frame)
        → HasAnswer places db s outer
    answers-some (select default e f u w o rows g h form marks) v p outer =
        let t = select-typed v (the_select e f u w o rows g h form marks) (λ i. p R.TypeMismatch (inl (inl i))) in
        let own = origins_of f in
        let wide = widest form f v in
        let p0 : Clean schema d
        (in_distinct own u ++ (in_expr own e ++ (in_from f ++ (in_maybe wide w ++ (in_maybe own g ++ (in_maybe own h
        ++ in_order own o)))))) = λ r i. p r (inr i) in
        let p1 = Clean-right schema d (in_distinct own u) _ p0 in
        let p2 = Clean-right schema d (in_expr own e) _ p1 in
        let p3 = Clean-right schema d (in_from f) _ p2 in
        let p4 = Clean-right schema d (in_maybe wide w) _ p3 in
        let p5 = Clean-right schema d (in_maybe own g) _ p4 in
        select-has places db default e f u w o rows g h form marks outer
        (from-some f (Clean-left schema d (in_from f) _ p2) t.source)
        (holds-some w wide (Clean-left schema d (in_maybe wide w) _ p3) t.condition)
        (keyed-some g own (Clean-left schema d (in_maybe own g) _ p4) t.group)
        (holds-some h own (Clean-left schema d (in_maybe own h) (in_order own o) p5) t.having)
        (λ group.
        let (shown, gs, long) = gives-some e own t.selection.0
        (Clean-left schema d (in_expr own e) _ p1) t.selection.1 group in
        let (key, gk) = key-some u own (Clean-left schema d (in_distinct own u) _ p0) t.key group in
        let (order, go) = order-some o own (Clean-right schema d (in_maybe own h) (in_order own o) p5) t.order group in
        (record { shown = shown; key = key; order = order }, (gs, gk, go)))
    answers-some (combination by all a b o rows) v p outer =
        let inside : Clean schema d (parts v a ++ parts v b) = λ r i. p r (inr i) in
        combination-has places db by all a b o rows outer
        (answers-some a v (Clean-left schema d (parts v a) (parts v b) inside) outer)
        (answers-some b v (Clean-right schema d (parts v a) (parts v b) inside) outer)

pub answers-exist : (schema : Declarations) (d : Dialect) (s : Statement) → Accepted schema d s
    → (places : NullPlaces) (db : Database) → (answer : List Row) × Answers places s db [] answer
answers-exist schema d s h places db = answers-some places schema d db s [] (accepted-clean schema d s h) []
