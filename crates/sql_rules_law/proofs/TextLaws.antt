-- A statement that breaks none of EmptyList, NoRelation, TypeMismatch and Unsupported has a text of the grammar.
use Rattle.std.proofs.Common.{◌≡◌, List, [], ◌∷◌, ◌++◌, length, Some, refl, inl, inr, ⊎_elim}
use Rattle.std.proofs.lemmas.Bool.{cases_lt}
use Rattle.sql_schema.specs.Declarations.{Declarations}
use Rattle.sql_dialect.specs.Supports.{combines}
use Rattle.sql_dialect.specs.Written.{MAX_BINDS}
use Rattle.sql_dialect.specs.declared.backend.Dialect.{Dialect}
use Rattle.sql_leaf.specs.declared.locking.LockingClause.TheVariants.{NoLockingClause}
use Rattle.sql_pass.specs.Pieces.{values_of}
use Rattle.sql_node.specs.Pieces.{pieces}
use Rattle.sql_node.specs.Tree.{unboxed, Expr, column, value, list, count_star, nullable, unary, count, compared, joined, exists, single, among_values, among_rows, Exprs, no_exprs, more_exprs, Items, no_items, more_items, MaybeExpr, no_expr, an_expr, Source, of_table, of_alias, join, From, no_source, from, Distinct, every, distinct, distinct_on, Order, no_order, order_by, Statement, select, combination}
use Rattle.sql_normal.specs.inside.HasText.{IsSingle, ExprHasText, ExprsHaveText, ItemsHaveText, MaybeHasText, GroupHasText, OnHasText, SourceHasText, FromHasText, DistinctHasText, OrderHasText, HasText, HasNumbers}
use Rattle.sql_rules.specs.Lists.{AnyOf, Each}
use Rattle.sql_rules.specs.Rules.{Present, IsIllTyped, IsEmptyList, IsEmptyOrder, IsIllTypedClause, LacksOn, FromLacksOn, IsNotPg, IsDistinctOn, HasTableMarks, FromHasMarks, IsSelectUnsupported, IsCombinationUnsupported, PartBreaks, Broken}
use Rattle.sql_rules.specs.Scope.{View, origins, origins_of, widest, Part, a_select, a_combination, parts, in_expr, in_exprs, in_items, in_maybe, in_source, in_from, in_distinct, in_order, in_selection, in_on, in_where, in_group_by, in_having, Clause, clauses, maybe_clause, ons, ons_of, distinct_clause, item_clauses, order_clauses, nodes, flat}
use Rattle.sql_rules.specs.declared.rule.Rule.TheVariants as R
use Rattle.sql_rules.specs.Counted.{OrderIsCounted, PartIsCounted, PlacesAreCounted}
use Rattle.sql_rules_law.proofs.Forms.{page_has_text, form_fits, table_has_text, on_pg, supported, places_have_text}
use Rattle.sql_rules_law.proofs.Lists.{each_not, each_both, each_map, each_front, each_back, each_apply}
use Rattle.sql_rules_law.proofs.Typed.{typed_is_single, AreTyped, tops_typed, IsTypedInside, AreTypedInside, inside_one, inside_list, has_element}

-- ## What a part gives

abbrev ClauseIsGood : Clause → Type 0
ClauseIsGood c = ¬ IsIllTypedClause c × ¬ IsEmptyList c

abbrev IsGood : Dialect → Part → Type 0
IsGood d (a_select outer s) =
    Each ClauseIsGood (clauses outer s) × ¬ IsEmptyOrder s.order × ¬ FromLacksOn s.source × ¬ IsSelectUnsupported d s
IsGood d (a_combination c) = ¬ (c.order ≡ Some []) × ¬ IsCombinationUnsupported d c × OrderIsCounted c.order

-- an operand: a condition, or an item of an order
abbrev IsOperand : Dialect → Expr → Type 0
IsOperand d e = IsSingle e × ExprHasText d e

first_typed : (e : Expr) → AreTyped (nodes e) → ¬ IsIllTyped e
first_typed (column o c) t = t.0
first_typed (value k x) t = t.0
first_typed (list es) t = t.0
first_typed count_star t = t.0
first_typed (nullable e) t = t.0
first_typed (unary n e) t = t.0
first_typed (count e) t = t.0
first_typed (compared by a b) t = t.0
first_typed (joined by a b) t = t.0
first_typed (exists q) t = t.0
first_typed (single q) t = t.0
first_typed (among_values n e k xs) t = t.0
first_typed (among_rows n e q) t = t.0

one_typed : (e : Expr) → ¬ AnyOf (λ x. AnyOf IsIllTyped (nodes x)) (e ∷ []) → AreTyped (nodes e)
one_typed e h = (tops_typed (e ∷ []) h).0

operand : (d : Dialect) (e : Expr) → AreTyped (nodes e) → ExprHasText d e → IsOperand d e
operand d e t h = (typed_is_single e (first_typed e t), h)

module _ (d : Dialect) where
  mutual
    expr_law : (e : Expr) (v : View) → IsTypedInside e → Each (IsGood d) (in_expr v e) → ExprHasText d e
    expr_law (column o c) v t g = tt
    expr_law (value k x) v t g = tt
    expr_law (list es) v t g = exprs_law es v t g
    expr_law count_star v t g = tt
    expr_law (nullable e) v t g = expr_law e v t g
    expr_law (unary n e) v t g = operand d e t (expr_law e v (inside_one e t) g)
    expr_law (count e) v t g = operand d e t (expr_law e v (inside_one e t) g)
    expr_law (compared by a b) v t g =
        let l : AreTyped (nodes a) = each_front _ (nodes a) (nodes b) t in
        let r : AreTyped (nodes b) = each_back _ (nodes a) (nodes b) t in (
          operand d a l (expr_law a v (inside_one a l) (each_front _ (in_expr v a) (in_expr v b) g)),
          operand d b r (expr_law b v (inside_one b r) (each_back _ (in_expr v a) (in_expr v b) g)),
        )
    expr_law (joined by a b) v t g =
        let l : AreTyped (nodes a) = each_front _ (nodes a) (nodes b) t in
        let r : AreTyped (nodes b) = each_back _ (nodes a) (nodes b) t in (
          operand d a l (expr_law a v (inside_one a l) (each_front _ (in_expr v a) (in_expr v b) g)),
          operand d b r (expr_law b v (inside_one b r) (each_back _ (in_expr v a) (in_expr v b) g)),
        )
    expr_law (exists q) v t g = statement_law q v g
    expr_law (single q) v t g = statement_law q v g
    expr_law (among_values n e k xs) v t g = operand d e t (expr_law e v (inside_one e t) g)
    expr_law (among_rows n e q) v t g = (
      operand d e t (expr_law e v (inside_one e t) (each_front _ (in_expr v e) (parts v q) g)),
      statement_law q v (each_back _ (in_expr v e) (parts v q) g),
    )

    exprs_law : (es : Exprs) (v : View) → AreTypedInside es → Each (IsGood d) (in_exprs v es) → ExprsHaveText d es
    exprs_law no_exprs v t g = tt
    exprs_law (more_exprs e es) v t g = (
      expr_law e v t.0 (each_front _ (in_expr v e) (in_exprs v es) g),
      exprs_law es v t.1 (each_back _ (in_expr v e) (in_exprs v es) g),
    )

    items_law : (is : Items) (v : View) → Each ClauseIsGood (item_clauses v is) → Each (IsGood d) (in_items v is)
        → ItemsHaveText d is
    items_law no_items v c g = tt
    items_law (more_items e by is) v c g =
        let t : AreTyped (nodes e) = one_typed e (λ h. c.0.0 (inl h)) in (
          operand d e t (expr_law e v (inside_one e t) (each_front _ (in_expr v e) (in_items v is) g)),
          items_law is v c.1 (each_back _ (in_expr v e) (in_items v is) g),
        )

    where_law : (e : MaybeExpr) (v : View) → Each ClauseIsGood (maybe_clause in_where v e)
        → Each (IsGood d) (in_maybe v e) → MaybeHasText d e
    where_law no_expr v c g = tt
    where_law (an_expr e) v c g =
        let t : AreTyped (nodes e) = one_typed e (λ h. c.0.0 (inl h)) in operand d e t (expr_law e v (inside_one e t) g)

    having_law : (e : MaybeExpr) (v : View) → Each ClauseIsGood (maybe_clause in_having v e)
        → Each (IsGood d) (in_maybe v e) → MaybeHasText d e
    having_law no_expr v c g = tt
    having_law (an_expr e) v c g =
        let t : AreTyped (nodes e) = one_typed e (λ h. c.0.0 (inl h)) in operand d e t (expr_law e v (inside_one e t) g)

    on_law : (e : MaybeExpr) (v : View) → ¬ ¬ Present e → Each ClauseIsGood (maybe_clause in_on v e)
        → Each (IsGood d) (in_maybe v e) → OnHasText d e
    on_law no_expr v h c g = h (λ p. p)
    on_law (an_expr e) v h c g =
        let t : AreTyped (nodes e) = one_typed e (λ h. c.0.0 (inl h)) in operand d e t (expr_law e v (inside_one e t) g)

    group_law : (e : MaybeExpr) (v : View) → Each ClauseIsGood (maybe_clause in_group_by v e)
        → Each (IsGood d) (in_maybe v e) → GroupHasText d e
    group_law no_expr v c g = tt
    group_law (an_expr e) v c g =
        (has_element e (λ h. c.0.1 (tt, h)), expr_law e v (inside_list e (tops_typed (flat e) (λ h. c.0.0 (inl h)))) g)

    distinct_law : (u : Distinct) (v : View) → (IsDistinctOn u → ¬ IsNotPg d) → Each ClauseIsGood (distinct_clause v u)
        → Each (IsGood d) (in_distinct v u) → DistinctHasText d u
    distinct_law every v l c g = tt
    distinct_law distinct v l c g = tt
    distinct_law (distinct_on e) v l c g = (
      on_pg d (l tt),
      has_element e (λ h. c.0.1 (tt, h)),
      expr_law e v (inside_list e (tops_typed (flat e) (λ h. c.0.0 (inl h)))) g,
    )

    source_law : (s : Source) → (IsNotPg d → ¬ HasTableMarks s) → ¬ LacksOn s → Each ClauseIsGood (ons s)
        → Each (IsGood d) (in_source s) → SourceHasText d s
    source_law (of_table t only s) m l c g = table_has_text d t only s m
    source_law (of_alias a t) m l c g = tt
    source_law (join k a b on) m l c g =
        let v : View = origins a ++ origins b in
        let c2 = each_back _ (ons a) (ons b ++ maybe_clause in_on v on) c in
        let g2 = each_back _ (in_source a) (in_source b ++ in_maybe v on) g in (
          source_law a (λ n h. m n (inl h)) (λ h. l (inr (inl h)))
              (each_front _ (ons a) (ons b ++ maybe_clause in_on v on) c)
              (each_front _ (in_source a) (in_source b ++ in_maybe v on) g),
          source_law b (λ n h. m n (inr h)) (λ h. l (inr (inr h))) (each_front _ (ons b) (maybe_clause in_on v on) c2)
              (each_front _ (in_source b) (in_maybe v on) g2),
          on_law on v (λ h. l (inl h)) (each_back _ (ons b) (maybe_clause in_on v on) c2)
              (each_back _ (in_source b) (in_maybe v on) g2),
        )

    from_law : (s : From) → (IsNotPg d → ¬ FromHasMarks s) → ¬ FromLacksOn s → Each ClauseIsGood (ons_of s)
        → Each (IsGood d) (in_from s) → FromHasText d s
    from_law no_source m l c g = tt
    from_law (from s) m l c g = source_law s m l c g

    order_law : (o : Order) (v : View) → ¬ IsEmptyOrder o → Each ClauseIsGood (order_clauses v o)
        → Each (IsGood d) (in_order v o) → OrderHasText d o
    order_law no_order v n c g = tt
    order_law (order_by no_items) v n c g = absurd (n refl)
    order_law (order_by (more_items e by is)) v n c g = (tt, items_law (more_items e by is) v c g)

    statement_law : (s : Statement) (outer : View) → Each (IsGood d) (parts outer s) → HasText d s
    statement_law (select default e f u w o rows gb h form marks) outer k =
        let own : View = origins_of f in
        let wide : View = widest form f outer in
        -- the clauses behind each, and the statements in them
        let c6 : List Clause = order_clauses own o in
        let c5 : List Clause = maybe_clause in_having own h ++ c6 in
        let c4 : List Clause = maybe_clause in_group_by own gb ++ c5 in
        let c3 : List Clause = maybe_clause in_where wide w ++ c4 in
        let c2 : List Clause = ons_of f ++ c3 in
        let c1 : List Clause = record { place = in_selection; view = own; expr = e } ∷ c2 in
        let p6 : List Part = in_order own o in
        let p5 : List Part = in_maybe own h ++ p6 in
        let p4 : List Part = in_maybe own gb ++ p5 in
        let p3 : List Part = in_maybe wide w ++ p4 in
        let p2 : List Part = in_from f ++ p3 in
        let p1 : List Part = in_expr own e ++ p2 in
        let h1 = each_back _ (distinct_clause own u) c1 k.0.0 in
        let h3 = each_back _ (ons_of f) c3 h1.1 in
        let h4 = each_back _ (maybe_clause in_where wide w) c4 h3 in
        let h5 = each_back _ (maybe_clause in_group_by own gb) c5 h4 in
        let h6 = each_back _ (maybe_clause in_having own h) c6 h5 in
        let g1 = each_back _ (in_distinct own u) p1 k.1 in
        let g2 = each_back _ (in_expr own e) p2 g1 in
        let g3 = each_back _ (in_from f) p3 g2 in
        let g4 = each_back _ (in_maybe wide w) p4 g3 in
        let g5 = each_back _ (in_maybe own gb) p5 g4 in
        let g6 = each_back _ (in_maybe own h) p6 g5 in (
          distinct_law u own (λ on not. k.0.3 (inl (not, inl on))) (each_front _ (distinct_clause own u) c1 k.0.0)
              (each_front _ (in_distinct own u) p1 k.1),
          (
            has_element e (λ n. h1.0.1 (tt, n)),
            expr_law e own (inside_list e (tops_typed (flat e) (λ n. h1.0.0 (inl n))))
                (each_front _ (in_expr own e) p2 g1),
          ),
          from_law f (λ not m. k.0.3 (inl (not, inr m))) k.0.2 (each_front _ (ons_of f) c3 h1.1)
              (each_front _ (in_from f) p3 g2),
          where_law w wide (each_front _ (maybe_clause in_where wide w) c4 h3) (each_front _ (in_maybe wide w) p4 g3),
          group_law gb own (each_front _ (maybe_clause in_group_by own gb) c5 h4)
              (each_front _ (in_maybe own gb) p5 g4),
          having_law h own (each_front _ (maybe_clause in_having own h) c6 h5) (each_front _ (in_maybe own h) p6 g5),
          order_law o own k.0.1 h6 g6,
          page_has_text d form rows (λ n. k.0.3 (inr (inr n))),
          form_fits d form (λ n. k.0.3 (inr (inl n))),
        )
    statement_law (combination by all a b o rows) outer k = (
      statement_law a outer (each_front _ (parts outer a) (parts outer b) k.1),
      supported (combines d by all) (λ e. k.0.1 (inl e)),
      statement_law b outer (each_back _ (parts outer a) (parts outer b) k.1),
      places_have_text o k.0.0 k.0.2,
      page_has_text d (unboxed NoLockingClause) rows (λ n. k.0.1 (inr (n.0, n.1.1))),
    )

-- ## From the rules

part_is_good : (schema : Declarations) (d : Dialect) (p : Part)
    → ¬ PartBreaks R.EmptyList schema d p → ¬ PartBreaks R.NoRelation schema d p
    → ¬ PartBreaks R.TypeMismatch schema d p → ¬ PartBreaks R.Unsupported schema d p → PartIsCounted p → IsGood d p
part_is_good schema d (a_select outer s) lists on types lacks counted = (
  each_both _ _ _ (λ c x y. (x, y)) (clauses outer s) (each_not _ (clauses outer s) (λ h. types (inl h)))
      (each_not _ (clauses outer s) (λ h. lists (inl h))),
  (λ h. lists (inr h)),
  on,
  lacks,
)
part_is_good schema d (a_combination c) lists on types lacks counted = (lists, lacks, counted)

pub has_text : (schema : Declarations) (d : Dialect) (s : Statement) → PlacesAreCounted s
    → ¬ Broken R.EmptyList schema d s → ¬ Broken R.NoRelation schema d s → ¬ Broken R.TypeMismatch schema d s
    → ¬ Broken R.Unsupported schema d s → HasText d s
has_text schema d s counted lists on types lacks =
    let ps : List Part = parts [] s in
    statement_law d s [] (
    each_apply _ _ ps (each_apply _ _ ps (each_apply _ _ ps (each_apply _ _ ps (each_map _ _ (part_is_good schema d) ps
    (each_not (PartBreaks R.EmptyList schema d) ps lists)) (each_not (PartBreaks R.NoRelation schema d) ps on))
    (each_not (PartBreaks R.TypeMismatch schema d) ps types))
    (each_not (PartBreaks R.Unsupported schema d) ps lacks)) counted)

-- ## Numbers

pub has_numbers : (schema : Declarations) (d : Dialect) (s : Statement) → ¬ Broken R.TooManyBinds schema d s
    → HasNumbers d (length (values_of (pieces d s)))
has_numbers schema d s h =
    λ numbered. ⊎_elim (λ l. absurd (h (numbered, l))) (λ l. l) (cases_lt MAX_BINDS (length (values_of (pieces d s))))
