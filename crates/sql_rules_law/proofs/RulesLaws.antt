-- A statement with other values breaks the rules that the statement breaks, as long as what fits goes on to fit and
-- what does not goes on not to.
use Rattle.std.proofs.Common.{◌≡◌, ◌≢◌, ◌↔◌, false, IsTrue, List, [], ◌∷◌, map, Option, Some, None, option_map, inl, inr, ◌⊎◌, refl, sym, ap, ◌∙◌, subst}
use Rattle.sql_schema.specs.Declarations.{Declarations}
use Rattle.sql_schema.specs.declared.types.SqlType.{SqlType}
use Rattle.sql_dialect.specs.declared.backend.Dialect.{Dialect}
use Rattle.sql_pass.specs.declared.value.Value.{Value}
use Rattle.sql_leaf.specs.declared.limit_offset.LimitOffsetClause.{LimitOffsetClause}
use Rattle.sql_node.specs.Tree.{Origin, Form, unboxed, Expr, column, value, count, Items, no_items, more_items, MaybeExpr, no_expr, an_expr, Source, of_table, of_alias, join, From, no_source, from, Distinct, distinct_on, Order, no_order, order_by, Statement}
use Rattle.sql_shape.specs.Expressions.{expr_shape}
use Rattle.sql_shape.specs.Shape.{blank_rows, change_expr, change_items, change_maybe, change_source, change_from, change_distinct, change_order, change}
use Rattle.sql_origin.specs.Leaves.{is_padded}
use Rattle.sql_rules.specs.Lists.{AnyOf, AnyPair, Differ}
use Rattle.sql_rules.specs.Rules.{AnyClause, AnyTwoLeaves, IsTable, IsUnknownColumn, IsOutOfScope, Present, IsDistinct, HasLock, misuse, IsEmptyList, IsEmptyOrder, LacksOn, FromLacksOn, tops, IsIllTyped, IsCondition, IsBool, IsIllTypedClause, bare, IsPadded, LacksNullable, CountsAggregate, HasAggregate, items_verdict, order_verdict, distinct_verdict, IsUnboxed, OrderDiffers, IsOffsetAlone, IsDistinctOn, HasTableMarks, FromHasMarks, SelectBreaks, PartBreaks}
use Rattle.sql_rules.specs.Scope.{View, Select, Part, a_select, a_combination, parts, Place, in_selection, in_distinct_on, in_on, in_where, in_group_by, in_having, in_order_by, Clause, clauses, nodes, flat, flat_items, AnyExpr}
use Rattle.sql_rules.specs.Types.{fits, all_fit, only_type}
use Rattle.sql_rules.specs.Verdicts.{NoVerdict, mix}
use Rattle.sql_rules.specs.declared.rule.Rule.{Rule}
use Rattle.sql_rules.specs.declared.rule.Rule.TheVariants as R
use Rattle.sql_rules_law.proofs.Blind as blind
use Rattle.sql_rules_law.proofs.Blind.{change_select, change_part, change_clause}

-- ## Equivalences

abbrev Same : Type 0 → Type 0 → Type 1
Same A B = Path (Type 0) A B

of-same : {A B : Type 0} → Same A B → A ↔ B
of-same p = ((λ a. subst (λ (X : Type 0). X) p a), (λ b. subst (λ (X : Type 0). X) (sym p) b))

id : {A : Type 0} → A ↔ A
id = ((λ a. a), (λ a. a))

or : {A B C D : Type 0} → A ↔ B → C ↔ D → (A ⊎ C) ↔ (B ⊎ D)
or p q = (
  (λ h. elim h [ inl a ↦ inl (p.0 a) | inr c ↦ inr (q.0 c) ]),
  (λ h. elim h [ inl b ↦ inl (p.1 b) | inr d ↦ inr (q.1 d) ]),
)

and : {A B C D : Type 0} → A ↔ B → C ↔ D → (A × C) ↔ (B × D)
and p q = ((λ h. (p.0 h.0, q.0 h.1)), (λ h. (p.1 h.0, q.1 h.1)))

no : {A B : Type 0} → A ↔ B → (¬ A) ↔ (¬ B)
no p = ((λ h b. h (p.1 b)), (λ h a. h (p.0 a)))

-- ## Lists

any-iff : {X : Type 0} (P Q : X → Type 0) (f : X → X) → ((x : X) → P (f x) ↔ Q x) → (xs : List X)
    → AnyOf P (map f xs) ↔ AnyOf Q xs
any-iff P Q f h [] = id
any-iff P Q f h (x ∷ xs) = or (h x) (any-iff P Q f h xs)

any-same : {X : Type 0} (P Q : X → Type 0) (f : X → X) → ((x : X) → Same (P (f x)) (Q x)) → (xs : List X)
    → Same (AnyOf P (map f xs)) (AnyOf Q xs)
any-same P Q f h [] = refl
any-same P Q f h (x ∷ xs) = λ i. h x i ⊎ any-same P Q f h xs i

differ-same : {X : Type 0} (R : X → X → Type 0) (f : X → X) → ((x y : X) → Same (R (f x) (f y)) (R x y))
    → (xs ys : List X) → Same (Differ R (map f xs) (map f ys)) (Differ R xs ys)
differ-same R f h [] ys = refl
differ-same R f h (x ∷ xs) [] = refl
differ-same R f h (x ∷ xs) (y ∷ ys) = λ i. h x y i ⊎ differ-same R f h xs ys i

empty-iff : {X : Type 0} (f : X → X) (xs : List X) → (map f xs ≡ []) ↔ (xs ≡ [])
empty-iff f [] = id
empty-iff f (x ∷ xs) = ((λ e. absurd (cc)), (λ e. absurd (cc)))

none-iff : {X : Type 0} (f : X → X) (o : Option X) → (option_map f o ≡ None) ↔ (o ≡ None)
none-iff f None = id
none-iff f (Some x) = ((λ e. absurd (cc)), (λ e. absurd (cc)))

module _
    (v : SqlType → Value → Value)
    (l : SqlType → List Value → List Value)
    (one-fits : (t : SqlType) (x : Value) → fits t (v t x) ≡ fits t x)
    (all-fit : (t : SqlType) (xs : List Value) → all_fit t (l t xs) ≡ all_fit t xs)
    (shape-same : (e : Expr) → expr_shape (change_expr v l e) ≡ expr_shape e)
  where
    abbrev sel : Select → Select
    sel = change_select v l

    -- ## Clauses and expressions

    any-clause : (P Q : Clause → Type 0) → ((c : Clause) → P (change_clause v l c) ↔ Q c) → (outer : View) (s : Select)
        → AnyClause P outer (sel s) ↔ AnyClause Q outer s
    any-clause P Q h outer s =
        let to = any-iff P Q (change_clause v l) h (clauses outer s) in
        let e = blind.clauses-same v l outer s in
        ((λ a. to.0 (subst (AnyOf P) e a)), (λ a. subst (AnyOf P) (sym e) (to.1 a)))

    any-expr : (P : View → Expr → Type 0) → ((w : View) (e : Expr) → Same (P w (change_expr v l e)) (P w e))
        → (outer : View) (s : Select) → AnyExpr P outer (sel s) ↔ AnyExpr P outer s
    any-expr P h outer s =
        let Q : Clause → Type 0 = λ c. AnyOf (P c.view) (nodes c.expr) in
        any-clause Q Q
        (λ c. of-same
        (ap (AnyOf (P c.view)) (blind.nodes-same v l c.expr)
        ∙ any-same (P c.view) (P c.view) (change_expr v l) (h c.view) (nodes c.expr)))
        outer s

    -- ## Names and scope

    unknown-same : (schema : Declarations) (e : Expr)
        → Same (IsUnknownColumn schema (change_expr v l e)) (IsUnknownColumn schema e)
    unknown-same schema (column o c) = refl
    unknown-same schema _ = refl

    scope-same : (w : View) (e : Expr) → Same (IsOutOfScope w (change_expr v l e)) (IsOutOfScope w e)
    scope-same w (column o c) = refl
    scope-same w _ = refl

    two-leaves : (R : Origin → Origin → Type 0) (outer : View) (s : Select)
        → AnyTwoLeaves R outer (sel s) ↔ AnyTwoLeaves R outer s
    two-leaves R outer s = of-same (ap (AnyPair R) (blind.widest-same v l s.form s.source outer))

    -- ## What is there

    present-same : (e : MaybeExpr) → Same (Present (change_maybe v l e)) (Present e)
    present-same no_expr = refl
    present-same (an_expr e) = refl

    distinct-same : (u : Distinct) → Same (IsDistinct (change_distinct v l u)) (IsDistinct u)
    distinct-same (distinct_on e) = refl
    distinct-same _ = refl

    on-same : (u : Distinct) → Same (IsDistinctOn (change_distinct v l u)) (IsDistinctOn u)
    on-same (distinct_on e) = refl
    on-same _ = refl

    order-iff : (o : Order) → IsEmptyOrder (change_order v l o) ↔ IsEmptyOrder o
    order-iff no_order = id
    order-iff (order_by is) =
        let e = blind.items-flat-same v l is in
        let h = empty-iff (change_expr v l) (flat_items is) in
        ((λ a. h.0 (sym e ∙ a)), (λ b. e ∙ h.1 b))

    list-iff : (c : Clause) → IsEmptyList (change_clause v l c) ↔ IsEmptyList c
    list-iff c =
        let e = blind.flat-same v l c.expr in
        let h = empty-iff (change_expr v l) (flat c.expr) in
        and id ((λ a. h.0 (sym e ∙ a)), (λ b. e ∙ h.1 b))

    lacks-same : (s : Source) → Same (LacksOn (change_source v l s)) (LacksOn s)
    lacks-same (join k a b on) = λ i. (¬ present-same on i) ⊎ (lacks-same a i ⊎ lacks-same b i)
    lacks-same _ = refl

    from-lacks-same : (f : From) → Same (FromLacksOn (change_from v l f)) (FromLacksOn f)
    from-lacks-same no_source = refl
    from-lacks-same (from s) = lacks-same s

    -- ## Types

    ill-same : (e : Expr) → Same (IsIllTyped (change_expr v l e)) (IsIllTyped e)
    ill-same (value t x) = λ i. one-fits t x i ≡ false
    ill-same e = λ i. only_type (blind.given-same v l all-fit e i) ≡ None

    all-ill-same : (es : List Expr)
        → Same (AnyOf (λ e. AnyOf IsIllTyped (nodes e)) (map (change_expr v l) es))
        (AnyOf (λ e. AnyOf IsIllTyped (nodes e)) es)
    all-ill-same =
        any-same (λ e. AnyOf IsIllTyped (nodes e)) (λ e. AnyOf IsIllTyped (nodes e)) (change_expr v l)
        (λ e. ap (AnyOf IsIllTyped) (blind.nodes-same v l e)
        ∙ any-same IsIllTyped IsIllTyped (change_expr v l) ill-same (nodes e))

    tops-same : (p : Place) (e : Expr) → tops p (change_expr v l e) ≡ map (change_expr v l) (tops p e)
    tops-same in_selection e = blind.flat-same v l e
    tops-same in_distinct_on e = blind.flat-same v l e
    tops-same in_group_by e = blind.flat-same v l e
    tops-same in_on e = refl
    tops-same in_where e = refl
    tops-same in_having e = refl
    tops-same in_order_by e = refl

    clause-ill-same : (c : Clause) → Same (IsIllTypedClause (change_clause v l c)) (IsIllTypedClause c)
    clause-ill-same c =
        let ill : Expr → Type 0 = λ e. AnyOf IsIllTyped (nodes e) in
        let a : Same (AnyOf ill (tops c.place (change_expr v l c.expr))) (AnyOf ill (tops c.place c.expr)) =
        ap (AnyOf ill) (tops-same c.place c.expr) ∙ all-ill-same (tops c.place c.expr) in
        λ i. a i ⊎ (IsCondition c.place × (¬ IsBool (only_type (blind.given-same v l all-fit c.expr i))))

    -- ## Outer joins

    padded-same : (s : Select) (o : Origin) → Same (IsPadded (sel s) o) (IsPadded s o)
    padded-same s o =
        λ i. AnyOf (λ m. (m.origin ≡ o) × IsTrue (is_padded m)) (blind.leaves-of-same v l s.source i)
        × (¬ AnyPair (λ a b. (a ≡ o) × (b ≡ o)) (blind.origins-same v l s.source i))

    any-padded : (s : Select) (os : View) → Same (AnyOf (IsPadded (sel s)) os) (AnyOf (IsPadded s) os)
    any-padded s [] = refl
    any-padded s (o ∷ os) = λ i. padded-same s o i ⊎ any-padded s os i

    bare-iff : (s : Select) (c : Clause) → LacksNullable (sel s) (change_clause v l c) ↔ LacksNullable s c
    bare-iff s c =
        and id (of-same (ap (AnyOf (IsPadded (sel s))) (blind.bare-same v l c.expr) ∙ any-padded s (bare c.expr)))

    -- ## Grouping

    counts-same : (e : Expr) → Same (CountsAggregate (change_expr v l e)) (CountsAggregate e)
    counts-same (count e) = λ i. IsTrue (blind.holds-same v l e i)
    counts-same _ = refl

    has-same : (e : MaybeExpr) → Same (HasAggregate (change_maybe v l e)) (HasAggregate e)
    has-same no_expr = refl
    has-same (an_expr e) = λ i. IsTrue (blind.holds-same v l e i)

    items-verdict : (g : MaybeExpr) (is : Items)
        → items_verdict (change_maybe v l g) (change_items v l is) ≡ items_verdict g is
    items-verdict g no_items = refl
    items-verdict g (more_items e by is) = λ i. mix (blind.verdict-same v l g e i) (items-verdict g is i)

    order-verdict : (g : MaybeExpr) (o : Order)
        → order_verdict (change_maybe v l g) (change_order v l o) ≡ order_verdict g o
    order-verdict g no_order = refl
    order-verdict g (order_by is) = items-verdict g is

    distinct-verdict : (g : MaybeExpr) (u : Distinct)
        → distinct_verdict (change_maybe v l g) (change_distinct v l u) ≡ distinct_verdict g u
    distinct-verdict g (distinct_on e) = blind.verdict-same v l g e
    distinct-verdict g _ = refl

    -- ## DISTINCT ON and the order

    order-differs : (k : Form) (u : Distinct) (o : Order)
        → Same (OrderDiffers k (change_distinct v l u) (change_order v l o)) (OrderDiffers k u o)
    order-differs (unboxed m) (distinct_on e) (order_by is) =
        let R : Expr → Expr → Type 0 = λ x y. expr_shape x ≢ expr_shape y in
        (λ i. Differ R (blind.flat-same v l e i) (blind.items-flat-same v l is i))
        ∙ differ-same R (change_expr v l) (λ x y. λ i. shape-same x i ≢ shape-same y i) (flat e) (flat_items is)
    order-differs _ _ _ = refl

    -- ## What a dialect has

    sample-iff : {X : Type 0} (f : X → X) (o : Option X) → (option_map f o ≢ None) ↔ (o ≢ None)
    sample-iff f o = no (none-iff f o)

    marks-iff : (s : Source) → HasTableMarks (change_source v l s) ↔ HasTableMarks s
    marks-iff (of_table t only sample) = or id (sample-iff _ sample)
    marks-iff (of_alias a t) = id
    marks-iff (join k a b on) = or (marks-iff a) (marks-iff b)

    from-marks-iff : (f : From) → FromHasMarks (change_from v l f) ↔ FromHasMarks f
    from-marks-iff no_source = id
    from-marks-iff (from s) = marks-iff s

    alone-iff : (r : LimitOffsetClause) → IsOffsetAlone (blank_rows r) ↔ IsOffsetAlone r
    alone-iff r = and (none-iff _ r.limit_clause) (sample-iff _ r.offset_clause)

    -- ## The rules

    select-iff : (r : Rule) (schema : Declarations) (d : Dialect) (outer : View) (s : Select)
        → SelectBreaks r schema d outer (sel s) ↔ SelectBreaks r schema d outer s
    select-iff R.UnknownName schema d outer s =
        or (of-same (ap (AnyOf (λ o. ¬ IsTable schema o.table)) (blind.origins-same v l s.source)))
        (any-expr (λ w. IsUnknownColumn schema) (λ w. unknown-same schema) outer s)
    select-iff R.Incompatible schema d outer s =
        of-same
        (λ i. IsTrue (misuse s.marks)
        ⊎ ((HasLock s.form
        × (distinct-same s.distinctness i ⊎ (present-same s.group_by i ⊎ present-same s.having_by i)))
        ⊎ (present-same s.having_by i × (¬ present-same s.group_by i))))
    select-iff R.EmptyList schema d outer s =
        or (any-clause IsEmptyList IsEmptyList list-iff outer s) (order-iff s.order)
    select-iff R.NoRelation schema d outer s = of-same (from-lacks-same s.source)
    select-iff R.Ambiguous schema d outer s = two-leaves _ outer s
    select-iff R.NotTogether schema d outer s = two-leaves _ outer s
    select-iff R.NameClash schema d outer s = two-leaves _ outer s
    select-iff R.NotInScope schema d outer s = any-expr IsOutOfScope scope-same outer s
    select-iff R.TypeMismatch schema d outer s =
        or (any-clause IsIllTypedClause IsIllTypedClause (λ c. of-same (clause-ill-same c)) outer s) id
    select-iff R.NeedsNullable schema d outer s =
        any-clause (LacksNullable (sel s)) (LacksNullable s) (bare-iff s) outer s
    select-iff R.Grouping schema d outer s =
        let e = blind.verdict-same v l s.group_by s.selection in
        let o = order-verdict s.group_by s.order in
        let u = distinct-verdict s.group_by s.distinctness in
        or (any-expr (λ w. CountsAggregate) (λ w. counts-same) outer s)
        (of-same
        (λ i. (has-same s.where_by i ⊎ has-same s.group_by i)
        ⊎ (((e i ≡ NoVerdict) ⊎ (u i ≡ NoVerdict))
        ⊎ (IsUnboxed s.form × ((mix (e i) (o i) ≡ NoVerdict) ⊎ (mix (e i) (u i) ≡ NoVerdict))))))
    select-iff R.InvalidDistinctOrder schema d outer s = of-same (order-differs s.form s.distinctness s.order)
    select-iff R.Unsupported schema d outer s =
        or (and id (or (of-same (on-same s.distinctness)) (from-marks-iff s.source)))
        (or id (and id (and id (alone-iff s.rows))))
    select-iff R.TooManyBinds schema d outer s = id

    part-iff : (r : Rule) (schema : Declarations) (d : Dialect) (p : Part)
        → PartBreaks r schema d (change_part v l p) ↔ PartBreaks r schema d p
    part-iff r schema d (a_select outer s) = select-iff r schema d outer s
    part-iff R.TypeMismatch schema d (a_combination c) =
        of-same (λ i. blind.columns-same v l all-fit c.left i ≢ blind.columns-same v l all-fit c.right i)
    part-iff R.Unsupported schema d (a_combination c) = or id (and id (alone-iff c.rows))
    part-iff r schema d (a_combination c) = id

    -- a rule is broken by a statement inside the one exactly where it is by a statement inside the other
    pub parts-iff : (r : Rule) (schema : Declarations) (d : Dialect) (s : Statement)
        → AnyOf (PartBreaks r schema d) (parts [] (change v l s)) ↔ AnyOf (PartBreaks r schema d) (parts [] s)
    parts-iff r schema d s =
        let e = blind.parts-same v l s [] in
        let P : Part → Type 0 = PartBreaks r schema d in
        let h = any-iff P P (change_part v l) (part-iff r schema d) (parts [] s) in
        ((λ a. h.0 (subst (AnyOf P) e a)), (λ b. subst (AnyOf P) (sym e) (h.1 b)))
