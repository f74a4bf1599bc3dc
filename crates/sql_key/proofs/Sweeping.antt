-- The nodes of a shape are the statement's without their values.
use Rattle.std.proofs.Common.{◌≡◌, Bool, true, false, List, [], ◌∷◌, Option, None, Some, refl, ap, sym}
use Rattle.sql_schema.specs.declared.types.SqlType.{SqlType}
use Rattle.sql_pass.specs.declared.value.Value.{Value}
use Rattle.sql_pass.specs.declared.value.Value.TheVariants.{Null}
use Rattle.sql_leaf.specs.declared.position.PositionalItem.{PositionalItem}
use Rattle.sql_node.specs.Tree.{Expr, column, value, list, count_star, nullable, unary, count, compared, joined as logical, exists, single, among_values, among_rows, Exprs, no_exprs, more_exprs, Items, no_items, more_items, MaybeExpr, no_expr, an_expr, Source, of_table, of_alias, join, From, no_source, from, Distinct, every, distinct, distinct_on, Order, no_order, order_by, Statement, select, combination}
use Rattle.sql_flat_law.specs.Rose.{node, Roses, none, more, leaf, one, joined, roses_of}
use Rattle.sql_flat.specs.Flat.{expr_rose, exprs_roses, items_roses, maybe_roses, source_rose, from_roses, distinct_roses, order_roses, positions_roses, rose, uniqueness, has_on, form_of}
use Rattle.sql_flat.specs.declared.kind.FlatKind.{FlatKind}
use Rattle.sql_flat.specs.declared.kind.FlatKind.TheVariants as K
use Rattle.sql_shape.specs.Shape.{blank_rows, change_expr, change_exprs, change_items, change_maybe, change_source, change_from, change_distinct, change_order, change, null}
use Rattle.sql_key.specs.inside.Swept.{many, swept, swept_each}

elements-swept : (lists : Bool) (t : SqlType) (vs : List Value)
    → swept_each lists (roses_of (λ v. leaf (K.Element t v)) vs) ≡ roses_of (λ v. leaf (K.Element t v)) (many lists vs)
elements-swept true t [] = refl
elements-swept true t (v ∷ vs) = ap (more (leaf (K.Element t Null))) (elements-swept true t vs)
elements-swept false t [] = refl
elements-swept false t (v ∷ vs) = elements-swept false t vs

positions-swept : (lists : Bool) (ps : List PositionalItem)
    → swept_each lists (roses_of (λ p. leaf (K.Position p)) ps) ≡ roses_of (λ p. leaf (K.Position p)) ps
positions-swept lists [] = refl
positions-swept lists (p ∷ ps) = ap (more (leaf (K.Position p))) (positions-swept lists ps)

positional-swept : (lists : Bool) (o : Option (List PositionalItem))
    → swept_each lists (positions_roses o) ≡ positions_roses o
positional-swept lists None = refl
positional-swept lists (Some ps) = ap (λ ts. one (node K.Positions ts)) (positions-swept lists ps)

module _ (lists : Bool) where
  abbrev l : SqlType → List Value → List Value
  l t = many lists

  unique-swept : (u : Distinct) → uniqueness (change_distinct null l u) ≡ uniqueness u
  unique-swept every = refl
  unique-swept distinct = refl
  unique-swept (distinct_on e) = refl

  on-swept : (on : MaybeExpr) → has_on (change_maybe null l on) ≡ has_on on
  on-swept no_expr = refl
  on-swept (an_expr e) = refl

  mutual
    pub expr-swept : (e : Expr) → swept lists (expr_rose e) ≡ one (expr_rose (change_expr null l e))
    expr-swept (column o c) = refl
    expr-swept (value t v) = refl
    expr-swept (list es) = ap (λ ts. one (node K.List ts)) (exprs-swept es)
    expr-swept count_star = refl
    expr-swept (nullable e) = ap (λ ts. one (node K.Nullable (joined ts none))) (expr-swept e)
    expr-swept (unary n e) = ap (λ ts. one (node (K.Unary n) (joined ts none))) (expr-swept e)
    expr-swept (count e) = ap (λ ts. one (node K.Count (joined ts none))) (expr-swept e)
    expr-swept (compared by a b) =
        λ i. one (node (K.Compared by) (joined (expr-swept a i) (joined (expr-swept b i) none)))
    expr-swept (logical by a b) =
        λ i. one (node (K.Joined by) (joined (expr-swept a i) (joined (expr-swept b i) none)))
    expr-swept (exists q) = ap (λ ts. one (node K.Exists (joined ts none))) (statement-swept q)
    expr-swept (single q) = ap (λ ts. one (node K.Single (joined ts none))) (statement-swept q)
    expr-swept (among_values n e t vs) =
        λ i. one (node (K.Among n true) (joined (expr-swept e i) (one (node (K.Values t) (elements-swept lists t vs i)))))
    expr-swept (among_rows n e q) =
        λ i. one (node (K.Among n false) (joined (expr-swept e i) (joined (statement-swept q i) none)))

    exprs-swept : (es : Exprs) → swept_each lists (exprs_roses es) ≡ exprs_roses (change_exprs null l es)
    exprs-swept no_exprs = refl
    exprs-swept (more_exprs e es) = λ i. joined (expr-swept e i) (exprs-swept es i)

    items-swept : (is : Items) → swept_each lists (items_roses is) ≡ items_roses (change_items null l is)
    items-swept no_items = refl
    items-swept (more_items e by is) =
        λ i. more (node (K.Item by) (joined (expr-swept e i) none)) (items-swept is i)

    where-swept : (e : MaybeExpr) (ts us : Roses FlatKind) → swept_each lists ts ≡ us
        → swept_each lists (maybe_roses K.Where e ts) ≡ maybe_roses K.Where (change_maybe null l e) us
    where-swept no_expr ts us h = h
    where-swept (an_expr e) ts us h = λ i. more (node K.Where (joined (expr-swept e i) none)) (h i)

    group-swept : (e : MaybeExpr) (ts us : Roses FlatKind) → swept_each lists ts ≡ us
        → swept_each lists (maybe_roses K.GroupBy e ts) ≡ maybe_roses K.GroupBy (change_maybe null l e) us
    group-swept no_expr ts us h = h
    group-swept (an_expr e) ts us h = λ i. more (node K.GroupBy (joined (expr-swept e i) none)) (h i)

    having-swept : (e : MaybeExpr) (ts us : Roses FlatKind) → swept_each lists ts ≡ us
        → swept_each lists (maybe_roses K.Having e ts) ≡ maybe_roses K.Having (change_maybe null l e) us
    having-swept no_expr ts us h = h
    having-swept (an_expr e) ts us h = λ i. more (node K.Having (joined (expr-swept e i) none)) (h i)

    condition-swept : (e : MaybeExpr)
        → swept_each lists (maybe_roses K.On e none) ≡ maybe_roses K.On (change_maybe null l e) none
    condition-swept no_expr = refl
    condition-swept (an_expr e) = λ i. more (node K.On (joined (expr-swept e i) none)) none

    source-swept : (s : Source) → swept lists (source_rose s) ≡ one (source_rose (change_source null l s))
    source-swept (of_table t only sample) = refl
    source-swept (of_alias a t) = refl
    source-swept (join k a b on) =
        λ i. one (node (K.Join k (sym (on-swept on) i))
        (joined (source-swept a i) (joined (source-swept b i) (condition-swept on i))))

    from-swept : (f : From) (ts us : Roses FlatKind) → swept_each lists ts ≡ us
        → swept_each lists (from_roses f ts) ≡ from_roses (change_from null l f) us
    from-swept no_source ts us h = h
    from-swept (from s) ts us h = λ i. more (node K.From (joined (source-swept s i) none)) (h i)

    distinct-swept : (u : Distinct) (ts us : Roses FlatKind) → swept_each lists ts ≡ us
        → swept_each lists (distinct_roses u ts) ≡ distinct_roses (change_distinct null l u) us
    distinct-swept every ts us h = h
    distinct-swept distinct ts us h = h
    distinct-swept (distinct_on e) ts us h = λ i. more (node K.DistinctOn (joined (expr-swept e i) none)) (h i)

    order-swept : (o : Order) → swept_each lists (order_roses o) ≡ order_roses (change_order null l o)
    order-swept no_order = refl
    order-swept (order_by is) = ap (λ ts. one (node K.OrderBy ts)) (items-swept is)

    pub statement-swept : (s : Statement) → swept lists (rose s) ≡ one (rose (change null l s))
    statement-swept (select default e f u w o rows g h form marks) =
        let having = having-swept h (order_roses o) (order_roses (change_order null l o)) (order-swept o) in
        let group = group-swept g _ _ having in
        let condition = where-swept w _ _ group in
        let source = from-swept f _ _ condition in
        let selection : swept_each lists (more (expr_rose e) (from_roses f
        (maybe_roses K.Where w (maybe_roses K.GroupBy g (maybe_roses K.Having h (order_roses o))))))
        ≡ more (expr_rose (change_expr null l e)) (from_roses (change_from null l f)
        (maybe_roses K.Where (change_maybe null l w) (maybe_roses K.GroupBy (change_maybe null l g)
        (maybe_roses K.Having (change_maybe null l h) (order_roses (change_order null l o)))))) =
        λ i. joined (expr-swept e i) (source i) in
        let all = distinct-swept u _ _ selection in
        λ i. one (node (K.Select (record {
          default = default;
          unique = sym (unique-swept u) i;
          rows = blank_rows rows;
          form = form_of form;
          marks = marks;
        })) (all i))
    statement-swept (combination by all a b o rows) =
        λ i. one (node (K.Combination (record { combinator = by; duplicates = all; rows = blank_rows rows }))
        (more (node K.Side (joined (statement-swept a i) none))
        (more (node K.Side (joined (statement-swept b i) none)) (positional-swept lists o i))))
