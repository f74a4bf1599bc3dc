-- A select statement whose expressions are guarded, without a predicate of its own: it breaks no rule that the statement does not
-- break.
use Rattle.std.proofs.Common.{◌≡◌, List, [], ◌∷◌, ◌++◌, map, None, refl, sym, ap, ap₂, subst, ◌∙◌, inl, inr, IsTrue}
use Rattle.std.proofs.lemmas.List.{map-append}
use Rattle.sql_schema.specs.Declarations.{Declarations}
use Rattle.sql_schema.specs.declared.declaration.TableDecl.{TableDecl}
use Rattle.sql_dialect.specs.declared.backend.Dialect.{Dialect}
use Rattle.sql_leaf.specs.declared.table_source.JoinKind.TheVariants.{Inner, LeftOuter}
use Rattle.sql_node.specs.Tree.{Form, unboxed, boxed, Expr, column, value, list, count_star, nullable, unary, count, compared, joined, exists, single, among_values, among_rows, Items, no_items, more_items, MaybeExpr, no_expr, an_expr, Source, of_table, of_alias, join, From, no_source, from, Distinct, every, distinct, distinct_on, Order, no_order, order_by}
use Rattle.sql_origin.specs.Leaves.{Leaf, leaves, in_right_side, is_padded}
use Rattle.sql_rules.specs.Lists.{AnyOf, AnyPair, Differ}
use Rattle.sql_rules.specs.Rules.{SelectBreaks, IsTable, IsUnknownColumn, IsOutOfScope, IsIllTyped, IsIllTypedClause, IsBool, IsEmptyList, IsEmptyOrder, IsSelected, LacksOn, FromLacksOn, Present, IsDistinct, IsDistinctOn, LacksNullable, CountsAggregate, HasAggregate, HasTableMarks, FromHasMarks, OrderDiffers, bare, tops}
use Rattle.sql_rules.specs.Scope.{View, Select, Clause, Place, in_selection, in_distinct_on, in_on, in_where, in_group_by, in_having, in_order_by, AnyExpr, clauses, clauses_by, own, origins, origins_of, leaves_of, ons, ons_of, maybe_clause, distinct_clause, item_clauses, order_clauses, nodes, flat, flat_items, widest}
use Rattle.sql_rules.specs.Types.{only_type, type_of}
use Rattle.sql_rules.specs.Verdicts.{mix}
use Rattle.sql_rules.specs.declared.rule.Rule.{Rule}
use Rattle.sql_rules.specs.declared.rule.Rule.TheVariants as R
use Rattle.sql_rules.proofs.Loops.{any_each}
use Rattle.sql_shape.specs.Expressions.{expr_shape}
use Rattle.sql_guard_law.specs.Guarded.{guarded_expr, guarded_items, guarded_maybe, guarded_source, guarded_from, guarded_distinct, guarded_order}
use Rattle.sql_guard_law.specs.Restricted.{predicates, predicates_from, with_all, open_leaves, restricted_source, restricted_from}
use Rattle.sql_guard_law.proofs.GuardedErased.{erased-guarded}
use Rattle.sql_guard_law.proofs.GuardedShapes.{nodes-same, holds_aggregate-same}
use Rattle.sql_guard_law.proofs.InnerTypes.{given-same, flat-same, flat_items-same, bare-same, verdict-same, order_verdict-same, distinct_verdict-same}

unmapped : {A B : Type 0} (P : B → Type 0) (f : A → B) (xs : List A) → AnyOf P (map f xs) → AnyOf (λ x. P (f x)) xs
unmapped P f [] h = absurd h
unmapped P f (x ∷ xs) (inl h) = inl h
unmapped P f (x ∷ xs) (inr h) = inr (unmapped P f xs h)

none-mapped : {A B : Type 0} (f : A → B) (xs : List A) → map f xs ≡ [] → xs ≡ []
none-mapped f [] e = refl
none-mapped f (x ∷ xs) e = absurd cc

differ-mapped : {A B : Type 0} (R : B → B → Type 0) (S : A → A → Type 0) (f : A → B)
    → ((x y : A) → R (f x) (f y) → S x y) → (xs ys : List A) → Differ R (map f xs) (map f ys) → Differ S xs ys
differ-mapped R S f g [] ys h = absurd h
differ-mapped R S f g (x ∷ xs) [] h = absurd h
differ-mapped R S f g (x ∷ xs) (y ∷ ys) (inl h) = inl (g x y h)
differ-mapped R S f g (x ∷ xs) (y ∷ ys) (inr h) = inr (differ-mapped R S f g xs ys h)

module _ (t : TableDecl) (p : Expr) where
  abbrev pub inner_source : Source → Source
  inner_source (of_table u only sample) = of_table u only sample
  inner_source (of_alias a u) = of_alias a u
  inner_source (join kind l r on) = join kind (inner_source l) (inner_source r) (guarded_maybe t p on)

  abbrev pub inner_from : From → From
  inner_from no_source = no_source
  inner_from (from s) = from (inner_source s)

  abbrev pub inner_select : Select → Select
  inner_select s =
      record s {
        selection = guarded_expr t p s.selection;
        source = inner_from s.source;
        distinctness = guarded_distinct t p s.distinctness;
        where_by = guarded_maybe t p s.where_by;
        order = guarded_order t p s.order;
        group_by = guarded_maybe t p s.group_by;
        having_by = guarded_maybe t p s.having_by;
      }

  -- ---- then the statement's own predicates

  open-inner : (s : Source) → open_leaves t (inner_source s) ≡ open_leaves t s
  open-inner (of_table u only sample) = refl
  open-inner (of_alias a u) = refl
  open-inner (join Inner l r on) = ap₂ ◌++◌ (open-inner l) (open-inner r)
  open-inner (join LeftOuter l r on) = open-inner l

  predicates-inner : (s : Source) → predicates t p (inner_source s) ≡ predicates t p s
  predicates-inner s = ap (map _) (open-inner s)

  restricted-inner : (s : Source) → restricted_source t p (inner_source s) ≡ guarded_source t p s
  restricted-inner (of_table u only sample) = refl
  restricted-inner (of_alias a u) = refl
  restricted-inner (join Inner l r on) =
      ap₂ (λ x y. join Inner x y (guarded_maybe t p on)) (restricted-inner l) (restricted-inner r)
  restricted-inner (join LeftOuter l r on) = λ i.
      join LeftOuter (restricted-inner l i) (restricted-inner r i)
      (with_all (predicates-inner r i) (guarded_maybe t p on))

  pub restricted_from-inner : (f : From) → restricted_from t p (inner_from f) ≡ guarded_from t p f
  restricted_from-inner no_source = refl
  restricted_from-inner (from s) = ap from (restricted-inner s)

  pub predicates_from-inner : (f : From) → predicates_from t p (inner_from f) ≡ predicates_from t p f
  predicates_from-inner no_source = refl
  predicates_from-inner (from s) = predicates-inner s

  -- ---- what stays

  leaves-inner : (s : Source) → leaves (inner_source s) ≡ leaves s
  leaves-inner (of_table u only sample) = refl
  leaves-inner (of_alias a u) = refl
  leaves-inner (join kind l r on) = ap₂ (λ xs ys. xs ++ map (in_right_side kind) ys) (leaves-inner l) (leaves-inner r)

  origins-inner : (s : Source) → origins (inner_source s) ≡ origins s
  origins-inner s = ap (map (λ l. l.origin)) (leaves-inner s)

  leaves_of-inner : (f : From) → leaves_of (inner_from f) ≡ leaves_of f
  leaves_of-inner no_source = refl
  leaves_of-inner (from s) = leaves-inner s

  own-inner : (f : From) → origins_of (inner_from f) ≡ origins_of f
  own-inner f = ap (map (λ l. l.origin)) (leaves_of-inner f)

  widest-inner : (form : Form) (f : From) (outer : View) → widest form (inner_from f) outer ≡ widest form f outer
  widest-inner (unboxed l) no_source outer = refl
  widest-inner (unboxed l) (from s) outer = ap (λ os. os ++ outer) (origins-inner s)
  widest-inner (boxed d n) f outer = own-inner f

  -- ---- clauses

  abbrev inner_clause : Clause → Clause
  inner_clause c = record c { expr = guarded_expr t p c.expr }

  maybe-inner : (place : Place) (v : View) (c : MaybeExpr)
      → maybe_clause place v (guarded_maybe t p c) ≡ map inner_clause (maybe_clause place v c)
  maybe-inner place v no_expr = refl
  maybe-inner place v (an_expr e) = refl

  distinct-inner : (v : View) (u : Distinct)
      → distinct_clause v (guarded_distinct t p u) ≡ map inner_clause (distinct_clause v u)
  distinct-inner v every = refl
  distinct-inner v distinct = refl
  distinct-inner v (distinct_on e) = refl

  items-inner : (v : View) (is : Items) → item_clauses v (guarded_items t p is) ≡ map inner_clause (item_clauses v is)
  items-inner v no_items = refl
  items-inner v (more_items e by is) =
      ap (λ l. record { place = in_order_by; view = v; expr = guarded_expr t p e } ∷ l) (items-inner v is)

  order-inner : (v : View) (o : Order) → order_clauses v (guarded_order t p o) ≡ map inner_clause (order_clauses v o)
  order-inner v no_order = refl
  order-inner v (order_by is) = items-inner v is

  ons-inner : (s : Source) → ons (inner_source s) ≡ map inner_clause (ons s)
  ons-inner (of_table u only sample) = refl
  ons-inner (of_alias a u) = refl
  ons-inner (join kind l r on) =
      ap₂ ◌++◌ (ons-inner l)
      (ap₂ ◌++◌ (ons-inner r)
      (ap (λ v. maybe_clause in_on v (guarded_maybe t p on)) (ap₂ ◌++◌ (origins-inner l) (origins-inner r))
      ∙ maybe-inner in_on (origins l ++ origins r) on)
      ∙ sym (map-append inner_clause (ons r) (maybe_clause in_on (origins l ++ origins r) on)))
      ∙ sym (map-append inner_clause (ons l) (ons r ++ maybe_clause in_on (origins l ++ origins r) on))

  ons_of-inner : (f : From) → ons_of (inner_from f) ≡ map inner_clause (ons_of f)
  ons_of-inner no_source = refl
  ons_of-inner (from s) = ons-inner s

  appended : (xs ys : List Clause) (us vs : List Clause) → us ≡ map inner_clause xs → vs ≡ map inner_clause ys
      → us ++ vs ≡ map inner_clause (xs ++ ys)
  appended xs ys us vs e h = ap₂ ◌++◌ e h ∙ sym (map-append inner_clause xs ys)

  clauses_by-inner : (v w : View) (s : Select) → clauses_by v w (inner_select s) ≡ map inner_clause (clauses_by v w s)
  clauses_by-inner v w s =
      appended (distinct_clause v s.distinctness) _ _ _ (distinct-inner v s.distinctness)
      (ap (λ l. record { place = in_selection; view = v; expr = guarded_expr t p s.selection } ∷ l)
      (appended (ons_of s.source) _ _ _ (ons_of-inner s.source)
      (appended (maybe_clause in_where w s.where_by) _ _ _ (maybe-inner in_where w s.where_by)
      (appended (maybe_clause in_group_by v s.group_by) _ _ _ (maybe-inner in_group_by v s.group_by)
      (appended (maybe_clause in_having v s.having_by) (order_clauses v s.order) _ _ (maybe-inner in_having v s.having_by)
      (order-inner v s.order))))))

  clauses-inner : (outer : View) (s : Select) → clauses outer (inner_select s) ≡ map inner_clause (clauses outer s)
  clauses-inner outer s =
      ap₂ (λ v w. clauses_by v w (inner_select s)) (own-inner s.source) (widest-inner s.form s.source outer)
      ∙ clauses_by-inner (own s) (widest s.form s.source outer) s

  -- what breaks a rule at a clause, or at an expression
  any-clause : (P Q : Clause → Type 0) → ((c : Clause) → P (inner_clause c) → Q c) → (outer : View) (s : Select)
      → AnyOf P (clauses outer (inner_select s)) → AnyOf Q (clauses outer s)
  any-clause P Q f outer s h =
      any_each (λ c. P (inner_clause c)) Q f (clauses outer s)
      (unmapped P inner_clause (clauses outer s) (subst (AnyOf P) (clauses-inner outer s) h))

  any-node : (P : Expr → Type 0) → ((x : Expr) → P (guarded_expr t p x) → P x) → (e : Expr)
      → AnyOf P (nodes (guarded_expr t p e)) → AnyOf P (nodes e)
  any-node P f e h =
      any_each (λ x. P (guarded_expr t p x)) P f (nodes e)
      (unmapped P (guarded_expr t p) (nodes e) (subst (AnyOf P) (nodes-same t p e) h))

  any-expr : (P : View → Expr → Type 0) → ((v : View) (x : Expr) → P v (guarded_expr t p x) → P v x) → (outer : View)
      → (s : Select) → AnyExpr P outer (inner_select s) → AnyExpr P outer s
  any-expr P f outer s h =
      any-clause (λ c. AnyOf (P c.view) (nodes c.expr)) (λ c. AnyOf (P c.view) (nodes c.expr))
      (λ c g. any-node (P c.view) (f c.view) c.expr g) outer s h

  unknown : (schema : Declarations) (x : Expr) → IsUnknownColumn schema (guarded_expr t p x) → IsUnknownColumn schema x
  unknown schema (column o c) h = h
  unknown schema (value ty x) h = h
  unknown schema (list es) h = h
  unknown schema count_star h = h
  unknown schema (nullable e) h = h
  unknown schema (unary u e) h = h
  unknown schema (count e) h = h
  unknown schema (compared by a b) h = h
  unknown schema (joined by a b) h = h
  unknown schema (exists q) h = h
  unknown schema (single q) h = h
  unknown schema (among_values n e ty xs) h = h
  unknown schema (among_rows n e q) h = h

  unseen : (v : View) (x : Expr) → IsOutOfScope v (guarded_expr t p x) → IsOutOfScope v x
  unseen v (column o c) h = h
  unseen v (value ty x) h = h
  unseen v (list es) h = h
  unseen v count_star h = h
  unseen v (nullable e) h = h
  unseen v (unary u e) h = h
  unseen v (count e) h = h
  unseen v (compared by a b) h = h
  unseen v (joined by a b) h = h
  unseen v (exists q) h = h
  unseen v (single q) h = h
  unseen v (among_values n e ty xs) h = h
  unseen v (among_rows n e q) h = h

  counting : (x : Expr) → CountsAggregate (guarded_expr t p x) → CountsAggregate x
  counting (count e) h = subst IsTrue (holds_aggregate-same t p e) h
  counting (column o c) h = h
  counting (value ty x) h = h
  counting (list es) h = h
  counting count_star h = h
  counting (nullable e) h = h
  counting (unary u e) h = h
  counting (compared by a b) h = h
  counting (joined by a b) h = h
  counting (exists q) h = h
  counting (single q) h = h
  counting (among_values n e ty xs) h = h
  counting (among_rows n e q) h = h

  type-inner : (e : Expr) → type_of (guarded_expr t p e) ≡ type_of e
  type-inner e = ap only_type (given-same t p e)

  untyped : (e : Expr) → type_of (guarded_expr t p e) ≡ None → type_of e ≡ None
  untyped e h = sym (type-inner e) ∙ h

  ill : (x : Expr) → IsIllTyped (guarded_expr t p x) → IsIllTyped x
  ill (value ty x) h = h
  ill (column o c) h = h
  ill (list es) h = untyped (list es) h
  ill count_star h = h
  ill (nullable e) h = untyped (nullable e) h
  ill (unary u e) h = untyped (unary u e) h
  ill (count e) h = untyped (count e) h
  ill (compared by a b) h = untyped (compared by a b) h
  ill (joined by a b) h = untyped (joined by a b) h
  ill (exists q) h = untyped (exists q) h
  ill (single q) h = untyped (single q) h
  ill (among_values n e ty xs) h = untyped (among_values n e ty xs) h
  ill (among_rows n e q) h = untyped (among_rows n e q) h

  tops-inner : (place : Place) (e : Expr) → tops place (guarded_expr t p e) ≡ map (guarded_expr t p) (tops place e)
  tops-inner in_selection e = flat-same t p e
  tops-inner in_distinct_on e = flat-same t p e
  tops-inner in_group_by e = flat-same t p e
  tops-inner in_on e = refl
  tops-inner in_where e = refl
  tops-inner in_having e = refl
  tops-inner in_order_by e = refl

  ill-clause : (c : Clause) → IsIllTypedClause (inner_clause c) → IsIllTypedClause c
  ill-clause c (inl h) =
      inl (any_each (λ x. AnyOf IsIllTyped (nodes (guarded_expr t p x))) (λ x. AnyOf IsIllTyped (nodes x))
      (λ x g. any-node IsIllTyped ill x g) (tops c.place c.expr)
      (unmapped (λ x. AnyOf IsIllTyped (nodes x)) (guarded_expr t p) (tops c.place c.expr)
      (subst (AnyOf (λ x. AnyOf IsIllTyped (nodes x))) (tops-inner c.place c.expr) h)))
  ill-clause c (inr h) = inr (h.0, λ b. h.1 (subst IsBool (sym (type-inner c.expr)) b))

  empty-clause : (c : Clause) → IsEmptyList (inner_clause c) → IsEmptyList c
  empty-clause c h = (h.0, none-mapped (guarded_expr t p) (flat c.expr) (sym (flat-same t p c.expr) ∙ h.1))

  empty-order : (o : Order) → IsEmptyOrder (guarded_order t p o) → IsEmptyOrder o
  empty-order no_order h = h
  empty-order (order_by is) h =
      none-mapped (guarded_expr t p) (flat_items is) (sym (flat_items-same t p is) ∙ h)

  present-inner : (c : MaybeExpr) → Present c → Present (guarded_maybe t p c)
  present-inner no_expr h = h
  present-inner (an_expr e) h = tt

  inner-present : (c : MaybeExpr) → Present (guarded_maybe t p c) → Present c
  inner-present no_expr h = h
  inner-present (an_expr e) h = tt

  distinct-is : (u : Distinct) → IsDistinct (guarded_distinct t p u) → IsDistinct u
  distinct-is every h = h
  distinct-is distinct h = h
  distinct-is (distinct_on e) h = h

  distinct_on-is : (u : Distinct) → IsDistinctOn (guarded_distinct t p u) → IsDistinctOn u
  distinct_on-is every h = h
  distinct_on-is distinct h = h
  distinct_on-is (distinct_on e) h = h

  lacks : (s : Source) → LacksOn (inner_source s) → LacksOn s
  lacks (of_table u only sample) h = h
  lacks (of_alias a u) h = h
  lacks (join kind l r on) (inl n) = inl (λ h. n (present-inner on h))
  lacks (join kind l r on) (inr (inl h)) = inr (inl (lacks l h))
  lacks (join kind l r on) (inr (inr h)) = inr (inr (lacks r h))

  lacks-from : (f : From) → FromLacksOn (inner_from f) → FromLacksOn f
  lacks-from no_source h = h
  lacks-from (from s) h = lacks s h

  marked : (s : Source) → HasTableMarks (inner_source s) → HasTableMarks s
  marked (of_table u only sample) h = h
  marked (of_alias a u) h = h
  marked (join kind l r on) (inl h) = inl (marked l h)
  marked (join kind l r on) (inr h) = inr (marked r h)

  marked-from : (f : From) → FromHasMarks (inner_from f) → FromHasMarks f
  marked-from no_source h = h
  marked-from (from s) h = marked s h

  aggregate-inner : (c : MaybeExpr) → HasAggregate (guarded_maybe t p c) → HasAggregate c
  aggregate-inner no_expr h = h
  aggregate-inner (an_expr e) h = subst IsTrue (holds_aggregate-same t p e) h

  -- equal shapes stay equal shapes
  shapes : (x y : Expr) → ¬ (expr_shape (guarded_expr t p x) ≡ expr_shape (guarded_expr t p y))
      → ¬ (expr_shape x ≡ expr_shape y)
  shapes x y n e =
      n (erased-guarded (λ xs. []) t p x
      ∙ (ap (guarded_expr t (expr_shape p)) e ∙ sym (erased-guarded (λ xs. []) t p y)))

  differs : (form : Form) (u : Distinct) (o : Order)
      → OrderDiffers form (guarded_distinct t p u) (guarded_order t p o) → OrderDiffers form u o
  differs (unboxed l) (distinct_on e) (order_by is) h =
      differ-mapped (λ x y. ¬ (expr_shape x ≡ expr_shape y)) (λ x y. ¬ (expr_shape x ≡ expr_shape y)) (guarded_expr t p)
      shapes (flat e) (flat_items is)
      (subst (λ l. Differ (λ x y. ¬ (expr_shape x ≡ expr_shape y)) l (map (guarded_expr t p) (flat_items is)))
      (flat-same t p e)
      (subst (λ l. Differ (λ x y. ¬ (expr_shape x ≡ expr_shape y)) (flat (guarded_expr t p e)) l)
      (flat_items-same t p is) h))
  differs (unboxed l) every o h = h
  differs (unboxed l) distinct o h = h
  differs (unboxed l) (distinct_on e) no_order h = h
  differs (boxed d n) u o h = h

  -- what the rule on outer joins asks of a clause, by the leaves
  abbrev LacksAmong : List Leaf → Clause → Type 0
  LacksAmong ls c =
      IsSelected c.place
      × AnyOf (λ o. AnyOf (λ l. (l.origin ≡ o) × IsTrue (is_padded l)) ls
      × ¬ AnyPair (λ a b. (a ≡ o) × (b ≡ o)) (map (λ l. l.origin) ls)) (bare c.expr)

  pub inner-kept : (schema : Declarations) (d : Dialect) (outer : View) (s : Select) (r : Rule)
      → SelectBreaks r schema d outer (inner_select s) → SelectBreaks r schema d outer s
  inner-kept schema d outer s R.UnknownName (inl h) =
      inl (subst (AnyOf (λ o. ¬ IsTable schema o.table)) (own-inner s.source) h)
  inner-kept schema d outer s R.UnknownName (inr h) =
      inr (any-expr (λ v. IsUnknownColumn schema) (λ v x g. unknown schema x g) outer s h)
  inner-kept schema d outer s R.Incompatible (inl h) = inl h
  inner-kept schema d outer s R.Incompatible (inr (inl (l, inl h))) = inr (inl (l, inl (distinct-is s.distinctness h)))
  inner-kept schema d outer s R.Incompatible (inr (inl (l, inr (inl h)))) =
      inr (inl (l, inr (inl (inner-present s.group_by h))))
  inner-kept schema d outer s R.Incompatible (inr (inl (l, inr (inr h)))) =
      inr (inl (l, inr (inr (inner-present s.having_by h))))
  inner-kept schema d outer s R.Incompatible (inr (inr (h, n))) =
      inr (inr (inner-present s.having_by h, λ g. n (present-inner s.group_by g)))
  inner-kept schema d outer s R.EmptyList (inl h) = inl (any-clause IsEmptyList IsEmptyList empty-clause outer s h)
  inner-kept schema d outer s R.EmptyList (inr h) = inr (empty-order s.order h)
  inner-kept schema d outer s R.NoRelation h = lacks-from s.source h
  inner-kept schema d outer s R.Ambiguous h =
      subst (AnyPair (λ a b. a ≡ b)) (widest-inner s.form s.source outer) h
  inner-kept schema d outer s R.NotTogether h = subst (AnyPair _) (widest-inner s.form s.source outer) h
  inner-kept schema d outer s R.NameClash h = subst (AnyPair _) (widest-inner s.form s.source outer) h
  inner-kept schema d outer s R.NotInScope h = any-expr IsOutOfScope (λ v x g. unseen v x g) outer s h
  inner-kept schema d outer s R.TypeMismatch (inl h) =
      inl (any-clause IsIllTypedClause IsIllTypedClause ill-clause outer s h)
  inner-kept schema d outer s R.TypeMismatch (inr h) = inr h
  inner-kept schema d outer s R.NeedsNullable h =
      any-clause (LacksNullable s) (LacksNullable s)
      (λ c g. (g.0, subst (AnyOf _) (bare-same t p c.expr) g.1)) outer s
      (subst (λ ls. AnyOf (LacksAmong ls) (clauses outer (inner_select s))) (leaves_of-inner s.source) h)
  inner-kept schema d outer s R.Grouping (inl h) =
      inl (any-expr (λ v. CountsAggregate) (λ v x g. counting x g) outer s h)
  inner-kept schema d outer s R.Grouping (inr (inl (inl h))) = inr (inl (inl (aggregate-inner s.where_by h)))
  inner-kept schema d outer s R.Grouping (inr (inl (inr h))) = inr (inl (inr (aggregate-inner s.group_by h)))
  inner-kept schema d outer s R.Grouping (inr (inr (inl (inl h)))) =
      inr (inr (inl (inl (sym (verdict-same t p s.group_by s.selection) ∙ h))))
  inner-kept schema d outer s R.Grouping (inr (inr (inl (inr h)))) =
      inr (inr (inl (inr (sym (distinct_verdict-same t p s.group_by s.distinctness) ∙ h))))
  inner-kept schema d outer s R.Grouping (inr (inr (inr (x, inl h)))) =
      inr (inr (inr (
        x,
        inl (sym (ap₂ mix (verdict-same t p s.group_by s.selection)
            (order_verdict-same t p s.group_by s.order)) ∙ h),
      )))
  inner-kept schema d outer s R.Grouping (inr (inr (inr (x, inr h)))) =
      inr (inr (inr (
        x,
        inr (sym (ap₂ mix (verdict-same t p s.group_by s.selection)
            (distinct_verdict-same t p s.group_by s.distinctness)) ∙ h),
      )))
  inner-kept schema d outer s R.InvalidDistinctOrder h = differs s.form s.distinctness s.order h
  inner-kept schema d outer s R.Unsupported (inl (n, inl h)) = inl (n, inl (distinct_on-is s.distinctness h))
  inner-kept schema d outer s R.Unsupported (inl (n, inr h)) = inl (n, inr (marked-from s.source h))
  inner-kept schema d outer s R.Unsupported (inr h) = inr h
  inner-kept schema d outer s R.TooManyBinds h = h
