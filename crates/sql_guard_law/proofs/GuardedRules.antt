-- A guarded statement breaks no rule that its statement does not break, but perhaps TooManyBinds.
use Rattle.std.proofs.Common.{◌≡◌, Bool, Option, List, [], ◌++◌, refl, sym, ap₂, subst, ◌∙◌, inl, inr}
use Rattle.sql_schema.specs.Declarations.{Declarations}
use Rattle.sql_schema.specs.declared.declaration.TableDecl.{TableDecl}
use Rattle.sql_dialect.specs.declared.backend.Dialect.{Dialect}
use Rattle.sql_dialect.specs.declared.combination.Combinator.{Combinator}
use Rattle.sql_dialect.specs.declared.combination.DuplicateRule.{DuplicateRule}
use Rattle.sql_leaf.specs.declared.limit_offset.LimitOffsetClause.{LimitOffsetClause}
use Rattle.sql_leaf.specs.declared.marks.Marks.{Marks}
use Rattle.sql_leaf.specs.declared.position.PositionalItem.{PositionalItem}
use Rattle.sql_leaf.specs.declared.table_source.JoinKind.TheVariants.{Inner, LeftOuter}
use Rattle.sql_node.specs.Tree.{Form, Expr, column, value, list, count_star, nullable, unary, count, compared, joined, exists, single, among_values, among_rows, Exprs, no_exprs, more_exprs, Items, no_items, more_items, MaybeExpr, no_expr, an_expr, Source, of_table, of_alias, join, From, no_source, from, Distinct, every, distinct, distinct_on, Order, no_order, order_by, Statement, select, combination}
use Rattle.sql_rules.specs.Lists.{AnyOf}
use Rattle.sql_rules.specs.Rules.{Broken, PartBreaks, SelectBreaks, CombinationBreaks}
use Rattle.sql_rules.specs.Scope.{View, Part, Select, Combination, parts, origins, origins_of, widest, in_expr, in_exprs, in_items, in_maybe, in_source, in_from, in_distinct, in_order}
use Rattle.sql_rules.specs.declared.rule.Rule.{Rule}
use Rattle.sql_rules.specs.declared.rule.Rule.TheVariants as R
use Rattle.sql_rows_meaning.proofs.Kept.{Clean, Clean-left, Clean-right}
use Rattle.sql_rows_meaning.proofs.Soundness.{the_select}
use Rattle.sql_guard_law.specs.Guarded.{guarded_expr, guarded_exprs, guarded_items, guarded_maybe, guarded_source, guarded_from, guarded_distinct, guarded_order, guarded}
use Rattle.sql_guard_law.specs.Restricted.{predicates, predicates_from, with_all}
use Rattle.sql_guard_law.specs.Tenant.{BreaksAtMostTooManyBinds, IsPredicate}
use Rattle.sql_guard_law.proofs.GuardedShapes.{origins-same, own-same, widest-same}
use Rattle.sql_guard_law.proofs.Inner.{inner_select, restricted_from-inner, predicates_from-inner, inner-kept}
use Rattle.sql_guard_law.proofs.InnerTypes.{columns-same}
use Rattle.sql_guard_law.proofs.Plain.{at_most-clean, predicate-fit}
use Rattle.sql_guard_law.proofs.RestrictedClauses.{neither, no_inside_added, guarded_select, open_from, predicates_from-aimed}
use Rattle.sql_guard_law.proofs.RestrictedRules.{select-kept}

module _ (schema : Declarations) (d : Dialect) (t : TableDecl) (p : Expr) (predicate : IsPredicate t p) where
  clean-append : (ps qs : List Part) → Clean schema d ps → Clean schema d qs → Clean schema d (ps ++ qs)
  clean-append ps qs h k r = neither (PartBreaks r schema d) ps qs (h r) (k r)

  -- no statement stands in predicates
  clean-added : (v : View) (f : From) (c : MaybeExpr) → Clean schema d (in_maybe v c)
      → Clean schema d (in_maybe v (with_all (predicates_from t p f) c))
  clean-added v f c h r =
      subst (λ ps. ¬ AnyOf (PartBreaks r schema d) (in_maybe v (with_all ps c)))
      (sym (predicates_from-aimed t p predicate.own f))
      (no_inside_added (PartBreaks r schema d) v p (predicate-fit t p predicate).test.0 (open_from t f) c (h r))

  combination-kept : (c : Combination) → ((r : Rule) → ¬ CombinationBreaks r d c) → (r : Rule)
      → ¬ CombinationBreaks r d (record c { left = guarded t p c.left; right = guarded t p c.right })
  combination-kept c h R.EmptyList i = h R.EmptyList i
  combination-kept c h R.TypeMismatch i =
      h R.TypeMismatch (λ e. i (columns-same t p c.left ∙ (e ∙ sym (columns-same t p c.right))))
  combination-kept c h R.Unsupported i = h R.Unsupported i
  combination-kept c h R.UnknownName i = i
  combination-kept c h R.Incompatible i = i
  combination-kept c h R.NoRelation i = i
  combination-kept c h R.Ambiguous i = i
  combination-kept c h R.NotTogether i = i
  combination-kept c h R.NameClash i = i
  combination-kept c h R.NotInScope i = i
  combination-kept c h R.NeedsNullable i = i
  combination-kept c h R.Grouping i = i
  combination-kept c h R.InvalidDistinctOrder i = i
  combination-kept c h R.TooManyBinds i = i

  -- the select statement itself: its expressions guarded, then the predicates of its own leaves
  abbrev whole_select : Select → Select
  whole_select s =
      record s {
        selection = guarded_expr t p s.selection;
        source = guarded_from t p s.source;
        distinctness = guarded_distinct t p s.distinctness;
        where_by = with_all (predicates_from t p s.source) (guarded_maybe t p s.where_by);
        order = guarded_order t p s.order;
        group_by = guarded_maybe t p s.group_by;
        having_by = guarded_maybe t p s.having_by;
      }

  in-two : (s : Select) → guarded_select t p (inner_select t p s) ≡ whole_select s
  in-two s = λ i.
      record {
        selection = guarded_expr t p s.selection;
        source = restricted_from-inner t p s.source i;
        distinctness = guarded_distinct t p s.distinctness;
        where_by = with_all (predicates_from-inner t p s.source i) (guarded_maybe t p s.where_by);
        order = guarded_order t p s.order;
        rows = s.rows;
        group_by = guarded_maybe t p s.group_by;
        having_by = guarded_maybe t p s.having_by;
        form = s.form;
        marks = s.marks;
      }

  whole-kept : (outer : View) (s : Select) → ((r : Rule) → ¬ SelectBreaks r schema d outer s) → (r : Rule)
      → ¬ SelectBreaks r schema d outer (whole_select s)
  whole-kept outer s h r =
      subst (λ x. ¬ SelectBreaks r schema d outer x) (in-two s)
      (select-kept schema d t p predicate outer (inner_select t p s) (λ q i. h q (inner-kept t p schema d outer s q i)) r)

  -- the parts of a guarded select statement, from what is known of each
  whole-clean : (outer : View) (default : Bool) (e : Expr) (f : From) (u : Distinct) (w : MaybeExpr) (o : Order)
      (rows : LimitOffsetClause) (g h : MaybeExpr) (form : Form) (marks : Marks)
      → ((r : Rule) → ¬ SelectBreaks r schema d outer (the_select e f u w o rows g h form marks))
      → Clean schema d (in_distinct (origins_of f) (guarded_distinct t p u))
      → Clean schema d (in_expr (origins_of f) (guarded_expr t p e)) → Clean schema d (in_from (guarded_from t p f))
      → Clean schema d (in_maybe (widest form f outer) (with_all (predicates_from t p f) (guarded_maybe t p w)))
      → Clean schema d (in_maybe (origins_of f) (guarded_maybe t p g))
      → Clean schema d (in_maybe (origins_of f) (guarded_maybe t p h))
      → Clean schema d (in_order (origins_of f) (guarded_order t p o))
      → Clean schema d (parts outer (guarded t p (select default e f u w o rows g h form marks)))
  whole-clean outer default e f u w o rows g h form marks head cu ce cf cw cg ch co r (inl i) =
      whole-kept outer (the_select e f u w o rows g h form marks) head r i
  whole-clean outer default e f u w o rows g h form marks head cu ce cf cw cg ch co r (inr i) =
      inside (sym (own-same t p f)) (sym (widest-same t p form f outer)) r i
    where
      inside : {v x : View} → origins_of f ≡ v → widest form f outer ≡ x
          → Clean schema d
          (in_distinct v (guarded_distinct t p u) ++ (in_expr v (guarded_expr t p e) ++ (in_from (guarded_from t p f)
          ++ (in_maybe x (with_all (predicates_from t p f) (guarded_maybe t p w))
          ++ (in_maybe v (guarded_maybe t p g) ++ (in_maybe v (guarded_maybe t p h)
          ++ in_order v (guarded_order t p o)))))))
      inside {v} {x} q y =
          clean-append (in_distinct v (guarded_distinct t p u)) _
          (subst (λ z. Clean schema d (in_distinct z (guarded_distinct t p u))) q cu)
          (clean-append (in_expr v (guarded_expr t p e)) _
          (subst (λ z. Clean schema d (in_expr z (guarded_expr t p e))) q ce)
          (clean-append (in_from (guarded_from t p f)) _ cf
          (clean-append (in_maybe x (with_all (predicates_from t p f) (guarded_maybe t p w))) _
          (subst (λ z. Clean schema d (in_maybe z (with_all (predicates_from t p f) (guarded_maybe t p w)))) y cw)
          (clean-append (in_maybe v (guarded_maybe t p g)) _
          (subst (λ z. Clean schema d (in_maybe z (guarded_maybe t p g))) q cg)
          (clean-append (in_maybe v (guarded_maybe t p h)) (in_order v (guarded_order t p o))
          (subst (λ z. Clean schema d (in_maybe z (guarded_maybe t p h))) q ch)
          (subst (λ z. Clean schema d (in_order z (guarded_order t p o))) q co))))))

  whole-combination : (outer : View) (by : Combinator) (all : DuplicateRule) (a b : Statement)
      (o : Option (List PositionalItem)) (rows : LimitOffsetClause)
      → ((r : Rule) → ¬ CombinationBreaks r d
      (record { combinator = by; duplicates = all; left = a; right = b; order = o; rows = rows }))
      → Clean schema d (parts outer (guarded t p a)) → Clean schema d (parts outer (guarded t p b))
      → Clean schema d (parts outer (guarded t p (combination by all a b o rows)))
  whole-combination outer by all a b o rows head ca cb r (inl i) =
      combination-kept
      (record { combinator = by; duplicates = all; left = a; right = b; order = o; rows = rows }) head r i
  whole-combination outer by all a b o rows head ca cb r (inr i) =
      clean-append (parts outer (guarded t p a)) (parts outer (guarded t p b)) ca cb r i

  mutual
    clean-expr : (v : View) (e : Expr) → Clean schema d (in_expr v e) → Clean schema d (in_expr v (guarded_expr t p e))
    clean-expr v (column o c) h = h
    clean-expr v (value ty x) h = h
    clean-expr v (list es) h = clean-exprs v es h
    clean-expr v count_star h = h
    clean-expr v (nullable e) h = clean-expr v e h
    clean-expr v (unary u e) h = clean-expr v e h
    clean-expr v (count e) h = clean-expr v e h
    clean-expr v (compared by a b) h =
        clean-append (in_expr v (guarded_expr t p a)) (in_expr v (guarded_expr t p b))
        (clean-expr v a (Clean-left schema d (in_expr v a) (in_expr v b) h))
        (clean-expr v b (Clean-right schema d (in_expr v a) (in_expr v b) h))
    clean-expr v (joined by a b) h =
        clean-append (in_expr v (guarded_expr t p a)) (in_expr v (guarded_expr t p b))
        (clean-expr v a (Clean-left schema d (in_expr v a) (in_expr v b) h))
        (clean-expr v b (Clean-right schema d (in_expr v a) (in_expr v b) h))
    clean-expr v (exists q) h = clean-statement v q h
    clean-expr v (single q) h = clean-statement v q h
    clean-expr v (among_values n e ty xs) h = clean-expr v e h
    clean-expr v (among_rows n e q) h =
        clean-append (in_expr v (guarded_expr t p e)) (parts v (guarded t p q))
        (clean-expr v e (Clean-left schema d (in_expr v e) (parts v q) h))
        (clean-statement v q (Clean-right schema d (in_expr v e) (parts v q) h))

    clean-exprs : (v : View) (es : Exprs) → Clean schema d (in_exprs v es)
        → Clean schema d (in_exprs v (guarded_exprs t p es))
    clean-exprs v no_exprs h = h
    clean-exprs v (more_exprs e es) h =
        clean-append (in_expr v (guarded_expr t p e)) (in_exprs v (guarded_exprs t p es))
        (clean-expr v e (Clean-left schema d (in_expr v e) (in_exprs v es) h))
        (clean-exprs v es (Clean-right schema d (in_expr v e) (in_exprs v es) h))

    clean-items : (v : View) (is : Items) → Clean schema d (in_items v is)
        → Clean schema d (in_items v (guarded_items t p is))
    clean-items v no_items h = h
    clean-items v (more_items e by is) h =
        clean-append (in_expr v (guarded_expr t p e)) (in_items v (guarded_items t p is))
        (clean-expr v e (Clean-left schema d (in_expr v e) (in_items v is) h))
        (clean-items v is (Clean-right schema d (in_expr v e) (in_items v is) h))

    clean-maybe : (v : View) (c : MaybeExpr) → Clean schema d (in_maybe v c)
        → Clean schema d (in_maybe v (guarded_maybe t p c))
    clean-maybe v no_expr h = h
    clean-maybe v (an_expr e) h = clean-expr v e h

    clean-source : (s : Source) → Clean schema d (in_source s) → Clean schema d (in_source (guarded_source t p s))
    clean-source (of_table u only sample) h = h
    clean-source (of_alias a u) h = h
    clean-source (join Inner l r on) h =
        let v = origins l ++ origins r in
        let h1 : Clean schema d (in_source r ++ in_maybe v on) = Clean-right schema d (in_source l)
        (in_source r ++ in_maybe v on) h in
        clean-append (in_source (guarded_source t p l)) _
        (clean-source l (Clean-left schema d (in_source l) (in_source r ++ in_maybe v on) h))
        (clean-append (in_source (guarded_source t p r)) _
        (clean-source r (Clean-left schema d (in_source r) (in_maybe v on) h1))
        (subst (λ w. Clean schema d (in_maybe w (guarded_maybe t p on)))
        (sym (ap₂ ◌++◌ (origins-same t p l) (origins-same t p r)))
        (clean-maybe v on (Clean-right schema d (in_source r) (in_maybe v on) h1))))
    clean-source (join LeftOuter l r on) h =
        let v = origins l ++ origins r in
        let h1 : Clean schema d (in_source r ++ in_maybe v on) = Clean-right schema d (in_source l)
        (in_source r ++ in_maybe v on) h in
        clean-append (in_source (guarded_source t p l)) _
        (clean-source l (Clean-left schema d (in_source l) (in_source r ++ in_maybe v on) h))
        (clean-append (in_source (guarded_source t p r)) _
        (clean-source r (Clean-left schema d (in_source r) (in_maybe v on) h1))
        (subst (λ w. Clean schema d (in_maybe w (with_all (predicates t p r) (guarded_maybe t p on))))
        (sym (ap₂ ◌++◌ (origins-same t p l) (origins-same t p r)))
        (clean-added v (from r) (guarded_maybe t p on)
        (clean-maybe v on (Clean-right schema d (in_source r) (in_maybe v on) h1)))))

    clean-from : (f : From) → Clean schema d (in_from f) → Clean schema d (in_from (guarded_from t p f))
    clean-from no_source h = h
    clean-from (from s) h = clean-source s h

    clean-distinct : (v : View) (u : Distinct) → Clean schema d (in_distinct v u)
        → Clean schema d (in_distinct v (guarded_distinct t p u))
    clean-distinct v every h = h
    clean-distinct v distinct h = h
    clean-distinct v (distinct_on e) h = clean-expr v e h

    clean-order : (v : View) (o : Order) → Clean schema d (in_order v o)
        → Clean schema d (in_order v (guarded_order t p o))
    clean-order v no_order h = h
    clean-order v (order_by is) h = clean-items v is h

    pub clean-statement : (outer : View) (s : Statement) → Clean schema d (parts outer s)
        → Clean schema d (parts outer (guarded t p s))
    clean-statement outer (select default e f u w o rows g h form marks) c =
        let own = origins_of f in
        let wide = widest form f outer in
        let c0 : Clean schema d
        (in_distinct own u ++ (in_expr own e ++ (in_from f ++ (in_maybe wide w ++ (in_maybe own g ++ (in_maybe own h
        ++ in_order own o)))))) = λ r i. c r (inr i) in
        let c1 = Clean-right schema d (in_distinct own u) _ c0 in
        let c2 = Clean-right schema d (in_expr own e) _ c1 in
        let c3 = Clean-right schema d (in_from f) _ c2 in
        let c4 = Clean-right schema d (in_maybe wide w) _ c3 in
        let c5 = Clean-right schema d (in_maybe own g) _ c4 in
        whole-clean outer default e f u w o rows g h form marks (λ r i. c r (inl i))
        (clean-distinct own u (Clean-left schema d (in_distinct own u) _ c0))
        (clean-expr own e (Clean-left schema d (in_expr own e) _ c1))
        (clean-from f (Clean-left schema d (in_from f) _ c2))
        (clean-added wide f (guarded_maybe t p w)
        (clean-maybe wide w (Clean-left schema d (in_maybe wide w) _ c3)))
        (clean-maybe own g (Clean-left schema d (in_maybe own g) _ c4))
        (clean-maybe own h (Clean-left schema d (in_maybe own h) (in_order own o) c5))
        (clean-order own o (Clean-right schema d (in_maybe own h) (in_order own o) c5))
    clean-statement outer (combination by all a b o rows) c =
        let inside : Clean schema d (parts outer a ++ parts outer b) = λ r i. c r (inr i) in
        whole-combination outer by all a b o rows (λ r i. c r (inl i))
        (clean-statement outer a (Clean-left schema d (parts outer a) (parts outer b) inside))
        (clean-statement outer b (Clean-right schema d (parts outer a) (parts outer b) inside))

pub unbroken : (schema : Declarations) (d : Dialect) (s : Statement) → Clean schema d (parts [] s) → (r : Rule)
    → ¬ (r ≡ R.TooManyBinds) → ¬ Broken r schema d s
unbroken schema d s h R.TooManyBinds n = absurd (n refl)
unbroken schema d s h R.UnknownName n = h R.UnknownName
unbroken schema d s h R.Incompatible n = h R.Incompatible
unbroken schema d s h R.EmptyList n = h R.EmptyList
unbroken schema d s h R.NoRelation n = h R.NoRelation
unbroken schema d s h R.Ambiguous n = h R.Ambiguous
unbroken schema d s h R.NotTogether n = h R.NotTogether
unbroken schema d s h R.NameClash n = h R.NameClash
unbroken schema d s h R.NotInScope n = h R.NotInScope
unbroken schema d s h R.TypeMismatch n = h R.TypeMismatch
unbroken schema d s h R.NeedsNullable n = h R.NeedsNullable
unbroken schema d s h R.Grouping n = h R.Grouping
unbroken schema d s h R.InvalidDistinctOrder n = h R.InvalidDistinctOrder
unbroken schema d s h R.Unsupported n = h R.Unsupported

pub guard-kept : (schema : Declarations) (d : Dialect) (s : Statement) (t : TableDecl) (p : Expr)
    → BreaksAtMostTooManyBinds schema d s → IsPredicate t p → BreaksAtMostTooManyBinds schema d (guarded t p s)
guard-kept schema d s t p h predicate =
    unbroken schema d (guarded t p s) (clean-statement schema d t p predicate [] s (at_most-clean schema d s h))
