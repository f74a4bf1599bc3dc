-- With DISTINCT ON and an order the first line of each key is left: the values of each item of the order are of one type, or NULL.
use Rattle.std.proofs.Common.{◌≡◌, Bool, true, false, ◌||◌, List, [], ◌∷◌, ◌++◌, map, refl, sym, ◌∙◌, inl, inr, IsPermutation}
use Rattle.std.specs.List.{AllZip}
use Rattle.std.proofs.lemmas.Bool.{false≢true}
use Rattle.std.proofs.lemmas.List.Sorted.{IsPermutation-refl, IsPermutation-trans, IsPermutation-cons, IsPermutation-middle, IsPermutation-append_left}
use Rattle.sql_schema.specs.Declarations.{Declarations}
use Rattle.sql_schema.specs.declared.types.SqlType.{SqlType}
use Rattle.sql_dialect.specs.declared.backend.Dialect.{Dialect}
use Rattle.sql_node.specs.Tree.{Expr, Items, no_items, more_items, MaybeExpr, From, every, distinct, distinct_on, Order, no_order, order_by, Form, Statement, select, combination}
use Rattle.sql_leaf.specs.declared.limit_offset.LimitOffsetClause.{LimitOffsetClause}
use Rattle.sql_leaf.specs.declared.marks.Marks.{Marks}
use Rattle.sql_leaf.specs.declared.position.Direction.{Direction}
use Rattle.sql_origin.specs.Leaves.{Leaf}
use Rattle.sql_rules.specs.Lists.{AnyOf, Each}
use Rattle.sql_rules.specs.Rules.{Accepted, IsUnknownColumn, IsOutOfScope, IsIllTypedClause}
use Rattle.sql_rules.specs.Scope.{View, Clause, Select, clauses, own, nodes, ons_of, in_where, in_group_by, in_having, widest, maybe_clause, distinct_clause, item_clauses, order_clauses, parts, in_expr, in_items, in_order, in_from, in_maybe, in_distinct, origins_of, leaves_of}
use Rattle.sql_rules.specs.Types.{given}
use Rattle.sql_rules.specs.declared.rule.Rule.TheVariants as R
use Rattle.sql_rules.proofs.Lists.{any_right}
use Rattle.sql_rows_meaning.specs.Answers.{Line, Answers, Gives, KeyGives, ItemsGive, OrderGives, directions, first_of_each, may_skip}
use Rattle.sql_rows_meaning.specs.DistinctOn.{Decides, ShowsFirst, FirstIsShown}
use Rattle.sql_rows_meaning.specs.Fitting.{RowFits, Conforms}
use Rattle.sql_rows_meaning.specs.Frames.{Database, Frame}
use Rattle.sql_rows_meaning.specs.Groups.{Group, counts}
use Rattle.sql_rows_meaning.specs.Rows.{Row, NullPlaces, IsOrdered, same_row, row_before}
use Rattle.sql_rows_meaning.specs.Worked.{IsOneOfEach, IsFirst}
use Rattle.sql_rows_meaning.proofs.Facts.{nulled, Fit-nullable}
use Rattle.sql_rows_meaning.proofs.Typed.{only-typed}
use Rattle.sql_rows_meaning.proofs.Lists.{Each-permutation, AllZip-each, Filtered-each, IsPart-each}
use Rattle.sql_rows_meaning.proofs.Sources.{FrameFits, from-fits}
use Rattle.sql_rows_meaning.proofs.Kept.{NodeFits, nodes-fit, inside, accepted-clean, is-kept}
use Rattle.sql_rows_meaning.proofs.TypedClauses.{AreTypedItems, IsTypedOrder, items-typed}
use Rattle.sql_rows_meaning.proofs.Soundness.{IsFine, fine-left, fine-right, IsGood, groups-good, gives-fit, the_select}
use Rattle.sql_rows_meaning.proofs.OneOfEach.{first-any}
use Rattle.sql_rows_meaning.proofs.FirstLeft.{first-left}

-- ---- two lines, of those that are left and of the rest

over-left : (R Q : Line → Type 0) (lines : List Line) (l : Line) (passed cs ls : List Line)
    → IsPermutation lines (l ∷ ((passed ++ cs) ++ ls)) → Each R cs
    → ((c : Line) (others : List Line) → R c → IsPermutation lines (c ∷ (l ∷ others)) → Q c) → Each Q cs
over-left R Q lines l passed [] ls p h f = tt
over-left R Q lines l passed (c ∷ cs) ls p h f = (
  f c ((passed ++ cs) ++ ls) h.0
      (IsPermutation-trans lines (l ∷ (c ∷ ((passed ++ cs) ++ ls))) (c ∷ (l ∷ ((passed ++ cs) ++ ls))) first
      (IsPermutation-middle (l ∷ []) c ((passed ++ cs) ++ ls))),
  over-left R Q lines l (c ∷ passed) cs ls first h.1 f,
)
  where
    first : IsPermutation lines (l ∷ (c ∷ ((passed ++ cs) ++ ls)))
    first =
        IsPermutation-trans lines (l ∷ ((passed ++ (c ∷ cs)) ++ ls)) (l ∷ (c ∷ ((passed ++ cs) ++ ls))) p
        (IsPermutation-cons l ((passed ++ (c ∷ cs)) ++ ls) (c ∷ ((passed ++ cs) ++ ls))
        (IsPermutation-append_left ls (passed ++ (c ∷ cs)) (c ∷ (passed ++ cs)) (IsPermutation-middle passed c cs)))

over-rest : (R : Line → Type 0) (P : Line → Line → Type 0) (lines passed left rest : List Line)
    → IsPermutation lines ((passed ++ left) ++ rest) → Each R left
    → ((c l : Line) (others : List Line) → R c → IsPermutation lines (c ∷ (l ∷ others)) → P c l)
    → Each (λ l. Each (λ c. P c l) left) rest
over-rest R P lines passed left [] p h f = tt
over-rest R P lines passed left (l ∷ ls) p h f = (
  over-left R (λ c. P c l) lines l passed left ls first h (λ c others. f c l others),
  over-rest R P lines (l ∷ passed) left ls first h f,
)
  where
    first : IsPermutation lines (l ∷ ((passed ++ left) ++ ls))
    first =
        IsPermutation-trans lines ((passed ++ left) ++ (l ∷ ls)) (l ∷ ((passed ++ left) ++ ls)) p
        (IsPermutation-middle (passed ++ left) l ls)

one-of : (a b : Bool) → (a || b) ≡ true → b ≡ false → a ≡ true
one-of true b h n = refl
one-of false b h n = absurd (false≢true (sym n ∙ h))

decided : (places : NullPlaces) (items : List Direction) (lines left : List Line)
    (one : IsOneOfEach (λ line. line.key) lines left) → Each (IsFirst places items lines) left
    → Decides places items lines
    → Each (λ line. Each (λ c. same_row c.key line.key ≡ true → row_before places items c.order line.order ≡ true) left)
    one.rest
decided places items lines left one first decides =
    over-rest (IsFirst places items lines)
    (λ c l. same_row c.key l.key ≡ true → row_before places items c.order l.order ≡ true) lines [] left one.rest one.order
    first
    (λ c l others is_first p same. one-of (row_before places items c.order l.order) (row_before places items l.order c.order)
    (decides c l others p same)
    ((Each-permutation (λ m. same_row c.key m.key ≡ true → row_before places items m.order c.order ≡ false) lines
    (c ∷ (l ∷ others)) p is_first).1.0 same))

-- ---- the items of the order

order-free : (P : Clause → Type 0) (outer : View) (s : Select) → ¬ AnyOf P (clauses outer s)
    → ¬ AnyOf P (order_clauses (own s) s.order)
order-free P outer s h i =
    h (any_right P (distinct_clause (own s) s.distinctness) _ (inr (any_right P (ons_of s.source) _
    (any_right P (maybe_clause in_where (widest s.form s.source outer) s.where_by) _
    (any_right P (maybe_clause in_group_by (own s) s.group_by) _
    (any_right P (maybe_clause in_having (own s) s.having_by) _ i))))))

abbrev ItemsFit : View → Items → Type 0
ItemsFit v no_items = Unit {0}
ItemsFit v (more_items e by is) = Each (NodeFits v) (nodes e) × ItemsFit v is

abbrev OrderFits : View → Order → Type 0
OrderFits v no_order = Unit {0}
OrderFits v (order_by is) = ItemsFit v is

items-kept : (schema : Declarations) (v : View) (is : Items)
    → ¬ AnyOf (λ c. AnyOf (IsUnknownColumn schema) (nodes c.expr)) (item_clauses v is)
    → ¬ AnyOf (λ c. AnyOf (IsOutOfScope c.view) (nodes c.expr)) (item_clauses v is)
    → ¬ AnyOf IsIllTypedClause (item_clauses v is) → ItemsFit v is
items-kept schema v no_items known seen typed = tt
items-kept schema v (more_items e by is) known seen typed = (
  nodes-fit schema v (nodes e) (λ i. known (inl i)) (λ i. seen (inl i)) (λ i. typed (inl (inl (inl (inside e i))))),
  items-kept schema v is (λ i. known (inr i)) (λ i. seen (inr i)) (λ i. typed (inr i)),
)

order-kept : (schema : Declarations) (v : View) (o : Order)
    → ¬ AnyOf (λ c. AnyOf (IsUnknownColumn schema) (nodes c.expr)) (order_clauses v o)
    → ¬ AnyOf (λ c. AnyOf (IsOutOfScope c.view) (nodes c.expr)) (order_clauses v o)
    → ¬ AnyOf IsIllTypedClause (order_clauses v o) → OrderFits v o × IsTypedOrder o
order-kept schema v no_order known seen typed = (tt, tt)
order-kept schema v (order_by is) known seen typed =
    (items-kept schema v is known seen typed, items-typed v is typed)

-- the types of the items, NULL being allowed
abbrev item_types : (is : Items) → AreTypedItems is → List SqlType
item_types no_items t = []
item_types (more_items e by is) t = nulled t.0.0 ∷ item_types is t.1

abbrev order_types : (o : Order) → IsTypedOrder o → List SqlType
order_types no_order t = []
order_types (order_by is) t = item_types is t

module _ (places : NullPlaces) (schema : Declarations) (d : Dialect) (db : Database) (ok : Conforms schema db) where
  items-fit : (is : Items) (ls : List Leaf) (group : Group) (t : AreTypedItems is) (vs : Row)
      → ItemsFit (map (λ l. l.origin) ls) is → IsFine schema d (in_items (map (λ l. l.origin) ls) is)
      → Each (FrameFits ls) group → ItemsGive places is db group vs → RowFits (item_types is t) vs
  items-fit no_items ls group t vs n p fits g = rw g tt
  items-fit (more_items e by is) ls group t vs n p fits g =
      rw g.4 (
        Fit-nullable t.0.0 g.0
            (gives-fit places schema d db ok e ls group (t.0.0 ∷ []) (g.0 ∷ []) n.0
            (fine-left schema d (in_expr (map (λ l. l.origin) ls) e) (in_items (map (λ l. l.origin) ls) is) p) fits
            (only-typed (given e) t.0.0 t.0.1) g.2).0,
        items-fit is ls group t.1 g.1 n.1
            (fine-right schema d (in_expr (map (λ l. l.origin) ls) e) (in_items (map (λ l. l.origin) ls) is) p) fits
            g.3,
      )

  order-fits : (o : Order) (ls : List Leaf) (group : Group) (t : IsTypedOrder o) (vs : Row)
      → OrderFits (map (λ l. l.origin) ls) o → IsFine schema d (in_order (map (λ l. l.origin) ls) o)
      → Each (FrameFits ls) group → OrderGives places o db group vs → RowFits (order_types o t) vs
  order-fits no_order ls group t vs n p fits g = rw g tt
  order-fits (order_by is) ls group t vs n p fits g = items-fit is ls group t vs n p fits g

  select-first : (default : Bool) (e : Expr) (f : From) (k : Expr) (w : MaybeExpr) (o : Order) (rows : LimitOffsetClause)
      (g h : MaybeExpr) (form : Form) (marks : Marks) (frame : Frame) (answer : List Row)
      → IsFine schema d (parts [] (select default e f (distinct_on k) w o rows g h form marks))
      → Answers places (select default e f (distinct_on k) w o rows g h form marks) db frame answer
      → ShowsFirst places (select default e f (distinct_on k) w o rows g h form marks) db frame answer
  select-first default e f k w o rows g h form marks frame answer p a = (
    a.5,
    first_of_each (λ line. line.key) [] a.5,
    (a.0, a.1, a.2, a.3, a.4, a.6, a.7, a.8, a.9, a.10, a.11),
    record {
      one_of_each = one;
      first = left.1;
      ordered = left.0;
      decided = decided places (directions o) a.5 (first_of_each (λ line. line.key) [] a.5) one left.1;
    },
    a.13,
  )
    where
      s : Select
      s = the_select e f (distinct_on k) w o rows g h form marks

      items : OrderFits (origins_of f) o × IsTypedOrder o
      items =
          order-kept schema (origins_of f) o
          (order-free (λ c. AnyOf (IsUnknownColumn schema) (nodes c.expr)) [] s (λ i. p.0 R.UnknownName (inl (inr i))))
          (order-free (λ c. AnyOf (IsOutOfScope c.view) (nodes c.expr)) [] s (λ i. p.0 R.NotInScope (inl i)))
          (order-free IsIllTypedClause [] s (λ i. p.0 R.TypeMismatch (inl (inl i))))

      fine : IsFine schema d (in_order (origins_of f) o)
      fine =
          fine-right schema d (in_maybe (origins_of f) h) (in_order (origins_of f) o)
          (fine-right schema d (in_maybe (origins_of f) g) _
          (fine-right schema d (in_maybe (widest form f []) w) _
          (fine-right schema d (in_from f) _
          (fine-right schema d (in_expr (origins_of f) e) _
          (fine-right schema d (in_distinct (origins_of f) (distinct_on k)) _ (λ r i. p.0 r (inr i), λ i. p.1 (inr i)))))))

      taken_fit : Each (FrameFits (leaves_of f)) a.2
      taken_fit =
          IsPart-each (FrameFits (leaves_of f)) (may_skip form) a.1 a.2 a.8
          (Filtered-each (FrameFits (leaves_of f)) a.7
          (from-fits places schema db ok f a.0 (is-kept schema d [] s (λ r i. p.0 r (inl i))).declared a.6))

      kept_fit : Each (IsGood (FrameFits (leaves_of f)) (Unit {0})) a.4
      kept_fit =
          Filtered-each (IsGood (FrameFits (leaves_of f)) (Unit {0})) a.10
          (groups-good places db (FrameFits (leaves_of f)) (Unit {0}) g (counts e (distinct_on k) o) a.2 a.3
          (λ absent counted. tt) a.9 taken_fit)

      lines_fit : Each (λ line. RowFits (order_types o items.1) line.order) a.5
      lines_fit =
          AllZip-each (λ group line. Gives places e db group line.shown × KeyGives places (distinct_on k) db group line.key
          × OrderGives places o db group line.order)
          (IsGood (FrameFits (leaves_of f)) (Unit {0})) (λ line. RowFits (order_types o items.1) line.order)
          (λ group line gives good. order-fits o (leaves_of f) group items.1 line.order items.0 fine good.0 gives.2)
          a.4 a.5 a.11 kept_fit

      left : IsOrdered places (directions o) (map (λ line. line.order) (first_of_each (λ line. line.key) [] a.5))
          × Each (IsFirst places (directions o) a.5) (first_of_each (λ line. line.key) [] a.5)
      left = first-left places (directions o) (order_types o items.1) a.5 lines_fit a.12

      one : IsOneOfEach (λ line. line.key) a.5 (first_of_each (λ line. line.key) [] a.5)
      one =
          (first-any (λ line. line.key) a.5 (first_of_each (λ line. line.key) [] a.5)).1
          (a.5, IsPermutation-refl a.5, refl)

  shows-first : (s : Statement) (frame : Frame) (answer : List Row) → IsFine schema d (parts [] s)
      → Answers places s db frame answer → ShowsFirst places s db frame answer
  shows-first (select default e f (distinct_on k) w o rows g h form marks) frame answer p a =
      select-first default e f k w o rows g h form marks frame answer p a
  shows-first (select default e f every w o rows g h form marks) frame answer p a = tt
  shows-first (select default e f distinct w o rows g h form marks) frame answer p a = tt
  shows-first (combination by all x y o rows) frame answer p a = tt

pub first-shown : (schema : Declarations) (d : Dialect) (s : Statement) → Accepted schema d s → FirstIsShown schema s
first-shown schema d s h uncounted places db ok frame answer a =
    shows-first places schema d db ok s frame answer (accepted-clean schema d s h, uncounted) a
