-- The step: an expression over its statement's own leaves gives NULL only where its type is nullable, or where a column
-- stands in it, outside subselects, under no nullable, whose row may be missing, or the group has no row.
use Rattle.std.proofs.Common.{◌≡◌, ℕ, pos, length, Bool, false, true, ◌⊎◌, if◌then◌else◌, List, [], ◌∷◌, ◌++◌, map, Option, Some, None, refl, sym, ap, ◌∙◌, inl, inr, subst, not}
use Rattle.std.specs.Cmp.Lexicographic.{pointwise}
use Rattle.std.specs.Option.{option_eq}
use Rattle.sql_schema.specs.Equality.{same_type}
use Rattle.sql_schema.specs.Declarations.{Declarations}
use Rattle.sql_schema.specs.declared.declaration.ColumnDecl.{ColumnDecl}
use Rattle.sql_schema.specs.declared.types.Base.TheVariants as base
use Rattle.sql_schema.specs.declared.types.SqlType.{SqlType}
use Rattle.sql_schema.proofs.Exact.{exact-list, exact-option}
use Rattle.sql_schema.proofs.ExactTypes.{exact-type}
use Rattle.sql_dialect.specs.declared.backend.Dialect.{Dialect}
use Rattle.sql_leaf.specs.declared.limit_offset.LimitOffsetClause.{LimitOffsetClause}
use Rattle.sql_leaf.specs.declared.marks.Marks.{Marks}
use Rattle.sql_pass.specs.declared.value.Value.{Value}
use Rattle.sql_pass.specs.declared.value.Value.TheVariants as V
use Rattle.sql_node.specs.Tree.{Origin, Form, Expr, column, value, list, count_star, nullable, unary, count, compared, joined, exists, single, among_values, among_rows, Exprs, no_exprs, more_exprs, MaybeExpr, no_expr, an_expr, From, Distinct, Order, Statement, select, combination}
use Rattle.sql_origin.specs.Leaves.{Leaf}
use Rattle.sql_rules.specs.Lists.{AnyOf, Each}
use Rattle.sql_rules.specs.Rules.{Accepted, IsColumn, IsSeen, Present, bare, bare_of}
use Rattle.sql_rules.specs.Scope.{View, Part, Select, parts, in_expr, in_exprs, in_distinct, in_maybe, in_from, in_order, nodes, nodes_of, leaves_of, origins_of, widest}
use Rattle.sql_rules.specs.Types.{given, given_each, element_types, only_type, columns, compared_type, joined_type, unary_type, among_type, as_nullable, single_type, bool_type, big_type, if_typed}
use Rattle.sql_rules.specs.declared.rule.Rule.TheVariants as R
use Rattle.sql_rules.proofs.Lists.{any_left, any_right}
use Rattle.sql_rules.proofs.SameTypes.{types-differ}
use Rattle.sql_rows_meaning.specs.Answers.{Gives, AllGive, Answers, GroupedBy, KeyGives, OrderGives, has_row, may_skip, single_value, first_value}
use Rattle.sql_rows_meaning.specs.Fitting.{RowFits, Conforms, CountsBeside, AnswersFit}
use Rattle.sql_rows_meaning.specs.Frames.{Database, Frame, value_of}
use Rattle.sql_rows_meaning.specs.Groups.{Group, Keyed, alone, one_row, with_row, keyed_groups, not_nulls, counts}
use Rattle.sql_rows_meaning.specs.Rows.{Row, NullPlaces, same_row}
use Rattle.sql_rows_meaning.specs.Values.{compared_value, joined_value, unary_value, among_value}
use Rattle.sql_rows_meaning.proofs.Facts.{Fit, Fit-weaken, Fits, truth}
use Rattle.sql_rows_meaning.proofs.Typed.{some_same, only-typed}
use Rattle.sql_rows_meaning.proofs.Lists.{Each-front, Each-end, Each-map, AllZip-each, Filtered-each, IsPart-each, Each-permutation, left_by-each, page-each}
use Rattle.sql_rows_meaning.proofs.Counts.{combination-each}
use Rattle.sql_rows_meaning.proofs.Sources.{FrameFits, IsMissing, from-fits, column-fits, value_in-null}
use Rattle.sql_rows_meaning.proofs.Counting.{IsLoose, AreLoose, counted-tight}
use Rattle.sql_rows_meaning.proofs.Kept.{Clean, Clean-left, Clean-right, accepted-clean, NodeFits, IsKept, is-kept}
use Rattle.sql_rows_meaning.proofs.Cases.{AllFit, one-step, compared-step, joined-step, unary-step, among_values-step, among_rows-step, single-step, nullable-step, no_exprs-step, more_exprs-step, all-weaken, no_cause-fits, form-fits}

-- a column in it whose row may be missing stands under no nullable
abbrev pub IsBare : List Leaf → View → Type 0
IsBare ls os = AnyOf (IsMissing ls) os

-- or the group has no row
abbrev pub Cause : List Leaf → Group → View → Type 0 → Type 0
Cause ls rows os Loose = IsBare ls os ⊎ (rows ≡ []) × Loose

cause_left : (ls : List Leaf) (rows : Group) (os ps : View) (A B : Type 0) → Cause ls rows os A
    → Cause ls rows (os ++ ps) (A ⊎ B)
cause_left ls rows os ps A B (inl h) = inl (any_left (IsMissing ls) os ps h)
cause_left ls rows os ps A B (inr h) = inr (h.0, inl h.1)

cause_right : (ls : List Leaf) (rows : Group) (os ps : View) (A B : Type 0) → Cause ls rows ps B
    → Cause ls rows (os ++ ps) (A ⊎ B)
cause_right ls rows os ps A B (inl h) = inl (any_right (IsMissing ls) os ps h)
cause_right ls rows os ps A B (inr h) = inr (h.0, inr h.1)

-- a column of a group with a row fits as that of the row does
group_column-fits : (o : Origin) (c : ColumnDecl) → IsColumn o.table c → (ls : List Leaf) (rows : Group)
    → Each (FrameFits ls) rows → IsSeen (map (λ l. l.origin) ls) o
    → Fit (Cause ls rows (o ∷ []) (Unit {0})) c.ty (value_of o c (one_row rows))
group_column-fits o c e ls [] h seen = inr (value_in-null c o.table.columns [] tt, inr (refl, tt))
group_column-fits o c e ls (row ∷ rows) h seen =
    Fit-weaken c.ty (value_of o c row) (λ i. inl (inl i)) (column-fits o c e ls row h.0 seen)

abbrev big : SqlType
big = record { base = base.BigInt; nullable = false }

-- COUNT gives a number
counted-fits : (o : Option SqlType) (n : ℕ) (t : SqlType) → if_typed o big_type ≡ Some t → Fits t (V.BigInt (pos n))
counted-fits None n t e = absurd cc
counted-fits (Some u) n t e = subst (λ w. Fits w (V.BigInt (pos n))) (some_same big t e) refl

-- ---- statements that keep the rules, and of which none counts beside what it selects

abbrev pub IsFine : Declarations → Dialect → List Part → Type 0
IsFine schema d ps = Clean schema d ps × ¬ AnyOf CountsBeside ps

pub fine-left : (schema : Declarations) (d : Dialect) (ps qs : List Part) → IsFine schema d (ps ++ qs) → IsFine schema d ps
fine-left schema d ps qs h = (Clean-left schema d ps qs h.0, λ i. h.1 (any_left CountsBeside ps qs i))

pub fine-right : (schema : Declarations) (d : Dialect) (ps qs : List Part) → IsFine schema d (ps ++ qs)
    → IsFine schema d qs
fine-right schema d ps qs h = (Clean-right schema d ps qs h.0, λ i. h.1 (any_right CountsBeside ps qs i))

-- ---- groups

-- what is known of a group: what holds of its rows, and that it has one, or else something else
abbrev pub IsGood : (Frame → Type 0) → Type 0 → Group → Type 0
IsGood P Empty rows = Each P rows × (rows ≡ [] → Empty)

abbrev AreGood : (Frame → Type 0) → List Keyed → Type 0
AreGood P groups = Each (λ group. IsGood P ⊥ group.rows) groups

with_row-good : (P : Frame → Type 0) (key : Row) (row : Frame) → P row → (groups : List Keyed) → AreGood P groups
    → AreGood P (with_row key row groups)
with_row-good P key row h [] k = (((h, tt), λ e. absurd cc), tt)
with_row-good P key row h (group ∷ groups) k = go (same_row key group.key) (with_row-good P key row h groups k.1)
  where
    go : (b : Bool) → AreGood P (with_row key row groups)
        → AreGood P (if b then record { key = group.key; rows = row ∷ group.rows } ∷ groups
        else group ∷ with_row key row groups)
    go true rest = (((h, k.0.0), λ e. absurd cc), k.1)
    go false rest = (k.0, rest)

keyed-good : (P : Frame → Type 0) (keys : List Row) (rows : List Frame) → Each P rows
    → AreGood P (keyed_groups keys rows)
keyed-good P [] rows h = tt
keyed-good P (key ∷ keys) [] h = tt
keyed-good P (key ∷ keys) (row ∷ rows) h = with_row-good P key row h.0 (keyed_groups keys rows)
    (keyed-good P keys rows h.1)

alone-good : (P : Frame → Type 0) (Empty : Type 0) (rows : List Frame) → Each P rows
    → Each (IsGood P Empty) (map alone rows)
alone-good P Empty [] h = tt
alone-good P Empty (row ∷ rows) h = (((h.0, tt), λ e. absurd cc), alone-good P Empty rows h.1)

pub groups-good : (places : NullPlaces) (db : Database) (P : Frame → Type 0) (Empty : Type 0) (g : MaybeExpr) (counted : Bool)
    (rows : List Frame) (groups : List Group) → (¬ Present g → counted ≡ true → Empty)
    → GroupedBy places g counted db rows groups
    → Each P rows → Each (IsGood P Empty) groups
groups-good places db P Empty (an_expr g) counted rows groups tight (keys, zip, groups_are) h =
    Each-permutation (IsGood P Empty) (map (λ group. group.rows) (keyed_groups keys rows)) groups groups_are
    (Each-map (λ group. IsGood P ⊥ group.rows) (IsGood P Empty) (λ group. group.rows)
    (λ group k. (k.0, λ e. absurd (k.1 e))) (keyed_groups keys rows) (keyed-good P keys rows h))
groups-good places db P Empty no_expr true rows groups tight e h = rw e ((h, λ q. tight (λ g. g) refl), tt)
groups-good places db P Empty no_expr false rows groups tight e h = rw e (alone-good P Empty rows h)

same-columns : (os ps : List (Option SqlType)) → ¬ (os ≡ ps → ⊥) → os ≡ ps
same-columns os ps n = go (pointwise (option_eq same_type) os ps) refl
  where
    go : (b : Bool) → pointwise (option_eq same_type) os ps ≡ b → os ≡ ps
    go true h = exact-list (exact-option exact-type) os ps h
    go false h = absurd (n ((types-differ (not (pointwise (option_eq same_type) os ps)) os ps refl).0 (ap not h)))

abbrev pub the_select : Expr → From → Distinct → MaybeExpr → Order → LimitOffsetClause → MaybeExpr → MaybeExpr → Form
    → Marks → Select
the_select e f u w o rows g h form marks =
    record {
      selection = e;
      source = f;
      distinctness = u;
      where_by = w;
      order = o;
      rows = rows;
      group_by = g;
      having_by = h;
      form = form;
      marks = marks;
    }

module _ (places : NullPlaces) (schema : Declarations) (d : Dialect) (db : Database) (ok : Conforms schema db) where
  -- the rows of a select statement, from what its selection gives
  select-fits : (default : Bool) (e : Expr) (f : From) (u : Distinct) (w : MaybeExpr) (o : Order)
      (rows : LimitOffsetClause)
      (g h : MaybeExpr) (form : Form) (marks : Marks) (outer : Frame) (us ts : List SqlType) (answer : List Row)
      → IsKept schema (the_select e f u w o rows g h form marks)
      → (¬ Present g → counts e u o ≡ true → ¬ IsLoose e)
      → ((group : Group) (vs : Row) → Each (FrameFits (leaves_of f)) group → Gives places e db group vs
      → AllFit (Cause (leaves_of f) group (bare e) (IsLoose e)) us vs)
      → ((row : Row) → RowFits us row → RowFits ts row)
      → Answers places (select default e f u w o rows g h form marks) db outer answer → Each (RowFits ts) answer
  select-fits default e f u w o rows g h form marks outer us ts answer kept tight step shown a =
      rw a.13 (page-each (RowFits ts) rows _
      (Each-map (λ line. RowFits ts line.shown) (RowFits ts) (λ line. line.shown) (λ line fit. fit) _
      (left_by-each (λ line. RowFits ts line.shown) u a.5 lines_fit)))
    where
      taken_fit : Each (FrameFits (leaves_of f)) a.2
      taken_fit =
          IsPart-each _ (may_skip form) a.1 a.2 a.8
          (Filtered-each _ a.7 (from-fits places schema db ok f a.0 kept.declared a.6))

      kept_fit : Each (IsGood (FrameFits (leaves_of f)) (¬ IsLoose e)) a.4
      kept_fit =
          Filtered-each _ a.10
          (groups-good places db (FrameFits (leaves_of f)) (¬ IsLoose e) g (counts e u o) a.2 a.3 tight a.9 taken_fit)

      refuted : (group : Group) → (group ≡ [] → ¬ IsLoose e) → ¬ Cause (leaves_of f) group (bare e) (IsLoose e)
      refuted group n (inl i) = kept.no_bare i
      refuted group n (inr i) = n i.0 i.1

      lines_fit : Each (λ line. RowFits ts line.shown) a.5
      lines_fit =
          AllZip-each (λ group line. Gives places e db group line.shown × KeyGives places u db group line.key
          × OrderGives places o db group line.order)
          (IsGood (FrameFits (leaves_of f)) (¬ IsLoose e)) (λ line. RowFits ts line.shown)
          (λ group line gives good. shown line.shown
          (no_cause-fits (Cause (leaves_of f) group (bare e) (IsLoose e)) us line.shown (refuted group good.1)
          (step group line.shown good.0 gives.0)))
          a.4 a.5 a.11 kept_fit

  mutual
    pub gives-fit : (e : Expr) (ls : List Leaf) (f : Group) (ts : List SqlType) (vs : List Value)
        → Each (NodeFits (map (λ l. l.origin) ls)) (nodes e)
        → IsFine schema d (in_expr (map (λ l. l.origin) ls) e) → Each (FrameFits ls) f
        → element_types (given e) ≡ map Some ts
        → Gives places e db f vs
        → AllFit (Cause ls f (bare e) (IsLoose e)) ts vs
    gives-fit (column o c) ls f ts vs n p fits t g =
        one-step (Cause ls f (o ∷ []) (Unit {0})) (Some c.ty) (value_of o c (one_row f)) ts vs t g
        (λ u is. subst (λ w. Fit (Cause ls f (o ∷ []) (Unit {0})) w (value_of o c (one_row f))) (some_same c.ty u is)
        (group_column-fits o c n.0.0 ls f fits n.0.1))
    gives-fit (value ty x) ls f ts vs n p fits t g =
        one-step (Cause ls f [] ⊥) (Some ty) x ts vs t g (λ u is. inl (subst (λ w. Fits w x) (some_same ty u is) n.0))
    gives-fit (list es) ls f ts vs n p fits t g = all-fit es ls f ts vs n.1 p fits t g
    gives-fit count_star ls f ts vs n p fits t g =
        one-step (Cause ls f [] ⊥) big_type (V.BigInt (pos (length f))) ts vs t g
        (λ u is. inl (counted-fits (Some big) (length f) u is))
    gives-fit (nullable e) ls f ts vs n p fits t g =
        nullable-step (Cause ls f (bare e) (IsLoose e)) (Cause ls f [] ⊥) (given e) ts vs t
        (λ us is. gives-fit e ls f us vs n.1 p fits is g)
    gives-fit (unary o e) ls f ts vs n p fits t g =
        one-step (Cause ls f (bare e) (IsLoose e)) (unary_type o (only_type (given e))) (unary_value o g.0) ts vs t g.2
        (λ u is. unary-step (Cause ls f (bare e) (IsLoose e)) o g.0 (only_type (given e)) u is
        (λ w w_is. (gives-fit e ls f (w ∷ []) (g.0 ∷ []) n.1 p fits (only-typed (given e) w w_is) g.1).0))
    gives-fit (count e) ls f ts vs n p fits t g =
        one-step (Cause ls f (bare e) ⊥) (if_typed (only_type (given e)) big_type)
        (V.BigInt (pos (not_nulls g.0))) ts vs t g.2
        (λ u is. inl (counted-fits (only_type (given e)) (not_nulls g.0) u is))
    gives-fit (compared by a b) ls f ts vs n p fits t g =
        one-step (Cause ls f (bare a ++ bare b) (IsLoose a ⊎ IsLoose b))
        (compared_type (only_type (given a)) (only_type (given b)))
        (compared_value by g.0 g.1) ts vs t g.4
        (λ u is. compared-step (Cause ls f (bare a ++ bare b) (IsLoose a ⊎ IsLoose b)) by g.0 g.1 (only_type (given a))
        (only_type (given b)) u is
        (λ w w_is. Fit-weaken w g.0 (cause_left ls f (bare a) (bare b) (IsLoose a) (IsLoose b))
        ((gives-fit a ls f (w ∷ []) (g.0 ∷ []) (Each-front _ (nodes a) (nodes b) n.1)
        (fine-left schema d (in_expr (map (λ l. l.origin) ls) a) (in_expr (map (λ l. l.origin) ls) b) p) fits
        (only-typed (given a) w w_is) g.2).0))
        (λ w w_is. Fit-weaken w g.1 (cause_right ls f (bare a) (bare b) (IsLoose a) (IsLoose b))
        ((gives-fit b ls f (w ∷ []) (g.1 ∷ []) (Each-end _ (nodes a) (nodes b) n.1)
        (fine-right schema d (in_expr (map (λ l. l.origin) ls) a) (in_expr (map (λ l. l.origin) ls) b) p) fits
        (only-typed (given b) w w_is) g.3).0)))
    gives-fit (joined by a b) ls f ts vs n p fits t g =
        one-step (Cause ls f (bare a ++ bare b) (IsLoose a ⊎ IsLoose b))
        (joined_type (only_type (given a)) (only_type (given b)))
        (joined_value by g.0 g.1) ts vs t g.4
        (λ u is. joined-step (Cause ls f (bare a ++ bare b) (IsLoose a ⊎ IsLoose b)) by g.0 g.1
        (only_type (given a)) (only_type (given b)) u is
        (λ w w_is. Fit-weaken w g.0 (cause_left ls f (bare a) (bare b) (IsLoose a) (IsLoose b))
        ((gives-fit a ls f (w ∷ []) (g.0 ∷ []) (Each-front _ (nodes a) (nodes b) n.1)
        (fine-left schema d (in_expr (map (λ l. l.origin) ls) a) (in_expr (map (λ l. l.origin) ls) b) p) fits
        (only-typed (given a) w w_is) g.2).0))
        (λ w w_is. Fit-weaken w g.1 (cause_right ls f (bare a) (bare b) (IsLoose a) (IsLoose b))
        ((gives-fit b ls f (w ∷ []) (g.1 ∷ []) (Each-end _ (nodes a) (nodes b) n.1)
        (fine-right schema d (in_expr (map (λ l. l.origin) ls) a) (in_expr (map (λ l. l.origin) ls) b) p) fits
        (only-typed (given b) w w_is) g.3).0)))
    gives-fit (exists q) ls f ts vs n p fits t g =
        one-step (Cause ls f [] ⊥) (bool_type false) (V.Bool (has_row g.0)) ts vs t g.2
        (λ u is. inl (subst (λ w. Fits w (V.Bool (has_row g.0))) (some_same (truth false) u is) refl))
    gives-fit (single q) ls f ts vs n p fits t g =
        one-step (Cause ls f [] ⊥) (as_nullable (single_type (columns q))) (single_value g.0) ts vs t g.2
        (λ u is. single-step (Cause ls f [] ⊥) g.0 (columns q) u is
        (λ us are. answers-fit q (map (λ l. l.origin) ls) (one_row f) us g.0 p are g.1))
    gives-fit (among_values neg e ty xs) ls f ts vs n p fits t g =
        one-step (Cause ls f (bare e) (IsLoose e)) (among_type (only_type (given e)) ty xs)
        (among_value neg g.0 xs) ts vs t g.2
        (λ u is. among_values-step (Cause ls f (bare e) (IsLoose e)) neg g.0 xs ty (only_type (given e)) u is
        (λ w w_is. (gives-fit e ls f (w ∷ []) (g.0 ∷ []) n.1 p fits (only-typed (given e) w w_is) g.1).0))
    gives-fit (among_rows neg e q) ls f ts vs n p fits t g =
        one-step (Cause ls f (bare e) (IsLoose e)) (compared_type (only_type (given e)) (single_type (columns q)))
        (among_value neg g.0 (map first_value g.1)) ts vs t g.4
        (λ u is. among_rows-step (Cause ls f (bare e) (IsLoose e)) neg g.0 g.1 (only_type (given e)) (columns q) u is
        (λ w w_is. (gives-fit e ls f (w ∷ []) (g.0 ∷ []) n.1
        (fine-left schema d (in_expr (map (λ l. l.origin) ls) e) (parts (map (λ l. l.origin) ls) q) p) fits
        (only-typed (given e) w w_is) g.2).0)
        (λ us are. answers-fit q (map (λ l. l.origin) ls) (one_row f) us g.1
        (fine-right schema d (in_expr (map (λ l. l.origin) ls) e) (parts (map (λ l. l.origin) ls) q) p) are g.3))

    all-fit : (es : Exprs) (ls : List Leaf) (f : Group) (ts : List SqlType) (vs : List Value)
        → Each (NodeFits (map (λ l. l.origin) ls)) (nodes_of es)
        → IsFine schema d (in_exprs (map (λ l. l.origin) ls) es) → Each (FrameFits ls) f → given_each es ≡ map Some ts
        → AllGive places es db f vs
        → AllFit (Cause ls f (bare_of es) (AreLoose es)) ts vs
    all-fit no_exprs ls f ts vs n p fits t g = no_exprs-step (Cause ls f [] ⊥) ts vs t g
    all-fit (more_exprs e es) ls f ts vs n p fits t g =
        more_exprs-step (Cause ls f (bare e ++ bare_of es) (IsLoose e ⊎ AreLoose es)) (element_types (given e))
        (given_each es) ts g.0 g.1 vs t g.4
        (λ us are. all-weaken (Cause ls f (bare e) (IsLoose e))
        (Cause ls f (bare e ++ bare_of es) (IsLoose e ⊎ AreLoose es)) us g.0
        (cause_left ls f (bare e) (bare_of es) (IsLoose e) (AreLoose es))
        (gives-fit e ls f us g.0 (Each-front _ (nodes e) (nodes_of es) n)
        (fine-left schema d (in_expr (map (λ l. l.origin) ls) e) (in_exprs (map (λ l. l.origin) ls) es) p) fits are
        g.2))
        (λ ws are. all-weaken (Cause ls f (bare_of es) (AreLoose es))
        (Cause ls f (bare e ++ bare_of es) (IsLoose e ⊎ AreLoose es)) ws g.1
        (cause_right ls f (bare e) (bare_of es) (IsLoose e) (AreLoose es))
        (all-fit es ls f ws g.1 (Each-end _ (nodes e) (nodes_of es) n)
        (fine-right schema d (in_expr (map (λ l. l.origin) ls) e) (in_exprs (map (λ l. l.origin) ls) es) p) fits are
        g.3))

    answers-fit : (s : Statement) (outer : View) (f : Frame) (ts : List SqlType) (answer : List Row)
        → IsFine schema d (parts outer s)
        → columns s ≡ map Some ts → Answers places s db f answer → Each (RowFits ts) answer
    answers-fit (select default e f u w o rows g h form marks) outer frame ts answer p t a =
        let (us, are, shown) = form-fits form (element_types (given e)) ts t in
        let kept = is-kept schema d outer (the_select e f u w o rows g h form marks) (λ r i. p.0 r (inl i)) in
        let inside : IsFine schema d
        (in_distinct (origins_of f) u ++ (in_expr (origins_of f) e ++ (in_from f ++ (in_maybe (widest form f outer) w
        ++ (in_maybe (origins_of f) g ++ (in_maybe (origins_of f) h ++ in_order (origins_of f) o)))))) =
        (λ r i. p.0 r (inr i), λ i. p.1 (inr i)) in
        select-fits default e f u w o rows g h form marks frame us ts answer kept (tight g p)
        (λ row vs fits gives. gives-fit e (leaves_of f) row us vs kept.nodes
        (fine-left schema d (in_expr (origins_of f) e) _
        (fine-right schema d (in_distinct (origins_of f) u) _ inside)) fits are gives)
        shown a
      where
        tight : (k : MaybeExpr) → IsFine schema d (parts outer (select default e f u w o rows k h form marks))
            → ¬ Present k
            → counts e u o ≡ true → ¬ IsLoose e
        tight (an_expr k) q absent counted = absurd (absent tt)
        tight no_expr q absent counted =
            counted-tight e u o form counted (λ v. q.0 R.Grouping (inl (inr (inr (inl (inl v))))))
            (λ v. q.0 R.Grouping (inl (inr (inr (inr v))))) (λ v. q.1 (inl (v.0, λ i. i, v.1, v.2)))
    answers-fit (combination by all a b o rows) outer frame ts answer p t x =
        let inside : IsFine schema d (parts outer a ++ parts outer b) = (λ r i. p.0 r (inr i), λ i. p.1 (inr i)) in
        let same : columns a ≡ columns b = same-columns (columns a) (columns b) (λ n. p.0 R.TypeMismatch (inl n)) in
        rw x.7 (page-each (RowFits ts) rows x.2
        (combination-each by all (RowFits ts) x.0 x.1 x.2
        (answers-fit a outer frame ts x.0 (fine-left schema d (parts outer a) (parts outer b) inside) t x.3)
        (answers-fit b outer frame ts x.1 (fine-right schema d (parts outer a) (parts outer b) inside)
        (sym same ∙ t) x.4)
        x.5))

pub sound : (schema : Declarations) (d : Dialect) (s : Statement) (types : List SqlType) → Accepted schema d s
    → map Some types ≡ columns s
    → AnswersFit schema s types
sound schema d s types h t uncounted places db ok answer a =
    answers-fit places schema d db ok s [] [] types answer (accepted-clean schema d s h, uncounted) (sym t) a
