-- What the nodes of a statement's tree meet is what stands in the statement's clauses, each by what its clause sees.
use Rattle.std.proofs.Common.{◌≡◌, ◌↔◌, List, [], ◌∷◌, ◌++◌, ◌⊎◌, inl, inr, Option, None, Some, Bool, true, false, sym, subst, ap, arith}
use Rattle.sql_schema.specs.declared.types.SqlType.{SqlType}
use Rattle.sql_pass.specs.declared.value.Value.{Value}
use Rattle.sql_leaf.specs.declared.limit_offset.LimitOffsetClause.{LimitOffsetClause}
use Rattle.sql_leaf.specs.declared.marks.Marks.{Marks}
use Rattle.sql_leaf.specs.declared.position.PositionalItem.{PositionalItem}
use Rattle.sql_flat_law.specs.Rose.{Rose, Roses, node, none, more, one, two, leaf, roses_of}
use Rattle.sql_flat_law.specs.Folds.{Site, sites, sites_of}
use Rattle.sql_node.specs.Tree.{Form, Expr, column, value, list, count_star, nullable, unary, count, compared, joined, exists, single, among_values, among_rows, Exprs, no_exprs, more_exprs, Items, no_items, more_items, MaybeExpr, no_expr, an_expr, Source, of_table, of_alias, join, From, no_source, from, Distinct, every, distinct, distinct_on, Order, no_order, order_by, Statement, select, combination}
use Rattle.sql_rules.specs.Lists.{AnyOf}
use Rattle.sql_rules.specs.Scope as scope
use Rattle.sql_rules.specs.Scope.{a_select, a_combination, View, Part, Clause, Select, in_selection, in_distinct_on, in_on, in_where, in_group_by, in_having, in_order_by, Place, maybe_clause, ons, ons_of, distinct_clause, item_clauses, order_clauses, clauses, nodes, nodes_of, in_expr, in_exprs, in_items, in_maybe, in_source, in_from, in_distinct, in_order, parts, origins, origins_of, widest}
use Rattle.sql_flat.specs.Flat.{has_on, selecting_of, expr_rose, exprs_roses, items_roses, maybe_roses, source_rose, from_roses, distinct_roses, order_roses, positions_roses, rose}
use Rattle.sql_flat.specs.declared.kind.Combining.{Combining}
use Rattle.sql_flat.specs.declared.kind.FlatKind.{FlatKind}
use Rattle.sql_flat.specs.declared.kind.FlatKind.TheVariants as K
use Rattle.sql_flat.specs.declared.kind.Selecting.{Selecting}
use Rattle.sql_rules_check.specs.inside.Known.{Known, known_below}
use Rattle.sql_rules_check.specs.inside.Views.{Views}
use Rattle.sql_rules_check.proofs.SourceLeaves.{join-leaves, select-leaves, select_roses, widens}

-- the sides of a combination and its order below its node
abbrev pub sides_roses : Statement → Statement → Option (List PositionalItem) → Roses FlatKind
sides_roses a b o = more (node K.Side (one (rose a))) (more (node K.Side (one (rose b))) (positions_roses o))

-- whether the selection is the default one is of no rule
abbrev pub plain : Selecting → Selecting
plain s = record { default = false; unique = s.unique; rows = s.rows; form = s.form; marks = s.marks }

abbrev pub at_node : (FlatKind → Roses FlatKind → Type 0) → Rose FlatKind → Type 0
at_node P (node k ts) = P k ts

pub any-append : {X : Type 0} (P : X → Type 0) (xs ys : List X) → AnyOf P (xs ++ ys) ↔ (AnyOf P xs ⊎ AnyOf P ys)
any-append P [] ys = (inr, λ h. elim h [ inl p ↦ absurd p | inr q ↦ q ])
any-append P (x ∷ xs) ys =
    let r = any-append P xs ys in (
      λ h. elim h [
        | inl p ↦ inl (inl p)
        | inr q ↦ elim (r.0 q) [ inl l ↦ inl (inr l) | inr s ↦ inr s ]
      ],
      λ h. elim h [
        | inl p ↦ elim p [ inl q ↦ inl q | inr l ↦ inr (r.1 (inl l)) ]
        | inr q ↦ inr (r.1 (inr q))
      ],
    )

-- X may hold of an expression's node by what its clause sees, Y of a clause's node by its place, O of an order's and D
-- of the order of a combination; S of a select statement by what is around it and within it, C of a combination, Z of a
-- source. Each but Z knows the node's children.
module _ (X : View → FlatKind → Roses FlatKind → Type 0) (Y : Place → Roses FlatKind → Type 0)
    (O D : Roses FlatKind → Type 0) (S : View → Views → Selecting → Roses FlatKind → Type 0)
    (C : Combining → Roses FlatKind → Type 0) (Z : FlatKind → Type 0) where
  abbrev pub of_kind : View → FlatKind → Known → Type 0
  of_kind v (K.Column a c) w = X v (K.Column a c) w.kids
  of_kind v (K.Value t x) w = X v (K.Value t x) w.kids
  of_kind v K.List w = X v K.List w.kids
  of_kind v K.CountStar w = X v K.CountStar w.kids
  of_kind v K.Nullable w = X v K.Nullable w.kids
  of_kind v (K.Unary n) w = X v (K.Unary n) w.kids
  of_kind v K.Count w = X v K.Count w.kids
  of_kind v (K.Compared by) w = X v (K.Compared by) w.kids
  of_kind v (K.Joined by) w = X v (K.Joined by) w.kids
  of_kind v K.Exists w = X v K.Exists w.kids
  of_kind v K.Single w = X v K.Single w.kids
  of_kind v (K.Among n l) w = X v (K.Among n l) w.kids
  of_kind v (K.Table t) w = Z (K.Table t)
  of_kind v (K.Alias a) w = Z (K.Alias a)
  of_kind v (K.Join k on) w = Z (K.Join k on)
  of_kind v K.On w = Y in_on w.kids
  of_kind v K.DistinctOn w = Y in_distinct_on w.kids
  of_kind v K.Where w = Y in_where w.kids
  of_kind v K.GroupBy w = Y in_group_by w.kids
  of_kind v K.Having w = Y in_having w.kids
  of_kind v K.OrderBy w = O w.kids
  of_kind v (K.Item by) w = Y in_order_by w.kids
  of_kind v (K.Select s) w = S v (record { clause = w.clause; condition = w.condition }) (plain s) w.kids
  of_kind v (K.Combination c) w = C c w.kids
  of_kind v K.Positions w = D w.kids
  of_kind v _ w = ⊥

  abbrev pub Out : Site Known FlatKind → Type 0
  Out s = of_kind s.around.clause s.kind s.within

  abbrev pub OfExpr : View → Expr → Type 0
  OfExpr v e = at_node (X v) (expr_rose e)

  abbrev pub OfSource : Source → Type 0
  OfSource (of_table t only sample) = Z (K.Table (record { table = t; only = only; sample = sample }))
  OfSource (of_alias a t) = Z (K.Alias (record { name = a; table = t }))
  OfSource (join k l r on) = Z (K.Join k (has_on on)) ⊎ (OfSource l ⊎ OfSource r)

  abbrev pub OfFrom : From → Type 0
  OfFrom no_source = ⊥
  OfFrom (from f) = OfSource f

  abbrev pub OfOrder : Order → Type 0
  OfOrder no_order = ⊥
  OfOrder (order_by is) = O (items_roses is)

  abbrev pub OfPositions : Option (List PositionalItem) → Type 0
  OfPositions None = ⊥
  OfPositions (Some ps) = D (roses_of (λ p. leaf (K.Position p)) ps)

  -- a selection has no node of its own
  abbrev pub OfPlace : Place → Expr → Type 0
  OfPlace in_selection e = ⊥
  OfPlace in_distinct_on e = Y in_distinct_on (one (expr_rose e))
  OfPlace in_on e = Y in_on (one (expr_rose e))
  OfPlace in_where e = Y in_where (one (expr_rose e))
  OfPlace in_group_by e = Y in_group_by (one (expr_rose e))
  OfPlace in_having e = Y in_having (one (expr_rose e))
  OfPlace in_order_by e = Y in_order_by (one (expr_rose e))

  abbrev pub ClauseOut : Clause → Type 0
  ClauseOut c = OfPlace c.place c.expr ⊎ AnyOf (OfExpr c.view) (nodes c.expr)

  abbrev pub OfSelect : View → Select → Type 0
  OfSelect outer s =
      S outer (record { clause = scope.own s; condition = widest s.form s.source outer })
      (selecting_of false s.distinctness s.rows s.form s.marks)
      (select_roses s.selection s.source s.distinctness s.where_by s.order s.group_by s.having_by)

  abbrev pub PartOut : Part → Type 0
  PartOut (a_select outer s) =
      (AnyOf ClauseOut (clauses outer s) ⊎ OfSelect outer s) ⊎ (OfFrom s.source ⊎ OfOrder s.order)
  PartOut (a_combination c) =
      C (record { combinator = c.combinator; duplicates = c.duplicates; rows = c.rows })
      (sides_roses c.left c.right c.order)
      ⊎ OfPositions c.order

  abbrev Sites : Type 0
  Sites = List (Site Known FlatKind)

  abbrev below : Known → Rose FlatKind → Sites
  below = sites known_below

  abbrev below_each : Known → Roses FlatKind → Sites
  below_each = sites_of known_below

  -- ---- nodes over one part, over two, over what holds nothing

  abbrev Seen : (Expr → Type 0) → Sites → List Expr → List Part → Type 0
  Seen F xs es ps = AnyOf Out xs ↔ (AnyOf F es ⊎ AnyOf PartOut ps)

  module _ (A : Type 0) (F : Expr → Type 0) where
    over-none : (A ⊎ ⊥) ↔ ((A ⊎ ⊥) ⊎ ⊥)
    over-none = grind arith

    over-list : (x : Sites) (n : List Expr) (p : List Part) → Seen F x n p
        → (A ⊎ AnyOf Out x) ↔ ((A ⊎ AnyOf F n) ⊎ AnyOf PartOut p)
    over-list x n p h = grind arith

    over-one : (x : Sites) (n : List Expr) (p : List Part) → Seen F x n p
        → (A ⊎ AnyOf Out (x ++ [])) ↔ ((A ⊎ AnyOf F n) ⊎ AnyOf PartOut p)
    over-one x n p h = let r = any-append Out x [] in grind arith

    over-two : (x y : Sites) (n m : List Expr) (p q : List Part) → Seen F x n p → Seen F y m q
        → (A ⊎ AnyOf Out (x ++ (y ++ []))) ↔ ((A ⊎ AnyOf F (n ++ m)) ⊎ AnyOf PartOut (p ++ q))
    over-two x y n m p q h g =
        let r = any-append Out x (y ++ []) in
        let s = any-append Out y [] in
        let t = any-append F n m in
        let u = any-append PartOut p q in grind arith

    over-all : (x y : Sites) (n m : List Expr) (p q : List Part) → Seen F x n p → Seen F y m q
        → Seen F (x ++ y) (n ++ m) (p ++ q)
    over-all x y n m p q h g =
        let r = any-append Out x y in
        let t = any-append F n m in
        let u = any-append PartOut p q in grind arith

    over-query : (x : Sites) (p : List Part) → AnyOf Out x ↔ AnyOf PartOut p
        → (A ⊎ AnyOf Out (x ++ [])) ↔ ((A ⊎ ⊥) ⊎ AnyOf PartOut p)
    over-query x p h = let r = any-append Out x [] in grind arith

    over-values : (x y : Sites) (n : List Expr) (p : List Part) → Seen F x n p
        → (AnyOf Out y → ⊥) → (A ⊎ AnyOf Out (x ++ (y ++ []))) ↔ ((A ⊎ AnyOf F n) ⊎ AnyOf PartOut p)
    over-values x y n p h g =
        let r = any-append Out x (y ++ []) in
        let s = any-append Out y [] in grind arith

    over-rows : (x y : Sites) (n : List Expr) (p q : List Part) → Seen F x n p
        → AnyOf Out y ↔ AnyOf PartOut q
        → (A ⊎ AnyOf Out (x ++ (y ++ []))) ↔ ((A ⊎ AnyOf F n) ⊎ AnyOf PartOut (p ++ q))
    over-rows x y n p q h g =
        let r = any-append Out x (y ++ []) in
        let s = any-append Out y [] in
        let u = any-append PartOut p q in grind arith

  no-element : (v : Known) (t : SqlType) (xs : List Value)
      → AnyOf Out (below_each v (roses_of (λ x. leaf (K.Element t x)) xs)) → ⊥
  no-element v t [] h = h
  no-element v t (x ∷ xs) (inl p) = p
  no-element v t (x ∷ xs) (inr h) = no-element v t xs h

  no-value : (v : Known) (t : SqlType) (xs : List Value)
      → AnyOf Out (below v (node (K.Values t) (roses_of (λ x. leaf (K.Element t x)) xs))) → ⊥
  no-value v t xs (inl p) = p
  no-value v t xs (inr h) =
      no-element (known_below v (K.Values t) (roses_of (λ x. leaf (K.Element t x)) xs)) t xs h

  no-position : (v : Known) (ps : List PositionalItem)
      → AnyOf Out (below_each v (roses_of (λ p. leaf (K.Position p)) ps)) → ⊥
  no-position v [] h = h
  no-position v (p ∷ ps) (inl q) = q
  no-position v (p ∷ ps) (inr h) = no-position v ps h

  -- ---- clauses, one after the other

  -- these clauses and the statements in them, and then the rest
  abbrev Then : Sites → List Clause → List Part → Sites → Type 0
  Then xs cs ps ys = AnyOf Out xs ↔ ((AnyOf ClauseOut cs ⊎ AnyOf PartOut ps) ⊎ AnyOf Out ys)

  abbrev All : Sites → List Clause → List Part → Type 0
  All xs cs ps = AnyOf Out xs ↔ (AnyOf ClauseOut cs ⊎ AnyOf PartOut ps)

  -- and something of the statement's source or order
  abbrev AllWith : Sites → List Clause → List Part → Type 0 → Type 0
  AllWith xs cs ps F = AnyOf Out xs ↔ ((AnyOf ClauseOut cs ⊎ AnyOf PartOut ps) ⊎ F)

  next : (xs ys : Sites) (cs ds : List Clause) (ps qs : List Part) → Then xs cs ps ys
      → All ys ds qs → All xs (cs ++ ds) (ps ++ qs)
  next xs ys cs ds ps qs h g =
      let t = any-append ClauseOut cs ds in
      let u = any-append PartOut ps qs in grind arith

  next-with : (F : Type 0) (xs ys : Sites) (cs ds : List Clause) (ps qs : List Part) → Then xs cs ps ys
      → AllWith ys ds qs F → AllWith xs (cs ++ ds) (ps ++ qs) F
  next-with F xs ys cs ds ps qs h g =
      let t = any-append ClauseOut cs ds in
      let u = any-append PartOut ps qs in grind arith

  from-with : (F G : Type 0) (xs ys : Sites) (cs ds : List Clause) (ps qs : List Part)
      → AnyOf Out xs ↔ (((AnyOf ClauseOut cs ⊎ AnyOf PartOut ps) ⊎ F) ⊎ AnyOf Out ys)
      → AllWith ys ds qs G → AllWith xs (cs ++ ds) (ps ++ qs) (F ⊎ G)
  from-with F G xs ys cs ds ps qs h g =
      let t = any-append ClauseOut cs ds in
      let u = any-append PartOut ps qs in grind arith

  absent : (xs : Sites) → Then xs [] [] xs
  absent xs = grind arith

  -- a clause of one expression
  clause-then : (v : View) (e : Expr) (x ys : Sites) (ps : List Part)
      → AnyOf Out x ↔ (AnyOf (OfExpr v) (nodes e) ⊎ AnyOf PartOut ps)
      → Then (x ++ ys) (record { place = in_selection; view = v; expr = e } ∷ []) ps ys
  clause-then v e x ys ps h = let r = any-append Out x ys in grind arith

  -- the same below a node of its own
  wrapped-then : (A : Type 0) (v : View) (e : Expr) (x ys : Sites) (ps : List Part)
      → AnyOf Out x ↔ (AnyOf (OfExpr v) (nodes e) ⊎ AnyOf PartOut ps)
      → (A ⊎ AnyOf Out ((x ++ []) ++ ys))
      ↔ ((((A ⊎ AnyOf (OfExpr v) (nodes e)) ⊎ ⊥) ⊎ AnyOf PartOut ps) ⊎ AnyOf Out ys)
  wrapped-then A v e x ys ps h =
      let r = any-append Out (x ++ []) ys in
      let s = any-append Out x [] in grind arith

  -- ---- the walk over a statement

  abbrev own : From → View → Form → Roses FlatKind → Known
  own f outer form ts = record { clause = origins_of f; condition = widest form f outer; kids = ts }

  select-below : (v : Known) (default : Bool) (e : Expr) (f : From) (u : Distinct) (w : MaybeExpr) (o : Order)
      (rows : LimitOffsetClause) (g h : MaybeExpr) (form : Form) (marks : Marks)
      → known_below v (K.Select (selecting_of default u rows form marks)) (select_roses e f u w o g h)
      ≡ own f v.clause form (select_roses e f u w o g h)
  select-below v default e f u w o rows g h form marks =
      let l = select-leaves e f u w o g h in
      let ts = select_roses e f u w o g h in
      let known : View → Known = λ c. record { clause = origins_of f; condition = c; kids = ts } in
      rw l (ap known (widens form f v.clause))

  join-all : (A L R : Type 0) (x y z : Sites) (cs ds es : List Clause) (ps qs rs : List Part)
      → AllWith x cs ps L → AllWith y ds qs R → All z es rs
      → (A ⊎ AnyOf Out (x ++ (y ++ z)))
      ↔ ((AnyOf ClauseOut (cs ++ (ds ++ es)) ⊎ AnyOf PartOut (ps ++ (qs ++ rs))) ⊎ (A ⊎ (L ⊎ R)))
  join-all A L R x y z cs ds es ps qs rs h g k =
      let r = any-append Out x (y ++ z) in
      let s = any-append Out y z in
      let t = any-append ClauseOut cs (ds ++ es) in
      let u = any-append ClauseOut ds es in
      let v = any-append PartOut ps (qs ++ rs) in
      let w = any-append PartOut qs rs in grind arith

  select-all : (A F : Type 0) (xs : Sites) (cs : List Clause) (ps : List Part) → AllWith xs cs ps F
      → (A ⊎ AnyOf Out xs) ↔ (((AnyOf ClauseOut cs ⊎ A) ⊎ F) ⊎ AnyOf PartOut ps)
  select-all A F xs cs ps h = grind arith

  combination-all : (A B : Type 0) (t u : Site Known FlatKind) (x y z : Sites) (ps qs : List Part)
      → (Out t → ⊥) → (Out u → ⊥) → AnyOf Out x ↔ AnyOf PartOut ps
      → AnyOf Out y ↔ AnyOf PartOut qs → AnyOf Out z ↔ B
      → (A ⊎ (Out t ⊎ AnyOf Out ((x ++ []) ++ (u ∷ ((y ++ []) ++ z)))))
      ↔ ((A ⊎ B) ⊎ AnyOf PartOut (ps ++ qs))
  combination-all A B t u x y z ps qs left right h g k =
      let r = any-append Out (x ++ []) (u ∷ ((y ++ []) ++ z)) in
      let s = any-append Out (y ++ []) z in
      let l = any-append Out x [] in
      let m = any-append Out y [] in
      let p = any-append PartOut ps qs in grind arith

  positions-seen : (v : Known) (o : Option (List PositionalItem))
      → AnyOf Out (below_each v (positions_roses o)) ↔ OfPositions o
  positions-seen v None = grind arith
  positions-seen v (Some ps) =
      let w = known_below v K.Positions (roses_of (λ p. leaf (K.Position p)) ps) in
      let xs = below_each w (roses_of (λ p. leaf (K.Position p)) ps) in
      let r = any-append Out xs [] in
      let none = no-position w ps in grind arith

  mutual
    pub expr-seen : (v : Known) (e : Expr)
        → Seen (OfExpr v.clause) (below v (expr_rose e)) (nodes e) (in_expr v.clause e)
    expr-seen v (column o c) =
        over-none (OfExpr v.clause (column o c)) (OfExpr v.clause)
    expr-seen v (value t x) =
        over-none (OfExpr v.clause (value t x)) (OfExpr v.clause)
    expr-seen v (list es) =
        let w = known_below v K.List (exprs_roses es) in
        over-list (OfExpr v.clause (list es)) (OfExpr v.clause) (below_each w (exprs_roses es)) (nodes_of es)
        (in_exprs v.clause es) (exprs-seen w es)
    expr-seen v count_star =
        over-none (OfExpr v.clause count_star) (OfExpr v.clause)
    expr-seen v (nullable e) =
        let w = known_below v K.Nullable (one (expr_rose e)) in
        over-one (OfExpr v.clause (nullable e)) (OfExpr v.clause) (below w (expr_rose e)) (nodes e) (in_expr v.clause e)
        (expr-seen w e)
    expr-seen v (unary n e) =
        let w = known_below v (K.Unary n) (one (expr_rose e)) in
        over-one (OfExpr v.clause (unary n e)) (OfExpr v.clause) (below w (expr_rose e)) (nodes e)
        (in_expr v.clause e)
        (expr-seen w e)
    expr-seen v (count e) =
        let w = known_below v K.Count (one (expr_rose e)) in
        over-one (OfExpr v.clause (count e)) (OfExpr v.clause) (below w (expr_rose e)) (nodes e) (in_expr v.clause e)
        (expr-seen w e)
    expr-seen v (compared by a b) =
        let w = known_below v (K.Compared by) (two (expr_rose a) (expr_rose b)) in
        over-two (OfExpr v.clause (compared by a b)) (OfExpr v.clause) (below w (expr_rose a)) (below w (expr_rose b))
        (nodes a) (nodes b) (in_expr v.clause a) (in_expr v.clause b) (expr-seen w a) (expr-seen w b)
    expr-seen v (joined by a b) =
        let w = known_below v (K.Joined by) (two (expr_rose a) (expr_rose b)) in
        over-two (OfExpr v.clause (joined by a b)) (OfExpr v.clause) (below w (expr_rose a)) (below w (expr_rose b))
        (nodes a) (nodes b) (in_expr v.clause a) (in_expr v.clause b) (expr-seen w a) (expr-seen w b)
    expr-seen v (exists q) =
        let w = known_below v K.Exists (one (rose q)) in
        over-query (OfExpr v.clause (exists q)) (OfExpr v.clause) (below w (rose q)) (parts v.clause q)
        (statement-seen w q)
    expr-seen v (single q) =
        let w = known_below v K.Single (one (rose q)) in
        over-query (OfExpr v.clause (single q)) (OfExpr v.clause) (below w (rose q)) (parts v.clause q)
        (statement-seen w q)
    expr-seen v (among_values n e t xs) =
        let values = node (K.Values t) (roses_of (λ x. leaf (K.Element t x)) xs) in
        let w = known_below v (K.Among n true) (two (expr_rose e) values) in
        over-values (OfExpr v.clause (among_values n e t xs)) (OfExpr v.clause) (below w (expr_rose e))
        (below w values) (nodes e) (in_expr v.clause e) (expr-seen w e) (no-value w t xs)
    expr-seen v (among_rows n e q) =
        let w = known_below v (K.Among n false) (two (expr_rose e) (rose q)) in
        over-rows (OfExpr v.clause (among_rows n e q)) (OfExpr v.clause) (below w (expr_rose e)) (below w (rose q))
        (nodes e) (in_expr v.clause e) (parts v.clause q) (expr-seen w e) (statement-seen w q)

    exprs-seen : (v : Known) (es : Exprs)
        → Seen (OfExpr v.clause) (below_each v (exprs_roses es)) (nodes_of es) (in_exprs v.clause es)
    exprs-seen v no_exprs = grind arith
    exprs-seen v (more_exprs e es) =
        over-all ⊥ (OfExpr v.clause) (below v (expr_rose e)) (below_each v (exprs_roses es)) (nodes e)
        (nodes_of es) (in_expr v.clause e) (in_exprs v.clause es) (expr-seen v e) (exprs-seen v es)

    items-seen : (v : Known) (is : Items)
        → All (below_each v (items_roses is)) (item_clauses v.clause is) (in_items v.clause is)
    items-seen v no_items = grind arith
    items-seen v (more_items e by is) =
        let w = known_below v (K.Item by) (one (expr_rose e)) in
        next (below_each v (items_roses (more_items e by is))) (below_each v (items_roses is))
        (record { place = in_order_by; view = v.clause; expr = e } ∷ []) (item_clauses v.clause is)
        (in_expr v.clause e) (in_items v.clause is)
        (wrapped-then (OfPlace in_order_by e) v.clause e (below w (expr_rose e)) (below_each v (items_roses is))
        (in_expr v.clause e) (expr-seen w e))
        (items-seen v is)

    order-seen : (v : Known) (o : Order)
        → AllWith (below_each v (order_roses o)) (order_clauses v.clause o) (in_order v.clause o) (OfOrder o)
    order-seen v no_order = grind arith
    order-seen v (order_by is) =
        let w = known_below v K.OrderBy (items_roses is) in
        let h = items-seen w is in
        let r = any-append Out (below_each w (items_roses is)) [] in grind arith

    on-seen : (v : Known) (on : MaybeExpr)
        → All (below_each v (maybe_roses K.On on none)) (maybe_clause in_on v.clause on) (in_maybe v.clause on)
    on-seen v no_expr = grind arith
    on-seen v (an_expr e) =
        let w = known_below v K.On (one (expr_rose e)) in
        let h =
        wrapped-then (OfPlace in_on e) v.clause e (below w (expr_rose e)) [] (in_expr v.clause e) (expr-seen w e) in
        grind arith

    where-seen : (v : Known) (m : MaybeExpr) (rest : Roses FlatKind)
        → Then (below_each v (maybe_roses K.Where m rest)) (maybe_clause in_where v.condition m)
        (in_maybe v.condition m) (below_each v rest)
    where-seen v no_expr rest = absent (below_each v rest)
    where-seen v (an_expr e) rest =
        let w = known_below v K.Where (one (expr_rose e)) in
        wrapped-then (OfPlace in_where e) v.condition e (below w (expr_rose e)) (below_each v rest)
        (in_expr v.condition e) (expr-seen w e)

    group-seen : (v : Known) (m : MaybeExpr) (rest : Roses FlatKind)
        → Then (below_each v (maybe_roses K.GroupBy m rest)) (maybe_clause in_group_by v.clause m)
        (in_maybe v.clause m) (below_each v rest)
    group-seen v no_expr rest = absent (below_each v rest)
    group-seen v (an_expr e) rest =
        let w = known_below v K.GroupBy (one (expr_rose e)) in
        wrapped-then (OfPlace in_group_by e) v.clause e (below w (expr_rose e)) (below_each v rest)
        (in_expr v.clause e) (expr-seen w e)

    having-seen : (v : Known) (m : MaybeExpr) (rest : Roses FlatKind)
        → Then (below_each v (maybe_roses K.Having m rest)) (maybe_clause in_having v.clause m)
        (in_maybe v.clause m) (below_each v rest)
    having-seen v no_expr rest = absent (below_each v rest)
    having-seen v (an_expr e) rest =
        let w = known_below v K.Having (one (expr_rose e)) in
        wrapped-then (OfPlace in_having e) v.clause e (below w (expr_rose e)) (below_each v rest)
        (in_expr v.clause e) (expr-seen w e)

    distinct-seen : (v : Known) (u : Distinct) (rest : Roses FlatKind)
        → Then (below_each v (distinct_roses u rest)) (distinct_clause v.clause u) (in_distinct v.clause u)
        (below_each v rest)
    distinct-seen v every rest = absent (below_each v rest)
    distinct-seen v distinct rest = absent (below_each v rest)
    distinct-seen v (distinct_on e) rest =
        let w = known_below v K.DistinctOn (one (expr_rose e)) in
        wrapped-then (OfPlace in_distinct_on e) v.clause e (below w (expr_rose e)) (below_each v rest)
        (in_expr v.clause e) (expr-seen w e)

    source-seen : (v : Known) (f : Source) → AllWith (below v (source_rose f)) (ons f) (in_source f) (OfSource f)
    source-seen v (of_table t only sample) = grind arith
    source-seen v (of_alias a t) = grind arith
    source-seen v (join k l r on) =
        let os = origins l ++ origins r in
        let ts = more (source_rose l) (more (source_rose r) (maybe_roses K.On on none)) in
        let c : Known = record { clause = os; condition = os; kids = ts } in
        let h = source-seen c l in
        let g = source-seen c r in
        let o = on-seen c on in
        rw (join-leaves l r on)
        (join-all (Z (K.Join k (has_on on))) (OfSource l) (OfSource r) (below c (source_rose l))
        (below c (source_rose r)) (below_each c (maybe_roses K.On on none)) (ons l) (ons r)
        (maybe_clause in_on os on) (in_source l) (in_source r) (in_maybe os on) h g o)

    from-seen : (v : Known) (f : From) (rest : Roses FlatKind)
        → AnyOf Out (below_each v (from_roses f rest))
        ↔ (((AnyOf ClauseOut (ons_of f) ⊎ AnyOf PartOut (in_from f)) ⊎ OfFrom f) ⊎ AnyOf Out (below_each v rest))
    from-seen v no_source rest = grind arith
    from-seen v (from f) rest =
        let w = known_below v K.From (one (source_rose f)) in
        let h = source-seen w f in
        let r = any-append Out (below w (source_rose f) ++ []) (below_each v rest) in
        let s = any-append Out (below w (source_rose f)) [] in grind arith

    pub statement-seen : (v : Known) (s : Statement)
        → AnyOf Out (below v (rose s)) ↔ AnyOf PartOut (parts v.clause s)
    statement-seen v (select default e f u w o rows g h form marks) =
        let c = own f v.clause form (select_roses e f u w o g h) in
        let after_having = order_roses o in
        let after_group = maybe_roses K.Having h after_having in
        let after_where = maybe_roses K.GroupBy g after_group in
        let after_from = maybe_roses K.Where w after_where in
        let after_selection = from_roses f after_from in
        let all = parts v.clause (select default e f u w o rows g h form marks) in
        let ts = select_roses e f u w o g h in
        let meets : Known → Type 0 =
        λ k. (S v.clause (record { clause = k.clause; condition = k.condition })
        (selecting_of false u rows form marks) k.kids
        ⊎ AnyOf Out (below_each k ts)) ↔ AnyOf PartOut all in
        subst meets (sym (select-below v default e f u w o rows g h form marks))
        (select-all
        (S v.clause (record { clause = origins_of f; condition = widest form f v.clause })
        (selecting_of false u rows form marks)
        (select_roses e f u w o g h))
        (OfFrom f ⊎ OfOrder o) _ _ _
        (next-with (OfFrom f ⊎ OfOrder o) _ (below_each c (more (expr_rose e) after_selection)) _ _ _ _
        (distinct-seen c u (more (expr_rose e) after_selection))
        (next-with (OfFrom f ⊎ OfOrder o) _ (below_each c after_selection)
        (record { place = in_selection; view = c.clause; expr = e } ∷ []) _ _ _
        (clause-then c.clause e (below c (expr_rose e)) (below_each c after_selection) _ (expr-seen c e))
        (from-with (OfFrom f) (OfOrder o) _ (below_each c after_from) _ _ _ _ (from-seen c f after_from)
        (next-with (OfOrder o) _ (below_each c after_where) _ _ _ _ (where-seen c w after_where)
        (next-with (OfOrder o) _ (below_each c after_group) _ _ _ _ (group-seen c g after_group)
        (next-with (OfOrder o) _ (below_each c after_having) _ _ _ _ (having-seen c h after_having)
        (order-seen c o))))))))
    statement-seen v (combination by all a b o rows) =
        let w = known_below v (K.Combination (record { combinator = by; duplicates = all; rows = rows }))
        (sides_roses a b o) in
        let left = known_below w K.Side (one (rose a)) in
        let right = known_below w K.Side (one (rose b)) in
        combination-all (C (record { combinator = by; duplicates = all; rows = rows }) (sides_roses a b o))
        (OfPositions o) (record { around = w; kind = K.Side; within = left })
        (record { around = w; kind = K.Side; within = right }) (below left (rose a)) (below right (rose b))
        (below_each w (positions_roses o)) (parts v.clause a) (parts v.clause b) (λ h. h) (λ h. h)
        (statement-seen left a) (statement-seen right b) (positions-seen w o)
