-- What is written of the nodes of a statement is the statement's pieces.
use Rattle.std.proofs.Common.{◌≡◌, ℕ, suc, ◌++◌, Bool, true, false, List, [], ◌∷◌, Option, None, Some, map, length, nat_eq, codes, refl, sym, ap, ◌∙◌, append_assoc, append-nil, arith}
use Rattle.std.proofs.lemmas.Bool.Decides.{nat_tests}
use Rattle.sql_schema.specs.declared.types.SqlType.{SqlType}
use Rattle.sql_dialect.specs.Syntax.{array}
use Rattle.sql_dialect.specs.declared.backend.Dialect.{Dialect}
use Rattle.sql_dialect.specs.declared.backend.Dialect.TheVariants.{Pg, Mysql, Sqlite, Bracket}
use Rattle.sql_pass.specs.Commas.{next_of, commas}
use Rattle.sql_pass.specs.Pieces.{Piece, one, Text, Bind}
use Rattle.sql_pass.specs.declared.value.Bound.TheVariants.{Value as OneValue}
use Rattle.sql_pass.specs.declared.value.Value.{Value}
use Rattle.sql_leaf.specs.Positions.{position_pieces}
use Rattle.sql_leaf.specs.declared.limit_offset.LimitOffsetClause.{LimitOffsetClause}
use Rattle.sql_leaf.specs.declared.position.PositionalItem.{PositionalItem}
use Rattle.sql_node.specs.Pieces as p
use Rattle.sql_leaf.specs.Words.{group_by}
use Rattle.sql_node.specs.Pieces.{Written, alone, many, each, spread, stays, expr_parts, exprs_parts, items_pieces, maybe_pieces, source_pieces, from_pieces, distinct_pieces, order_pieces, pieces, values_pieces, end_pieces}
use Rattle.sql_node.specs.Tree.{Form, unboxed, boxed, Expr, column, value, list, count_star, nullable, unary, count, compared, joined, exists, single, among_values, among_rows, Exprs, no_exprs, more_exprs, Items, no_items, more_items, MaybeExpr, no_expr, an_expr, Source, of_table, of_alias, join, From, no_source, from, every, distinct, distinct_on, Order, no_order, order_by, Statement, select, combination}
use Rattle.sql_flat_law.specs.Rose.{Rose, Roses, node, none, more, leaf, one as one_rose, two, roses_of}
use Rattle.sql_flat_law.specs.Told.{still, stills, still_by, told, told_elements, told_kids, parted}
use Rattle.sql_flat.specs.Flat.{expr_rose, exprs_roses, items_roses, maybe_roses, source_rose, from_roses, order_roses, rose, form_of}
use Rattle.sql_flat_text.specs.inside.Writing.{among_open, among_whole, whole, kinds, kinds_of, is_list, before, between, after, comma, values_in, behind_select}
use Rattle.sql_flat_text.specs.Steps.{ends_in_values}
use Rattle.sql_flat.specs.declared.kind.FlatKind.{FlatKind}
use Rattle.sql_flat.specs.declared.kind.Selecting.{Selecting}
use Rattle.sql_flat.specs.declared.kind.Uniqueness.TheVariants as unique
use Rattle.sql_flat.specs.declared.kind.FlatKind.TheVariants as K

-- ---- lists and commas

commas-append : (b : Bool) (xs ys : List (List Piece)) → commas b (xs ++ ys) ≡ commas b xs ++ commas (stays b xs) ys
commas-append b [] ys = refl
commas-append b (x ∷ xs) ys =
    ap (λ l. next_of b x ++ l) (commas-append false xs ys ∙ ap (λ c. commas false xs ++ commas c ys) (stays-false xs))
    ∙ sym (append_assoc (next_of b x) (commas false xs) (commas false ys))
  where
    stays-false : (zs : List (List Piece)) → stays false zs ≡ false
    stays-false [] = refl
    stays-false (z ∷ zs) = refl

stays-append : (b : Bool) (xs ys : List (List Piece)) → stays b (xs ++ ys) ≡ stays (stays b xs) ys
stays-append b [] ys = refl
stays-append b (x ∷ xs) [] = refl
stays-append b (x ∷ xs) (y ∷ ys) = refl

commas-each : (b : Bool) (w : Written) → commas b (each w) ≡ spread b w
commas-each b (alone x) = append-nil (next_of b x)
commas-each b (many xs) = refl

stays-each : (b : Bool) (w : Written) → stays b (each w) ≡ p.still b w
stays-each b (alone x) = refl
stays-each b (many xs) = refl

-- ---- lists of values, by their kinds

abbrev elements_of : SqlType → List Value → Roses FlatKind
elements_of t vs = roses_of (λ v. leaf (K.Element t v)) vs

below-values : (t : SqlType) (vs : List Value) → values_in (kinds_of (elements_of t vs)) ≡ vs
below-values t [] = refl
below-values t (v ∷ vs) = ap (λ l. v ∷ l) (below-values t vs)

ends-last : (ks : List FlatKind) (k : FlatKind) (ls : List FlatKind) → ends_in_values (ks ++ k ∷ ls)
    ≡ ends_in_values (k ∷ ls)
ends-last [] k ls = refl
ends-last (x ∷ []) k ls = refl
ends-last (x ∷ (y ∷ ks)) k ls = ends-last (y ∷ ks) k ls

ends-element : (k : FlatKind) (t : SqlType) (v : Value) (vs : List Value)
    → ends_in_values (k ∷ (kinds_of (elements_of t (v ∷ vs)) ++ [])) ≡ false
ends-element k t v [] = refl
ends-element k t v (x ∷ vs) = ends-element (K.Element t v) t x vs

-- a membership in no values ends in its list
no-value : (ks : List FlatKind) (t : SqlType) → ends_in_values (ks ++ (K.Values t ∷ [])) ≡ true
no-value ks t = ends-last ks (K.Values t) []

some-value : (ks : List FlatKind) (t : SqlType) (v : Value) (vs : List Value)
    → ends_in_values (ks ++ (K.Values t ∷ (kinds_of (elements_of t (v ∷ vs)) ++ []))) ≡ false
some-value ks t v vs =
    ends-last ks (K.Values t) (kinds_of (elements_of t (v ∷ vs)) ++ []) ∙ ends-element (K.Values t) t v vs

-- a membership in rows
rows-whole : (d : Dialect) (n : Bool) (ks : List FlatKind) → among_whole (array d) n false ks ≡ None
rows-whole Pg n ks = refl
rows-whole Mysql n ks = refl
rows-whole Sqlite n ks = refl
rows-whole Bracket n ks = refl

rows-open : (d : Dialect) → among_open (array d) false ≡ one (Text (codes "("))
rows-open Pg = refl
rows-open Mysql = refl
rows-open Sqlite = refl
rows-open Bracket = refl

module _ (d : Dialect) where
  abbrev writes : Bool → Rose FlatKind → List Piece
  writes = told (whole d) is_list (before d) (between d) (after d) comma

  abbrev kids : FlatKind → ℕ → Roses FlatKind → List Piece
  kids = told_kids (whole d) is_list (before d) (between d) (after d) comma

  abbrev elements : Bool → Roses FlatKind → List Piece
  elements = told_elements (whole d) is_list (before d) (between d) (after d) comma

  abbrev stands : Bool → Rose FlatKind → Bool
  stands = still (whole d) is_list (before d) (between d) (after d) comma

  abbrev all_stand : Bool → Roses FlatKind → Bool
  all_stand = stills (whole d) is_list (before d) (between d) (after d) comma

  parted-next : (b : Bool) (x y : List Piece) → x ≡ y
      → parted (whole d) is_list (before d) (between d) (after d) comma b ++ x ≡ next_of b y
  parted-next true x y h = h
  parted-next false x y h = ap (λ l. comma ++ l) h

  falls : (o : Option (List Piece)) (b : Bool)
      → still_by (whole d) is_list (before d) (between d) (after d) comma o false b ≡ false
  falls None b = refl
  falls (Some ps) b = refl

  -- ---- lists of values

  later-values : (t : SqlType) (j : ℕ) (vs : List Value)
      → kids (K.Values t) (suc j) (roses_of (λ v. leaf (K.Element t v)) vs)
      ≡ commas false (map (λ v. one (Bind (OneValue t v))) vs)
  later-values t j [] = refl
  later-values t j (v ∷ vs) = ap (λ l. (comma ++ one (Bind (OneValue t v))) ++ l) (later-values t (suc j) vs)

  values-written : (t : SqlType) (vs : List Value)
      → kids (K.Values t) 0 (roses_of (λ v. leaf (K.Element t v)) vs) ≡ values_pieces t vs
  values-written t [] = refl
  values-written t (v ∷ vs) = ap (λ l. one (Bind (OneValue t v)) ++ l) (later-values t 0 vs)

  positions-later : (j : ℕ) (ps : List PositionalItem)
      → kids K.Positions (suc j) (roses_of (λ x. leaf (K.Position x)) ps)
      ≡ commas false (map (λ x. position_pieces x.column x.direction) ps)
  positions-later j [] = refl
  positions-later j (x ∷ ps) =
      ap (λ l. (comma ++ position_pieces x.column x.direction) ++ l) (positions-later (suc j) ps)

  positions-first : (ps : List PositionalItem)
      → kids K.Positions 0 (roses_of (λ x. leaf (K.Position x)) ps)
      ≡ commas true (map (λ x. position_pieces x.column x.direction) ps)
  positions-first [] = refl
  positions-first (x ∷ ps) = ap (λ l. position_pieces x.column x.direction ++ l) (positions-later 0 ps)

  -- ---- words

  behind-form : (r : LimitOffsetClause) (f : Form) → behind_select d r (form_of f) ≡ end_pieces d r f
  behind-form r (unboxed l) = refl
  behind-form r (boxed e n) = refl

  -- a clause in a select statement, whatever its place
  clause-next : (s : Selecting) (i j : ℕ) (ts : Roses FlatKind) → kids (K.Select s) i ts ≡ kids (K.Select s) j ts
  clause-next s i j none = refl
  clause-next s i j (more t ts) = ap (λ l. writes true t ++ l) (clause-next s (suc i) (suc j) ts)

selection-written : (d : Dialect) (s : Selecting) (e : Expr) (ts : Roses FlatKind)
    → writes d true (expr_rose e) ≡ spread true (expr_parts d e)
    → kids d (K.Select s) 0 (more (expr_rose e) ts) ≡ spread true (expr_parts d e) ++ kids d (K.Select s) 0 ts
selection-written d s e ts h = rw (h, clause-next d s 1 0 ts) refl

abbrev after_distinct : Expr → From → MaybeExpr → Order → MaybeExpr → MaybeExpr → Roses FlatKind
after_distinct e f m o g h =
    more (expr_rose e)
    (from_roses f (maybe_roses K.Where m (maybe_roses K.GroupBy g (maybe_roses K.Having h (order_roses o)))))

abbrev clause_pieces : Dialect → Expr → From → MaybeExpr → Order → MaybeExpr → MaybeExpr → List Piece
clause_pieces d e f m o g h =
    spread true (expr_parts d e)
    ++ (from_pieces d f
    ++ (maybe_pieces d (codes " WHERE ") m
    ++ (maybe_pieces d group_by g ++ (maybe_pieces d (codes " HAVING ") h ++ order_pieces d o))))

written : (d : Dialect) (s : Selecting) (u : List Piece) (e : Expr) (f : From) (m : MaybeExpr) (o : Order)
    (g h : MaybeExpr)
    (form : Form) → kids d (K.Select s) 0 (after_distinct e f m o g h) ≡ clause_pieces d e f m o g h
    → behind_select d s.rows s.form ≡ end_pieces d s.rows form
    → (one (Text (codes "SELECT ")) ++ u)
    ++ (kids d (K.Select s) 0 (after_distinct e f m o g h) ++ behind_select d s.rows s.form)
    ≡ one (Text (codes "SELECT "))
    ++ (u
    ++ (spread true (expr_parts d e)
    ++ (from_pieces d f
    ++ (maybe_pieces d (codes " WHERE ") m
    ++ (maybe_pieces d group_by g
    ++ (maybe_pieces d (codes " HAVING ") h ++ (order_pieces d o ++ end_pieces d s.rows form)))))))
written d s u e f m o g h form p q =
    (λ i. (one (Text (codes "SELECT ")) ++ u) ++ (p i ++ q i)) ∙ simp append_assoc

on-written : (d : Dialect) (s : Selecting) (u : Expr) (ts : Roses FlatKind)
    → writes d true (expr_rose u) ≡ spread true (expr_parts d u)
    → kids d (K.Select s) 0 (more (node K.DistinctOn (one_rose (expr_rose u))) ts)
    ≡ distinct_pieces d (distinct_on u) ++ kids d (K.Select s) 0 ts
on-written d s u ts h = rw (h, clause-next d s 1 0 ts) (simp (append_assoc, append-nil))

chained : (d : Dialect) (s : Selecting) (e : Expr) (f : From) (m : MaybeExpr) (o : Order) (g h : MaybeExpr)
    → writes d true (expr_rose e) ≡ spread true (expr_parts d e)
    → ((ts : Roses FlatKind) → kids d (K.Select s) 0 (from_roses f ts) ≡ from_pieces d f ++ kids d (K.Select s) 0 ts)
    → ((ts : Roses FlatKind) → kids d (K.Select s) 0 (maybe_roses K.Where m ts) ≡ maybe_pieces d (codes " WHERE ") m
    ++ kids d (K.Select s) 0 ts)
    → ((ts : Roses FlatKind) → kids d (K.Select s) 0 (maybe_roses K.GroupBy g ts) ≡ maybe_pieces d group_by g
    ++ kids d (K.Select s) 0 ts)
    → ((ts : Roses FlatKind) → kids d (K.Select s) 0 (maybe_roses K.Having h ts) ≡ maybe_pieces d (codes " HAVING ") h
    ++ kids d (K.Select s) 0 ts)
    → kids d (K.Select s) 0 (order_roses o) ≡ order_pieces d o
    → kids d (K.Select s) 0 (after_distinct e f m o g h) ≡ clause_pieces d e f m o g h
chained d s e f m o g h a b c k l n =
    let after_having = order_roses o in
    let after_group = maybe_roses K.Having h after_having in
    let after_where = maybe_roses K.GroupBy g after_group in
    let after_from = maybe_roses K.Where m after_where in
    selection-written d s e (from_roses f after_from) a
    ∙ ap (λ x. spread true (expr_parts d e) ++ x)
    (b after_from
    ∙ ap (λ x. from_pieces d f ++ x)
    (c after_where
    ∙ ap (λ x. maybe_pieces d (codes " WHERE ") m ++ x)
    (k after_group
    ∙ ap (λ x. maybe_pieces d group_by g ++ x)
    (l after_having ∙ ap (λ x. maybe_pieces d (codes " HAVING ") h ++ x) n))))

length-more : (x : Value) (xs : List Value) → nat_eq (length (x ∷ xs)) 0 ≡ false
length-more x xs = grind (arith, nat_tests)

mutual
  expr-stands : (d : Dialect) (b : Bool) (e : Expr) → stands d b (expr_rose e) ≡ p.still b (expr_parts d e)
  expr-stands d b (column o c) = refl
  expr-stands d b (value t x) = refl
  expr-stands d b (list es) = exprs-stand d b es
  expr-stands d b count_star = refl
  expr-stands d b (nullable e) = expr-stands d b e
  expr-stands d b (unary u e) = refl
  expr-stands d b (count e) = refl
  expr-stands d b (compared by x y) = refl
  expr-stands d b (joined by x y) = refl
  expr-stands d b (exists q) = refl
  expr-stands d b (single q) = refl
  expr-stands d b (among_values n e t xs) = falls d _ _
  expr-stands d b (among_rows n e q) = falls d _ _

  exprs-stand : (d : Dialect) (b : Bool) (es : Exprs) → all_stand d b (exprs_roses es) ≡ stays b (exprs_parts d es)
  exprs-stand d b no_exprs = refl
  exprs-stand d b (more_exprs e es) =
      ap (λ c. all_stand d c (exprs_roses es)) (expr-stands d b e) ∙ exprs-stand d (p.still b (expr_parts d e)) es
      ∙ ap (λ c. stays c (exprs_parts d es)) (sym (stays-each b (expr_parts d e)))
      ∙ sym (stays-append b (each (expr_parts d e)) (exprs_parts d es))

mutual
  expr-written : (d : Dialect) (b : Bool) (e : Expr) → writes d b (expr_rose e) ≡ spread b (expr_parts d e)
  expr-written d b (column o c) = parted-next d b _ _ refl
  expr-written d b (value t x) = parted-next d b _ _ refl
  expr-written d b (list es) = exprs-written d b es
  expr-written d b count_star = parted-next d b _ _ refl
  expr-written d b (nullable e) = append-nil (writes d b (expr_rose e)) ∙ expr-written d b e
  expr-written d b (unary u e) = parted-next d b _ _ (rw (expr-written d true e) (simp (append_assoc, append-nil)))
  expr-written d b (count e) = parted-next d b _ _ (rw (expr-written d true e) (simp (append_assoc, append-nil)))
  expr-written d b (compared by x y) =
      parted-next d b _ _ (rw (expr-written d true x, expr-written d true y) (simp (append_assoc, append-nil)))
  expr-written d b (joined by x y) =
      parted-next d b _ _ (rw (expr-written d true x, expr-written d true y) (simp (append_assoc, append-nil)))
  expr-written d b (exists q) = parted-next d b _ _ (rw (statement-written d q) (simp (append_assoc, append-nil)))
  expr-written d b (single q) = parted-next d b _ _ (rw (statement-written d q) (simp (append_assoc, append-nil)))
  expr-written Pg b (among_values n e t xs) =
      parted-next Pg b _ _ (rw (expr-written Pg true e, below-values t xs) (simp (append_assoc, append-nil)))
  expr-written Mysql b (among_values n e t []) =
      rw (no-value (kinds (expr_rose e)) t) (parted-next Mysql b _ _ refl)
  expr-written Mysql b (among_values n e t (x ∷ xs)) =
      rw (some-value (kinds (expr_rose e)) t x xs)
      (parted-next Mysql b _ _
      (rw (expr-written Mysql true e, later-values Mysql t 0 xs, length-more x xs) (simp (append_assoc, append-nil))))
  expr-written Sqlite b (among_values n e t []) =
      rw (no-value (kinds (expr_rose e)) t) (parted-next Sqlite b _ _ refl)
  expr-written Sqlite b (among_values n e t (x ∷ xs)) =
      rw (some-value (kinds (expr_rose e)) t x xs)
      (parted-next Sqlite b _ _
      (rw (expr-written Sqlite true e, later-values Sqlite t 0 xs, length-more x xs) (simp (append_assoc, append-nil))))
  expr-written Bracket b (among_values n e t []) =
      rw (no-value (kinds (expr_rose e)) t) (parted-next Bracket b _ _ refl)
  expr-written Bracket b (among_values n e t (x ∷ xs)) =
      rw (some-value (kinds (expr_rose e)) t x xs)
      (parted-next Bracket b _ _
      (rw (expr-written Bracket true e, later-values Bracket t 0 xs, length-more x xs)
      (simp (append_assoc, append-nil))))
  expr-written d b (among_rows n e q) =
      rw (rows-whole d n (kinds_of (two (expr_rose e) (rose q))), rows-open d)
      (parted-next d b _ _ (rw (expr-written d true e, statement-written d q) (simp (append_assoc, append-nil))))

  exprs-written : (d : Dialect) (b : Bool) (es : Exprs) → elements d b (exprs_roses es) ≡ commas b (exprs_parts d es)
  exprs-written d b no_exprs = refl
  exprs-written d b (more_exprs e es) =
      ap (λ c. writes d b (expr_rose e) ++ elements d c (exprs_roses es)) (expr-stands d b e)
      ∙ (λ i. expr-written d b e i ++ exprs-written d (p.still b (expr_parts d e)) es i)
      ∙ (λ i. sym (commas-each b (expr_parts d e)) i ++ commas (sym (stays-each b (expr_parts d e)) i)
      (exprs_parts d es))
      ∙ sym (commas-append b (each (expr_parts d e)) (exprs_parts d es))

  items-later : (d : Dialect) (j : ℕ) (is : Items) → kids d K.OrderBy (suc j) (items_roses is)
      ≡ commas false (items_pieces d is)
  items-later d j no_items = refl
  items-later d j (more_items e by is) =
      rw (expr-written d true e, items-later d (suc j) is) (simp (append_assoc, append-nil))

  items-written : (d : Dialect) (is : Items) → kids d K.OrderBy 0 (items_roses is) ≡ commas true (items_pieces d is)
  items-written d no_items = refl
  items-written d (more_items e by is) =
      rw (expr-written d true e, items-later d 0 is) (simp (append_assoc, append-nil))

  where-written : (d : Dialect) (s : Selecting) (m : MaybeExpr) (ts : Roses FlatKind)
      → kids d (K.Select s) 0 (maybe_roses K.Where m ts) ≡ maybe_pieces d (codes " WHERE ") m
      ++ kids d (K.Select s) 0 ts
  where-written d s no_expr ts = refl
  where-written d s (an_expr e) ts =
      rw (expr-written d true e, clause-next d s 1 0 ts) (simp (append_assoc, append-nil))

  group-written : (d : Dialect) (s : Selecting) (m : MaybeExpr) (ts : Roses FlatKind)
      → kids d (K.Select s) 0 (maybe_roses K.GroupBy m ts) ≡ maybe_pieces d group_by m ++ kids d (K.Select s) 0 ts
  group-written d s no_expr ts = refl
  group-written d s (an_expr e) ts =
      rw (expr-written d true e, clause-next d s 1 0 ts) (simp (append_assoc, append-nil))

  having-written : (d : Dialect) (s : Selecting) (m : MaybeExpr) (ts : Roses FlatKind)
      → kids d (K.Select s) 0 (maybe_roses K.Having m ts) ≡ maybe_pieces d (codes " HAVING ") m
      ++ kids d (K.Select s) 0 ts
  having-written d s no_expr ts = refl
  having-written d s (an_expr e) ts =
      rw (expr-written d true e, clause-next d s 1 0 ts) (simp (append_assoc, append-nil))

  source-written : (d : Dialect) (f : Source) → writes d true (source_rose f) ≡ source_pieces d f
  source-written d (of_table t only sample) = refl
  source-written d (of_alias a t) = refl
  source-written d (join k l r no_expr) =
      rw (source-written d l, source-written d r) (simp (append_assoc, append-nil))
  source-written d (join k l r (an_expr e)) =
      rw (source-written d l, source-written d r, expr-written d true e) (simp (append_assoc, append-nil))

  from-written : (d : Dialect) (s : Selecting) (f : From) (ts : Roses FlatKind)
      → kids d (K.Select s) 0 (from_roses f ts) ≡ from_pieces d f ++ kids d (K.Select s) 0 ts
  from-written d s no_source ts = refl
  from-written d s (from f) ts =
      rw (source-written d f, clause-next d s 1 0 ts) (simp (append_assoc, append-nil))

  order-written : (d : Dialect) (s : Selecting) (o : Order) → kids d (K.Select s) 0 (order_roses o) ≡ order_pieces d o
  order-written d s no_order = refl
  order-written d s (order_by is) = rw (items-written d is) (simp (append_assoc, append-nil))

  pub statement-written : (d : Dialect) (s : Statement) → writes d true (rose s) ≡ pieces d s
  statement-written d (select default e f every m o rows g h form marks) =
      let s : Selecting =
      record { default = default; unique = unique.Every; rows = rows; form = form_of form; marks = marks } in
      written d s [] e f m o g h form
      (chained d s e f m o g h (expr-written d true e) (from-written d s f) (where-written d s m) (group-written d s g)
      (having-written d s h) (order-written d s o)) (behind-form d rows form)
  statement-written d (select default e f distinct m o rows g h form marks) =
      let s : Selecting =
      record { default = default; unique = unique.Distinct; rows = rows; form = form_of form; marks = marks } in
      written d s (distinct_pieces d distinct) e f m o g h form
      (chained d s e f m o g h (expr-written d true e) (from-written d s f) (where-written d s m) (group-written d s g)
      (having-written d s h) (order-written d s o)) (behind-form d rows form)
  statement-written d (select default e f (distinct_on u) m o rows g h form marks) =
      let s : Selecting =
      record { default = default; unique = unique.DistinctOn; rows = rows; form = form_of form; marks = marks } in
      let ts = after_distinct e f m o g h in
      ap (λ l. (one (Text (codes "SELECT ")) ++ []) ++ (l ++ behind_select d rows (form_of form)))
      (on-written d s u ts (expr-written d true u)
      ∙ ap (λ l. distinct_pieces d (distinct_on u) ++ l)
      (chained d s e f m o g h (expr-written d true e) (from-written d s f) (where-written d s m) (group-written d s g)
      (having-written d s h) (order-written d s o)))
      ∙ ap (λ l. (one (Text (codes "SELECT ")) ++ [])
      ++ ((distinct_pieces d (distinct_on u) ++ clause_pieces d e f m o g h) ++ l))
      (behind-form d rows form)
      ∙ simp (append_assoc, append-nil)
  statement-written d (combination by all x y None rows) =
      rw (statement-written d x, statement-written d y) (simp (append_assoc, append-nil))
  statement-written d (combination by all x y (Some ps) rows) =
      rw (statement-written d x, statement-written d y, positions-first d ps) (simp (append_assoc, append-nil))
