-- The pieces of a statement with other values are the statement's, but for values.
use Rattle.std.proofs.Common.{◌≡◌, ℕ, ℤ, Bool, true, false, List, [], ◌∷◌, map, length, Option, Some, None, option_map, refl, sym, ap, ◌∙◌, codes, arith, nat_eq, inl, inr}
use Rattle.std.proofs.Math.Dec.{eqb-suc-zero}
use Rattle.std.proofs.lemmas.Bool.{false≢true}
use Rattle.sql_schema.specs.declared.types.SqlType.{SqlType}
use Rattle.sql_dialect.specs.declared.backend.Dialect.{Dialect}
use Rattle.sql_dialect.specs.declared.backend.Dialect.TheVariants.{Pg, Mysql, Sqlite, Bracket}
use Rattle.sql_pass.specs.Parts.{side_open, pieces_of_option}
use Rattle.sql_pass.specs.Paths.{table_pieces}
use Rattle.sql_pass.specs.Pieces.{Piece, one, Bind, Unsafe}
use Rattle.sql_pass.specs.declared.value.Bound.TheVariants.{Value as OneValue, List as ManyValues}
use Rattle.sql_pass.specs.declared.value.Value.{Value}
use Rattle.sql_leaf.specs.Limits.{limit_pieces, offset_pieces, offset_rows_pieces, fetch_pieces, largest_limit, least_limit, fetch_from_the_first, fetch_next, rows_only, limit_alone, offset_alone, limit_and_offset, limit_offset_pieces}
use Rattle.sql_leaf.specs.Locks.{locking_pieces}
use Rattle.sql_pass.specs.Bounds.{of_i16, of_i32, of_i64}
use Rattle.sql_leaf.specs.Positions.{direction_pieces}
use Rattle.sql_leaf.specs.Sources.{alias_pieces, only_pieces, method_open, repeatable, seed_pieces, sample_pieces}
use Rattle.sql_leaf.specs.declared.limit_offset.LimitOffsetClause.{LimitOffsetClause}
use Rattle.sql_leaf.specs.declared.table_source.Tablesample.{Tablesample}
use Rattle.sql_leaf.specs.Operators.{unary_before, unary_after, comparison_sql, logic_sql}
use Rattle.sql_leaf.specs.Words.{among_sql, join_sql, combinator_sql, group_by, order_by_sql, distinct_on_open}
use Rattle.sql_node.specs.Pieces.{spread, each, one_by_one, among_pieces, leaf_pieces, joined_by, all_pieces, positions_pieces, end_pieces, expr_parts, exprs_parts, items_pieces, maybe_pieces, source_pieces, on_pieces, from_pieces, distinct_pieces, order_pieces, pieces}
use Rattle.sql_node.specs.Tree.{Form, unboxed, boxed, Expr, column, value, list, count_star, nullable, unary, count, compared, joined, exists, single, among_values, among_rows, Exprs, no_exprs, more_exprs, Items, no_items, more_items, MaybeExpr, no_expr, an_expr, Source, of_table, of_alias, join, From, no_source, from, Distinct, every, distinct, distinct_on, Order, no_order, order_by, Statement, select, combination}
use Rattle.sql_rules.specs.Rules.{IsNotPg}
use Rattle.sql_shape.specs.Shape.{blank, blank_rows, blank_sample, change_expr, change_exprs, change_items, change_maybe, change_source, change_from, change_distinct, change_order, change}
use Rattle.sql_rules_law.proofs.Alike.{Alike, alike-same, alike-append, alike-bind, alike-behind, alike-before, alike-around, AlikeLists, lists-append, commas-alike, AlikeWritten, spread-alike, each-alike, unsafe}

-- ## Values

module _ (many : List Value → List Value) (always : Bool) where
  values-alike : (t : SqlType) (xs ys : List Value) → length xs ≡ length ys
      → AlikeLists many always (map (λ x. one (Bind (OneValue t x))) xs) (map (λ y. one (Bind (OneValue t y))) ys)
  values-alike t [] [] e = tt
  values-alike t [] (y ∷ ys) e = absurd (omega (arith, e))
  values-alike t (x ∷ xs) [] e = absurd (omega (arith, e))
  values-alike t (x ∷ xs) (y ∷ ys) e = (
    alike-bind (OneValue t x) (OneValue t y) refl,
    values-alike t xs ys (let e' : length xs ≡ length ys = omega (arith, e) in e'),
  )

  -- one by one, where lists are as long
  as-long : (d : Dialect) (n : Bool) {p q : List Piece} → Alike many always p q → (t : SqlType) (xs ys : List Value)
      → length xs ≡ length ys → Alike many always (one_by_one d n p t xs) (one_by_one d n q t ys)
  as-long d n h t [] [] e = alike-same _
  as-long d n h t [] (y ∷ ys) e = absurd (omega (arith, e))
  as-long d n h t (x ∷ xs) [] e = absurd (omega (arith, e))
  as-long d n h t (x ∷ xs) (y ∷ ys) e =
      rw (eqb-suc-zero (length xs), eqb-suc-zero (length ys))
      (alike-append (alike-same (one Unsafe)) (alike-append (alike-around (codes "(") (among_sql d n) h)
      (alike-before (codes "))")
      (commas-alike many always true (map (λ x. one (Bind (OneValue t x))) (x ∷ xs))
      (map (λ y. one (Bind (OneValue t y))) (y ∷ ys)) (values-alike t (x ∷ xs) (y ∷ ys) e)))))

-- `many` makes the same of the other lists, and these are as long where that is always asked
module _
    (many : List Value → List Value)
    (always : Bool)
    (v : SqlType → Value → Value)
    (l : SqlType → List Value → List Value)
    (left : (t : SqlType) (xs : List Value) → many (l t xs) ≡ many xs)
    (d : Dialect)
    (kept : IsNotPg d → always ≡ true → (t : SqlType) (xs : List Value) → length (l t xs) ≡ length xs)
  where
    abbrev A : List Piece → List Piece → Type 0
    A = Alike many always

    -- one by one: not safe, whatever the lists
    one-by-one : IsNotPg d → (n : Bool) (p q : List Piece) → A p q → (t : SqlType) (xs : List Value)
        → A (one_by_one d n p t (l t xs)) (one_by_one d n q t xs)
    one-by-one not n p q h t xs =
        record {
          safe = unsafe (nat_eq (length (l t xs)) 0) _ _ ∙ sym (unsafe (nat_eq (length xs) 0) _ _);
          says =
              elim [
                | inl e ↦ (as-long many always d n h t (l t xs) xs (kept not e t xs)).says (inl e)
                | inr s ↦ absurd (false≢true (sym (unsafe (nat_eq (length xs) 0) _ _) ∙ s))
              ];
        }

    among-alike : (n : Bool) (p q : List Piece) → A p q → (t : SqlType) (xs : List Value)
        → A (among_pieces d n p t (l t xs)) (among_pieces d n q t xs)
    among-alike n p q h t xs = go d (λ not. one-by-one not n p q h t xs)
      where
        go : (e : Dialect) → (IsNotPg e → A (one_by_one e n p t (l t xs)) (one_by_one e n q t xs))
            → A (among_pieces e n p t (l t xs)) (among_pieces e n q t xs)
        go Pg k =
            alike-append (alike-around (codes "(") (among_sql Pg n) h)
            (alike-before (codes "))")
            (alike-bind (ManyValues t (l t xs)) (ManyValues t xs) (ap (ManyValues t) (left t xs))))
        go Mysql k = k tt
        go Sqlite k = k tt
        go Bracket k = k tt

    -- ## Numbers

    big-alike : (n : ℤ) → A (one (Bind (of_i64 (blank n)))) (one (Bind (of_i64 n)))
    big-alike n = alike-bind (of_i64 (blank n)) (of_i64 n) refl

    limit-alike : (n : ℤ) → A (limit_pieces (blank n)) (limit_pieces n)
    limit-alike n = alike-behind (codes " LIMIT ") (big-alike n)

    offset-alike : (n : ℤ) → A (offset_pieces (blank n)) (offset_pieces n)
    offset-alike n = alike-behind (codes " OFFSET ") (big-alike n)

    offset_rows-alike : (n : ℤ) → A (offset_rows_pieces (blank n)) (offset_rows_pieces n)
    offset_rows-alike n = alike-behind (codes " OFFSET ") (alike-before (codes " ROWS") (big-alike n))

    fetch-alike : (words : List ℕ) (n : ℤ) → A (fetch_pieces words (blank n)) (fetch_pieces words n)
    fetch-alike words n = alike-behind words (alike-before rows_only (big-alike n))

    limit_alone-alike : (c : Dialect) (l : ℤ) → A (limit_alone c (blank l)) (limit_alone c l)
    limit_alone-alike Pg l = limit-alike l
    limit_alone-alike Mysql l = limit-alike l
    limit_alone-alike Sqlite l = limit-alike l
    limit_alone-alike Bracket l = fetch-alike fetch_from_the_first l

    offset_alone-alike : (c : Dialect) (b : Bool) (o : ℤ) → A (offset_alone c b (blank o)) (offset_alone c b o)
    offset_alone-alike Pg b o = offset-alike o
    offset_alone-alike Mysql false o = offset-alike o
    offset_alone-alike Mysql true o = alike-behind largest_limit (offset-alike o)
    offset_alone-alike Sqlite b o = alike-behind least_limit (offset-alike o)
    offset_alone-alike Bracket b o = offset_rows-alike o

    limit_and_offset-alike : (c : Dialect) (l o : ℤ)
        → A (limit_and_offset c (blank l) (blank o)) (limit_and_offset c l o)
    limit_and_offset-alike Pg l o = alike-append (limit-alike l) (offset-alike o)
    limit_and_offset-alike Mysql l o = alike-append (limit-alike l) (offset-alike o)
    limit_and_offset-alike Sqlite l o = alike-append (limit-alike l) (offset-alike o)
    limit_and_offset-alike Bracket l o = alike-append (offset_rows-alike o) (fetch-alike fetch_next l)

    page-alike : (c : Dialect) (b : Bool) (l o : Option ℤ)
        → A (limit_offset_pieces c b (option_map blank l) (option_map blank o)) (limit_offset_pieces c b l o)
    page-alike c b None None = alike-same []
    page-alike c b None (Some o) = offset_alone-alike c b o
    page-alike c b (Some l) None = limit_alone-alike c l
    page-alike c b (Some l) (Some o) = limit_and_offset-alike c l o

    seed-alike : (s : Option ℤ) → A (seed_pieces (option_map blank s)) (seed_pieces s)
    seed-alike None = alike-same []
    seed-alike (Some n) =
        alike-behind repeatable (alike-before (codes ")") (alike-bind (of_i32 (blank n)) (of_i32 n) refl))

    sample-alike : (s : Option Tablesample)
        → A (pieces_of_option sample_pieces (option_map blank_sample s)) (pieces_of_option sample_pieces s)
    sample-alike None = alike-same []
    sample-alike (Some s) =
        alike-behind (method_open s.method)
        (alike-append (alike-bind (of_i16 (blank s.portion)) (of_i16 s.portion) refl)
        (alike-behind (codes ")") (seed-alike s.seed)))

    end-alike : (c : Dialect) (r : LimitOffsetClause) (k : Form) → A (end_pieces c (blank_rows r) k) (end_pieces c r k)
    end-alike c r (unboxed l) =
        alike-append (page-alike c false r.limit_clause r.offset_clause) (alike-same (locking_pieces l))
    end-alike c r (boxed e n) = page-alike c true r.limit_clause r.offset_clause

    -- ## Nodes

    -- an expression as it is written where no list stands
    in-text : (e : Expr) → AlikeWritten many always (expr_parts d (change_expr v l e)) (expr_parts d e)
        → A (spread true (expr_parts d (change_expr v l e))) (spread true (expr_parts d e))
    in-text e h = spread-alike many always (expr_parts d (change_expr v l e)) (expr_parts d e) h

    mutual
      expr-alike : (e : Expr) → AlikeWritten many always (expr_parts d (change_expr v l e)) (expr_parts d e)
      expr-alike (column o c) = alike-same (leaf_pieces o c)
      expr-alike (value t x) = alike-bind (OneValue t (v t x)) (OneValue t x) refl
      expr-alike (list es) = exprs-alike es
      expr-alike count_star = alike-same _
      expr-alike (nullable e) = expr-alike e
      expr-alike (unary u e) = alike-around (unary_before u) (unary_after u) (in-text e (expr-alike e))
      expr-alike (count e) = alike-around (codes "COUNT(") (codes ")") (in-text e (expr-alike e))
      expr-alike (compared by a b) =
          alike-append (alike-around (codes "(") (comparison_sql by) (in-text a (expr-alike a)))
          (alike-before (codes ")") (in-text b (expr-alike b)))
      expr-alike (joined by a b) =
          alike-append (alike-around (codes "(") (logic_sql by) (in-text a (expr-alike a)))
          (alike-before (codes ")") (in-text b (expr-alike b)))
      expr-alike (exists q) = alike-around (codes "EXISTS (") (codes ")") (pieces-alike q)
      expr-alike (single q) = alike-around (codes "(") (codes ")") (pieces-alike q)
      expr-alike (among_values n e t xs) = among-alike n _ _ (in-text e (expr-alike e)) t xs
      expr-alike (among_rows n e q) =
          alike-append (alike-around (codes "(") (among_sql d n) (in-text e (expr-alike e)))
          (alike-before (codes "))") (pieces-alike q))

      exprs-alike : (es : Exprs) → AlikeLists many always (exprs_parts d (change_exprs v l es)) (exprs_parts d es)
      exprs-alike no_exprs = tt
      exprs-alike (more_exprs e es) =
          lists-append many always (each (expr_parts d (change_expr v l e))) (exprs_parts d (change_exprs v l es))
          (each (expr_parts d e)) (exprs_parts d es)
          (each-alike many always (expr_parts d (change_expr v l e)) (expr_parts d e) (expr-alike e)) (exprs-alike es)

      items-alike : (is : Items) → AlikeLists many always (items_pieces d (change_items v l is)) (items_pieces d is)
      items-alike no_items = tt
      items-alike (more_items e by is) = (
        alike-append (in-text e (expr-alike e))
            (alike-same (direction_pieces by)),
        items-alike is,
      )

      maybe-alike : (before : List ℕ) (e : MaybeExpr)
          → A (maybe_pieces d before (change_maybe v l e)) (maybe_pieces d before e)
      maybe-alike before no_expr = alike-same []
      maybe-alike before (an_expr e) =
          alike-behind before (in-text e (expr-alike e))

      on-alike : (e : MaybeExpr) (x y : List Piece) → A x y → A (on_pieces d x (change_maybe v l e)) (on_pieces d y e)
      on-alike no_expr x y h = h
      on-alike (an_expr e) x y h =
          alike-behind (codes "(")
          (alike-append h
          (alike-around (codes " ON ") (codes ")") (in-text e (expr-alike e))))

      source-alike : (s : Source) → A (source_pieces d (change_source v l s)) (source_pieces d s)
      source-alike (of_table t only sample) =
          alike-append (alike-same (only_pieces only))
          (alike-append (alike-same (table_pieces t)) (sample-alike sample))
      source-alike (of_alias a t) = alike-same (alias_pieces a t)
      source-alike (join k a b on) =
          on-alike on (joined_by (source_pieces d (change_source v l a)) k (source_pieces d (change_source v l b)))
          (joined_by (source_pieces d a) k (source_pieces d b))
          (alike-append (source-alike a) (alike-behind (join_sql k) (source-alike b)))

      from-alike : (f : From) → A (from_pieces d (change_from v l f)) (from_pieces d f)
      from-alike no_source = alike-same []
      from-alike (from s) = alike-behind (codes " FROM ") (source-alike s)

      distinct-alike : (u : Distinct) → A (distinct_pieces d (change_distinct v l u)) (distinct_pieces d u)
      distinct-alike every = alike-same []
      distinct-alike distinct = alike-same _
      distinct-alike (distinct_on e) =
          alike-around distinct_on_open (codes ") ") (in-text e (expr-alike e))

      order-alike : (o : Order) → A (order_pieces d (change_order v l o)) (order_pieces d o)
      order-alike no_order = alike-same []
      order-alike (order_by is) =
          alike-behind order_by_sql
          (commas-alike many always true (items_pieces d (change_items v l is)) (items_pieces d is) (items-alike is))

      pub pieces-alike : (s : Statement) → A (pieces d (change v l s)) (pieces d s)
      pieces-alike (select default e f u w o rows g h form marks) =
          alike-behind (codes "SELECT ")
          (alike-append (distinct-alike u)
          (alike-append (in-text e (expr-alike e))
          (alike-append (from-alike f)
          (alike-append (maybe-alike (codes " WHERE ") w)
          (alike-append (maybe-alike group_by g)
          (alike-append (maybe-alike (codes " HAVING ") h)
          (alike-append (order-alike o) (end-alike d rows form))))))))
      pieces-alike (combination by all a b o rows) =
          alike-append (alike-around (side_open d) (codes ")") (pieces-alike a))
          (alike-behind (combinator_sql by) (alike-append (alike-same (all_pieces all))
          (alike-append (alike-around (side_open d) (codes ")") (pieces-alike b))
          (alike-append (alike-same (positions_pieces o))
          (page-alike d false rows.limit_clause rows.offset_clause)))))
