-- A statement's pieces are safe exactly where the dialect is PostgreSQL or no list of values stands in the statement.
use Rattle.std.proofs.Common.{◌≡◌, ◌↔◌, ℕ, ℤ, Bool, true, false, not, ◌&&◌, ◌||◌, List, [], ◌∷◌, ◌++◌, map, length, Option, Some, None, IsTrue, refl, sym, ap, ◌∙◌, nat_eq, if◌then◌else◌, codes}
use Rattle.std.specs.Bool.{Decides}
use Rattle.std.specs.List.{list_any, list_all}
use Rattle.std.proofs.lemmas.Bool.{false≢true}
use Rattle.std.proofs.lemmas.Bool.Decides.{Decides-or, Decides-not}
use Rattle.std.proofs.lemmas.List.Folds.{list_any-append, list_all-append}
use Rattle.sql_schema.specs.declared.declaration.TableDecl.{TableDecl}
use Rattle.sql_schema.specs.declared.types.SqlType.{SqlType}
use Rattle.sql_dialect.specs.declared.backend.Dialect.{Dialect}
use Rattle.sql_dialect.specs.declared.backend.Dialect.TheVariants.{Pg, Mysql, Sqlite, Bracket}
use Rattle.sql_pass.specs.Commas.{next_of, commas}
use Rattle.sql_pass.specs.Parts.{side, side_open, pieces_of_option}
use Rattle.sql_pass.specs.Paths.{dotted, path_pieces}
use Rattle.sql_pass.specs.Pieces.{Piece, one, Text, Ident, Bind, Unsafe, is_safe}
use Rattle.sql_pass.specs.declared.value.Bound.{Bound}
use Rattle.sql_pass.specs.declared.value.Value.{Value}
use Rattle.sql_pass.proofs.Laws.{is_safe-append}
use Rattle.sql_leaf.specs.Limits.{limit_pieces, offset_pieces, offset_rows_pieces, fetch_pieces, fetch_from_the_first, fetch_next, limit_alone, offset_alone, limit_and_offset, limit_offset_pieces}
use Rattle.sql_leaf.specs.Locks.{locking_pieces, modifier_pieces}
use Rattle.sql_leaf.specs.Positions.{direction_pieces, position_pieces}
use Rattle.sql_leaf.specs.Sources.{alias_pieces, only_pieces, seed_pieces, sample_pieces, table_source_pieces}
use Rattle.sql_leaf.specs.declared.limit_offset.LimitOffsetClause.{LimitOffsetClause}
use Rattle.sql_leaf.specs.declared.locking.LockingClause.{LockingClause}
use Rattle.sql_leaf.specs.declared.locking.LockingClause.TheVariants as lock
use Rattle.sql_leaf.specs.declared.locking.Modifier.{Modifier}
use Rattle.sql_leaf.specs.declared.locking.Modifier.TheVariants as modifier
use Rattle.sql_leaf.specs.declared.position.Direction.{Direction}
use Rattle.sql_leaf.specs.declared.position.Direction.TheVariants as direction
use Rattle.sql_leaf.specs.declared.position.PositionalItem.{PositionalItem}
use Rattle.sql_leaf.specs.declared.table_source.JoinKind.{JoinKind}
use Rattle.sql_leaf.specs.declared.table_source.Tablesample.{Tablesample}
use Rattle.sql_dialect.specs.declared.combination.DuplicateRule.{DuplicateRule}
use Rattle.sql_dialect.specs.declared.combination.DuplicateRule.TheVariants.{Distinct as DistinctRows, All}
use Rattle.sql_leaf.specs.Operators.{comparison_sql, logic_sql}
use Rattle.sql_leaf.specs.Words.{join_sql, among_sql, order_by_sql, group_by, combinator_sql}
use Rattle.sql_node.specs.Pieces.{Written, alone, many, each, spread, around, infix_of, among_pieces, joined_by, all_pieces, positions_pieces, end_pieces, origin_pieces, expr_parts, exprs_parts, items_pieces, maybe_pieces, source_pieces, on_pieces, from_pieces, distinct_pieces, order_pieces, pieces}
use Rattle.sql_node.specs.Tree.{Form, unboxed, boxed, Expr, column, value, list, count_star, nullable, unary, count, compared, joined, exists, single, among_values, among_rows, Exprs, no_exprs, more_exprs, Items, no_items, more_items, MaybeExpr, no_expr, an_expr, Source, of_table, of_alias, join, From, no_source, from, Distinct, every, distinct, distinct_on, Order, no_order, order_by, Statement, select, combination}
use Rattle.sql_rules.specs.Lists.{AnyOf}
use Rattle.sql_rules.specs.Safety.{IsAmongValues, IsSafeIn, is_among_values, clause_holds_value_list, part_holds_value_list, is_pg, is_safe_in}
use Rattle.sql_rules.specs.Scope.{View, origins, origins_of, widest, Part, a_select, a_combination, parts, in_expr, in_exprs, in_items, in_maybe, in_source, in_from, in_distinct, in_order, Place, in_selection, in_distinct_on, in_on, in_where, in_group_by, in_having, in_order_by, maybe_clause, ons, ons_of, distinct_clause, item_clauses, order_clauses, clauses, nodes, nodes_of, AnyExprIn}
use Rattle.sql_rules.proofs.Loops.{any-decides}
use Rattle.sql_shape.specs.Shape.{shape}
use Rattle.sql_rules_law.proofs.OneText.{safe}

-- ## Pieces that are safe whatever the dialect

pub record Quiet (ps : List Piece) : Type 0 where
  pub says : is_safe ps ≡ true

quiet-none : Quiet []
quiet-none = record { says = refl }

quiet-text : (t : List ℕ) → Quiet (one (Text t))
unfolding one
quiet-text t = record { says = refl }

quiet-ident : (t : List ℕ) → Quiet (one (Ident t))
unfolding one
quiet-ident t = record { says = refl }

quiet-bind : (b : Bound) → Quiet (one (Bind b))
unfolding one
quiet-bind b = record { says = refl }

and-so : (a b : Bool) → a ≡ true → b ≡ true → (a && b) ≡ true
and-so a b h k = (λ i. h i && k i)

quiet-append : {ps qs : List Piece} → Quiet ps → Quiet qs → Quiet (ps ++ qs)
quiet-append {ps} {qs} h k =
    record { says = is_safe-append ps qs ∙ and-so (is_safe ps) (is_safe qs) h.says k.says }

quiet-dotted : (name : List ℕ) → Quiet (dotted name)
quiet-dotted name = quiet-append (quiet-text (codes ".")) (quiet-ident name)

quiet-path : (schema : Option (List ℕ)) (name : List ℕ) → Quiet (path_pieces schema name)
quiet-path None name = quiet-ident name
quiet-path (Some s) name = quiet-append (quiet-ident s) (quiet-dotted name)

quiet-origin : (a : Option (List ℕ)) (t : TableDecl) → Quiet (origin_pieces a t)
quiet-origin None t = quiet-path t.schema t.sql_name
quiet-origin (Some a) t = quiet-ident a

quiet-direction : (by : Direction) → Quiet (direction_pieces by)
quiet-direction direction.None = quiet-none
quiet-direction direction.Asc = quiet-text _
quiet-direction direction.Desc = quiet-text _

quiet-limit : (n : ℤ) → Quiet (limit_pieces n)
quiet-limit n = quiet-append (quiet-text _) (quiet-bind _)

quiet-offset : (n : ℤ) → Quiet (offset_pieces n)
quiet-offset n = quiet-append (quiet-text _) (quiet-bind _)

quiet-offset_rows : (n : ℤ) → Quiet (offset_rows_pieces n)
quiet-offset_rows n = quiet-append (quiet-text _) (quiet-append (quiet-bind _) (quiet-text _))

quiet-fetch : (words : List ℕ) (n : ℤ) → Quiet (fetch_pieces words n)
quiet-fetch words n = quiet-append (quiet-text _) (quiet-append (quiet-bind _) (quiet-text _))

quiet-limit_alone : (d : Dialect) (l : ℤ) → Quiet (limit_alone d l)
quiet-limit_alone Pg l = quiet-limit l
quiet-limit_alone Mysql l = quiet-limit l
quiet-limit_alone Sqlite l = quiet-limit l
quiet-limit_alone Bracket l = quiet-fetch fetch_from_the_first l

quiet-offset_alone : (d : Dialect) (b : Bool) (o : ℤ) → Quiet (offset_alone d b o)
quiet-offset_alone Pg b o = quiet-offset o
quiet-offset_alone Mysql false o = quiet-offset o
quiet-offset_alone Mysql true o = quiet-append (quiet-text _) (quiet-offset o)
quiet-offset_alone Sqlite b o = quiet-append (quiet-text _) (quiet-offset o)
quiet-offset_alone Bracket b o = quiet-offset_rows o

quiet-limit_and_offset : (d : Dialect) (l o : ℤ) → Quiet (limit_and_offset d l o)
quiet-limit_and_offset Pg l o = quiet-append (quiet-limit l) (quiet-offset o)
quiet-limit_and_offset Mysql l o = quiet-append (quiet-limit l) (quiet-offset o)
quiet-limit_and_offset Sqlite l o = quiet-append (quiet-limit l) (quiet-offset o)
quiet-limit_and_offset Bracket l o = quiet-append (quiet-offset_rows o) (quiet-fetch fetch_next l)

quiet-page : (d : Dialect) (b : Bool) (l o : Option ℤ) → Quiet (limit_offset_pieces d b l o)
quiet-page d b None None = quiet-none
quiet-page d b None (Some o) = quiet-offset_alone d b o
quiet-page d b (Some l) None = quiet-limit_alone d l
quiet-page d b (Some l) (Some o) = quiet-limit_and_offset d l o

quiet-modifier : (m : Modifier) → Quiet (modifier_pieces m)
quiet-modifier modifier.NoModifier = quiet-none
quiet-modifier modifier.SkipLocked = quiet-text _
quiet-modifier modifier.NoWait = quiet-text _

quiet-lock : (l : LockingClause) → Quiet (locking_pieces l)
quiet-lock lock.NoLockingClause = quiet-none
quiet-lock (lock.LockingClause m w) = quiet-append (quiet-text _) (quiet-modifier w)

quiet-end : (d : Dialect) (r : LimitOffsetClause) (f : Form) → Quiet (end_pieces d r f)
quiet-end d r (unboxed l) = quiet-append (quiet-page d false r.limit_clause r.offset_clause) (quiet-lock l)
quiet-end d r (boxed e n) = quiet-page d true r.limit_clause r.offset_clause

quiet-seed : (s : Option ℤ) → Quiet (seed_pieces s)
quiet-seed None = quiet-none
quiet-seed (Some n) = quiet-append (quiet-text _) (quiet-append (quiet-bind _) (quiet-text _))

quiet-sample : (s : Option Tablesample) → Quiet (pieces_of_option sample_pieces s)
quiet-sample None = quiet-none
quiet-sample (Some s) =
    quiet-append (quiet-text _) (quiet-append (quiet-bind _) (quiet-append (quiet-text _) (quiet-seed s.seed)))

quiet-only : (b : Bool) → Quiet (only_pieces b)
quiet-only false = quiet-none
quiet-only true = quiet-text _

quiet-table : (t : TableDecl) (only : Bool) (s : Option Tablesample) → Quiet (table_source_pieces t only s)
quiet-table t only s =
    quiet-append (quiet-only only) (quiet-append (quiet-path t.schema t.sql_name) (quiet-sample s))

quiet-alias : (a : List ℕ) (t : TableDecl) → Quiet (alias_pieces a t)
quiet-alias a t = quiet-append (quiet-path t.schema t.sql_name) (quiet-append (quiet-text _) (quiet-ident a))

quiet-all : (all : DuplicateRule) → Quiet (all_pieces all)
quiet-all DistinctRows = quiet-none
quiet-all All = quiet-text _

-- ## Commas

-- a list in which each is safe
abbrev each_safe : List (List Piece) → Bool
each_safe xs = list_all is_safe xs

and-true : (b : Bool) → (b && true) ≡ b
and-true true = refl
and-true false = refl

quiet-before : {ps : List Piece} (qs : List Piece) → Quiet ps → is_safe (ps ++ qs) ≡ is_safe qs
quiet-before {ps} qs h = is_safe-append ps qs ∙ ap (λ b. b && is_safe qs) h.says

quiet-after : (ps : List Piece) {qs : List Piece} → Quiet qs → is_safe (ps ++ qs) ≡ is_safe ps
quiet-after ps {qs} h = is_safe-append ps qs ∙ ap (λ b. is_safe ps && b) h.says ∙ and-true (is_safe ps)

next-safe : (first : Bool) (x : List Piece) → is_safe (next_of first x) ≡ is_safe x
next-safe true x = refl
next-safe false x = quiet-before x (quiet-text _)

commas-safe : (first : Bool) (xs : List (List Piece)) → is_safe (commas first xs) ≡ each_safe xs
commas-safe first [] = refl
commas-safe first (x ∷ xs) =
    is_safe-append (next_of first x) (commas false xs) ∙ (λ i. next-safe first x i && commas-safe false xs i)

spread-safe : (w : Written) → is_safe (spread true w) ≡ each_safe (each w)
spread-safe (alone x) = sym (and-true (is_safe x))
spread-safe (many xs) = commas-safe true xs

around-safe : (before : List ℕ) (x : List Piece) (behind : List ℕ) → is_safe (around before x behind) ≡ is_safe x
around-safe before x behind = quiet-before (x ++ one (Text behind)) (quiet-text before) ∙ quiet-after x (quiet-text behind)

infix-safe : (x : List Piece) (middle : List ℕ) (y : List Piece)
    → is_safe (infix_of x middle y) ≡ (is_safe x && is_safe y)
infix-safe x middle y =
    is_safe-append (around (codes "(") x middle) (y ++ one (Text (codes ")")))
    ∙ (λ i. around-safe (codes "(") x middle i && quiet-after y (quiet-text (codes ")")) i)

positions-quiet : (ps : List PositionalItem)
    → each_safe (map (λ p. position_pieces p.column p.direction) ps) ≡ true
positions-quiet [] = refl
positions-quiet (p ∷ ps) =
    and-so _ _ (quiet-append (quiet-text _) (quiet-direction p.direction)).says (positions-quiet ps)

quiet-positions : (o : Option (List PositionalItem)) → Quiet (positions_pieces o)
quiet-positions None = quiet-none
quiet-positions (Some ps) =
    quiet-append (quiet-text order_by_sql) (record { says = commas-safe true (map (λ p. position_pieces p.column p.direction) ps) ∙ positions-quiet ps })

-- ## Tests over two lists

-- what is safe, says whether there is no list of values: among some nodes or clauses, and in the statements inside
abbrev Says : {X : Type 0} → (X → Bool) → Dialect → Bool → List X → List Part → Type 0
Says test d s xs ps = s ≡ (is_pg d || not (list_any test xs || list_any part_holds_value_list ps))

or-true : (b : Bool) → true ≡ (b || true)
or-true true = refl
or-true false = refl

or-false : (b : Bool) → b ≡ (b || false)
or-false true = refl
or-false false = refl

nothing : (d : Dialect) → true ≡ (is_pg d || true)
nothing d = or-true (is_pg d)

both-flags : (p x y a b : Bool)
    → ((p || not (x || y)) && (p || not (a || b))) ≡ (p || not ((x || a) || (y || b)))
both-flags true x y a b = refl
both-flags false true y a b = refl
both-flags false false true true b = refl
both-flags false false true false b = refl
both-flags false false false a b = refl

flags-in : (p x y b : Bool) → ((p || not (x || y)) && (p || not b)) ≡ (p || not (x || (y || b)))
flags-in true x y b = refl
flags-in false true y b = refl
flags-in false false true b = refl
flags-in false false false b = refl

zip : {X : Type 0} (test : X → Bool) (d : Dialect) (s t : Bool) (xs ys : List X) (ps qs : List Part)
    → Says test d s xs ps → Says test d t ys qs → Says test d (s && t) (xs ++ ys) (ps ++ qs)
zip test d s t xs ys ps qs h k =
    (λ i. h i && k i)
    ∙ both-flags (is_pg d) (list_any test xs) (list_any part_holds_value_list ps) (list_any test ys)
    (list_any part_holds_value_list qs)
    ∙ (λ i. is_pg d
    || not (sym (list_any-append test xs ys) i || sym (list_any-append part_holds_value_list ps qs) i))

-- the second has no nodes of its own
zip-inside : {X : Type 0} (test : X → Bool) (d : Dialect) (s t : Bool) (xs : List X) (ps qs : List Part)
    → Says test d s xs ps → t ≡ (is_pg d || not (list_any part_holds_value_list qs))
    → Says test d (s && t) xs (ps ++ qs)
zip-inside test d s t xs ps qs h k =
    (λ i. h i && k i)
    ∙ flags-in (is_pg d) (list_any test xs) (list_any part_holds_value_list ps) (list_any part_holds_value_list qs)
    ∙ (λ i. is_pg d || not (list_any test xs || sym (list_any-append part_holds_value_list ps qs) i))

-- the same of pieces, one after the other
record Safely {X : Type 0} (test : X → Bool) (d : Dialect) (a : List Piece) (xs : List X) (ps : List Part) : Type 0 where
  pub says : Says test d (is_safe a) xs ps

both : {X : Type 0} {test : X → Bool} {d : Dialect} {a b : List Piece} {xs ys : List X} {ps qs : List Part}
    → Safely test d a xs ps → Safely test d b ys qs → Safely test d (a ++ b) (xs ++ ys) (ps ++ qs)
both {X} {test} {d} {a} {b} {xs} {ys} {ps} {qs} h k =
    record { says = is_safe-append a b ∙ zip test d (is_safe a) (is_safe b) xs ys ps qs h.says k.says }

behind : {X : Type 0} {test : X → Bool} {d : Dialect} {a b : List Piece} {xs : List X} {ps : List Part}
    → Quiet a → Safely test d b xs ps → Safely test d (a ++ b) xs ps
behind {X} {test} {d} {a} {b} h k = record { says = quiet-before b h ∙ k.says }

before : {X : Type 0} {test : X → Bool} {d : Dialect} {a b : List Piece} {xs : List X} {ps : List Part}
    → Safely test d a xs ps → Quiet b → Safely test d (a ++ b) xs ps
before {X} {test} {d} {a} {b} h k = record { says = quiet-after a k ∙ h.says }

-- an expression's nodes, in a clause
as-clause : (d : Dialect) (s : Bool) (p : Place) (v : View) (e : Expr) (ps : List Part)
    → Says is_among_values d s (nodes e) ps
    → Says clause_holds_value_list d s (record { place = p; view = v; expr = e } ∷ []) ps
as-clause d s p v e ps h =
    h
    ∙ ap (λ x. is_pg d || not (x || list_any part_holds_value_list ps)) (or-false (list_any is_among_values (nodes e)))

-- ## Values

unsafe-if : (b : Bool) (ps qs : List Piece) → is_safe (if b then (one Unsafe ++ ps) else (one Unsafe ++ qs)) ≡ false
unfolding one
unsafe-if true ps qs = refl
unsafe-if false ps qs = refl

among-safe : (d : Dialect) (n : Bool) (x : List Piece) (t : SqlType) (vs : List Value) (b : Bool)
    → is_safe x ≡ (is_pg d || not b) → is_safe (among_pieces d n x t vs) ≡ (is_pg d || false)
among-safe Pg n x t vs b h =
    quiet-after (around (codes "(") x (among_sql Pg n)) (quiet-append (quiet-bind _) (quiet-text _))
    ∙ around-safe (codes "(") x (among_sql Pg n) ∙ h
among-safe Mysql n x t vs b h = unsafe-if (nat_eq (length vs) 0) _ _
among-safe Sqlite n x t vs b h = unsafe-if (nat_eq (length vs) 0) _ _
among-safe Bracket n x t vs b h = unsafe-if (nat_eq (length vs) 0) _ _

-- ## Nodes

inside : (d : Dialect) (v : View) (e : Expr)
    → Says is_among_values d (each_safe (each (expr_parts d e))) (nodes e) (in_expr v e)
    → Says is_among_values d (is_safe (spread true (expr_parts d e))) (nodes e) (in_expr v e)
inside d v e h = spread-safe (expr_parts d e) ∙ h

in-clause : (d : Dialect) (p : Place) (v : View) (e : Expr)
    → Says is_among_values d (each_safe (each (expr_parts d e))) (nodes e) (in_expr v e)
    → Says clause_holds_value_list d (is_safe (spread true (expr_parts d e)))
    (record { place = p; view = v; expr = e } ∷ []) (in_expr v e)
in-clause d p v e h = as-clause d (is_safe (spread true (expr_parts d e))) p v e (in_expr v e) (inside d v e h)

mutual
  expr-says : (d : Dialect) (v : View) (e : Expr)
      → Says is_among_values d (each_safe (each (expr_parts d e))) (nodes e) (in_expr v e)
  expr-says d v (column o c) =
      and-true _ ∙ (quiet-append (quiet-origin o.alias o.table) (quiet-dotted c.sql_name)).says ∙ nothing d
  expr-says d v (value t x) = and-true _ ∙ (quiet-bind _).says ∙ nothing d
  expr-says d v (list es) = exprs-says d v es
  expr-says d v count_star = and-true _ ∙ (quiet-text _).says ∙ nothing d
  expr-says d v (nullable e) = expr-says d v e
  expr-says d v (unary n e) = and-true _ ∙ around-safe _ _ _ ∙ inside d v e (expr-says d v e)
  expr-says d v (count e) = and-true _ ∙ around-safe _ _ _ ∙ inside d v e (expr-says d v e)
  expr-says d v (compared by a b) =
      and-true _ ∙ infix-safe (spread true (expr_parts d a)) (comparison_sql by) (spread true (expr_parts d b))
      ∙ zip is_among_values d (is_safe (spread true (expr_parts d a))) (is_safe (spread true (expr_parts d b)))
      (nodes a) (nodes b) (in_expr v a) (in_expr v b) (inside d v a (expr-says d v a)) (inside d v b (expr-says d v b))
  expr-says d v (joined by a b) =
      and-true _ ∙ infix-safe (spread true (expr_parts d a)) (logic_sql by) (spread true (expr_parts d b))
      ∙ zip is_among_values d (is_safe (spread true (expr_parts d a))) (is_safe (spread true (expr_parts d b)))
      (nodes a) (nodes b) (in_expr v a) (in_expr v b) (inside d v a (expr-says d v a)) (inside d v b (expr-says d v b))
  expr-says d v (exists q) = and-true _ ∙ around-safe _ _ _ ∙ statement-says d v q
  expr-says d v (single q) = and-true _ ∙ around-safe _ _ _ ∙ statement-says d v q
  expr-says d v (among_values n e t xs) =
      and-true _
      ∙ among-safe d n (spread true (expr_parts d e)) t xs
      (list_any is_among_values (nodes e) || list_any part_holds_value_list (in_expr v e)) (inside d v e (expr-says d v e))
  expr-says d v (among_rows n e q) =
      and-true _
      ∙ is_safe-append (around (codes "(") (spread true (expr_parts d e)) (among_sql d n))
      (pieces d q ++ one (Text (codes "))")))
      ∙ (λ i. around-safe (codes "(") (spread true (expr_parts d e)) (among_sql d n) i
      && quiet-after (pieces d q) (quiet-text (codes "))")) i)
      ∙ zip-inside is_among_values d (is_safe (spread true (expr_parts d e))) (is_safe (pieces d q)) (nodes e)
      (in_expr v e) (parts v q) (inside d v e (expr-says d v e)) (statement-says d v q)

  exprs-says : (d : Dialect) (v : View) (es : Exprs)
      → Says is_among_values d (each_safe (exprs_parts d es)) (nodes_of es) (in_exprs v es)
  exprs-says d v no_exprs = nothing d
  exprs-says d v (more_exprs e es) =
      list_all-append is_safe (each (expr_parts d e)) (exprs_parts d es)
      ∙ zip is_among_values d (each_safe (each (expr_parts d e))) (each_safe (exprs_parts d es)) (nodes e)
      (nodes_of es) (in_expr v e) (in_exprs v es) (expr-says d v e) (exprs-says d v es)

  items-says : (d : Dialect) (v : View) (is : Items)
      → Says clause_holds_value_list d (each_safe (items_pieces d is)) (item_clauses v is) (in_items v is)
  items-says d v no_items = nothing d
  items-says d v (more_items e by is) =
      ap (λ b. b && each_safe (items_pieces d is)) (quiet-after (spread true (expr_parts d e)) (quiet-direction by))
      ∙ zip clause_holds_value_list d (is_safe (spread true (expr_parts d e))) (each_safe (items_pieces d is))
      (record { place = in_order_by; view = v; expr = e } ∷ []) (item_clauses v is) (in_expr v e) (in_items v is)
      (in-clause d in_order_by v e (expr-says d v e)) (items-says d v is)

  maybe-says : (d : Dialect) (before : List ℕ) (p : Place) (v : View) (w : MaybeExpr)
      → Says clause_holds_value_list d (is_safe (maybe_pieces d before w)) (maybe_clause p v w) (in_maybe v w)
  maybe-says d before p v no_expr = nothing d
  maybe-says d before p v (an_expr e) =
      quiet-before (spread true (expr_parts d e)) (quiet-text before) ∙ in-clause d p v e (expr-says d v e)

  source-says : (d : Dialect) (s : Source)
      → Says clause_holds_value_list d (is_safe (source_pieces d s)) (ons s) (in_source s)
  source-says d (of_table t only sample) = (quiet-table t only sample).says ∙ nothing d
  source-says d (of_alias a t) = (quiet-alias a t).says ∙ nothing d
  source-says d (join k l r on) =
      on-safe d (joined_by (source_pieces d l) k (source_pieces d r)) on
      ∙ ap (λ b. b && is_safe (maybe_pieces d (codes " ON ") on)) (joined-safe (source_pieces d l) k (source_pieces d r))
      ∙ and-and (is_safe (source_pieces d l)) (is_safe (source_pieces d r)) (is_safe (maybe_pieces d (codes " ON ") on))
      ∙ zip clause_holds_value_list d (is_safe (source_pieces d l))
      (is_safe (source_pieces d r) && is_safe (maybe_pieces d (codes " ON ") on)) (ons l)
      (ons r ++ maybe_clause in_on (origins l ++ origins r) on) (in_source l)
      (in_source r ++ in_maybe (origins l ++ origins r) on) (source-says d l)
      (zip clause_holds_value_list d (is_safe (source_pieces d r)) (is_safe (maybe_pieces d (codes " ON ") on)) (ons r)
      (maybe_clause in_on (origins l ++ origins r) on) (in_source r) (in_maybe (origins l ++ origins r) on)
      (source-says d r) (maybe-says d (codes " ON ") in_on (origins l ++ origins r) on))
    where
      and-and : (a b c : Bool) → ((a && b) && c) ≡ (a && (b && c))
      and-and true b c = refl
      and-and false b c = refl

      joined-safe : (x : List Piece) (k : JoinKind) (y : List Piece)
          → is_safe (joined_by x k y) ≡ (is_safe x && is_safe y)
      joined-safe x k y =
          is_safe-append x (one (Text (join_sql k)) ++ y)
          ∙ ap (λ b. is_safe x && b) (quiet-before y (quiet-text (join_sql k)))

      on-safe : (d : Dialect) (x : List Piece) (on : MaybeExpr)
          → is_safe (on_pieces d x on) ≡ (is_safe x && is_safe (maybe_pieces d (codes " ON ") on))
      on-safe d x no_expr = sym (and-true (is_safe x))
      on-safe d x (an_expr e) =
          quiet-before (x ++ around (codes " ON ") (spread true (expr_parts d e)) (codes ")")) (quiet-text (codes "("))
          ∙ is_safe-append x (around (codes " ON ") (spread true (expr_parts d e)) (codes ")"))
          ∙ ap (λ b. is_safe x && b)
          (around-safe (codes " ON ") (spread true (expr_parts d e)) (codes ")")
          ∙ sym (quiet-before (spread true (expr_parts d e)) (quiet-text (codes " ON "))))

  from-says : (d : Dialect) (f : From)
      → Says clause_holds_value_list d (is_safe (from_pieces d f)) (ons_of f) (in_from f)
  from-says d no_source = nothing d
  from-says d (from s) = quiet-before (source_pieces d s) (quiet-text (codes " FROM ")) ∙ source-says d s

  distinct-says : (d : Dialect) (v : View) (u : Distinct)
      → Says clause_holds_value_list d (is_safe (distinct_pieces d u)) (distinct_clause v u) (in_distinct v u)
  distinct-says d v every = nothing d
  distinct-says d v distinct = (quiet-text _).says ∙ nothing d
  distinct-says d v (distinct_on e) = around-safe _ _ _ ∙ in-clause d in_distinct_on v e (expr-says d v e)

  order-says : (d : Dialect) (v : View) (o : Order)
      → Says clause_holds_value_list d (is_safe (order_pieces d o)) (order_clauses v o) (in_order v o)
  order-says d v no_order = nothing d
  order-says d v (order_by is) =
      quiet-before (commas true (items_pieces d is)) (quiet-text order_by_sql) ∙ commas-safe true (items_pieces d is)
      ∙ items-says d v is

  statement-says : (d : Dialect) (v : View) (s : Statement)
      → is_safe (pieces d s) ≡ (is_pg d || not (list_any part_holds_value_list (parts v s)))
  statement-says d v (select default e f u w o rows g h form marks) =
      let own = origins_of f in
      let wide = widest form f v in
      let distincts : Safely clause_holds_value_list d (distinct_pieces d u) (distinct_clause own u) (in_distinct own u) =
      record { says = distinct-says d own u } in
      let selected : Safely clause_holds_value_list d (spread true (expr_parts d e))
      (record { place = in_selection; view = own; expr = e } ∷ []) (in_expr own e) =
      record { says = in-clause d in_selection own e (expr-says d own e) } in
      let sources : Safely clause_holds_value_list d (from_pieces d f) (ons_of f) (in_from f) =
      record { says = from-says d f } in
      let wheres : Safely clause_holds_value_list d (maybe_pieces d (codes " WHERE ") w) (maybe_clause in_where wide w)
      (in_maybe wide w) = record { says = maybe-says d (codes " WHERE ") in_where wide w } in
      let groups : Safely clause_holds_value_list d (maybe_pieces d group_by g) (maybe_clause in_group_by own g)
      (in_maybe own g) = record { says = maybe-says d group_by in_group_by own g } in
      let havings : Safely clause_holds_value_list d (maybe_pieces d (codes " HAVING ") h) (maybe_clause in_having own h)
      (in_maybe own h) = record { says = maybe-says d (codes " HAVING ") in_having own h } in
      let orders : Safely clause_holds_value_list d (order_pieces d o) (order_clauses own o) (in_order own o) =
      record { says = order-says d own o } in
      (behind (quiet-text (codes "SELECT "))
      (both distincts (both selected (both sources (both wheres (both groups (both havings
      (before orders (quiet-end d rows form))))))))).says
  statement-says d v (combination by all a b o rows) =
      let left : Safely part_holds_value_list d (side d (pieces d a)) [] (parts v a) =
      behind (quiet-text (side_open d)) (before (record { says = statement-says d v a }) (quiet-text (codes ")"))) in
      let right : Safely part_holds_value_list d (side d (pieces d b)) [] (parts v b) =
      behind (quiet-text (side_open d)) (before (record { says = statement-says d v b }) (quiet-text (codes ")"))) in
      (both left (behind (quiet-text (combinator_sql by)) (behind (quiet-all all)
      (before right
      (quiet-append (quiet-positions o) (quiet-page d false rows.limit_clause rows.offset_clause)))))).says

pub test : (d : Dialect) (s : Statement) → is_safe_in d s ≡ is_safe (pieces d s)
test d s = sym (statement-says d [] s)

-- ## The test says what it has to

among-decides : (v : View) (e : Expr) → Decides (is_among_values e) (IsAmongValues v e)
among-decides v (among_values n e t xs) = (λ h. tt, λ h. refl)
among-decides v (column o c) = (λ h. absurd (false≢true h), λ h. absurd h)
among-decides v (value t x) = (λ h. absurd (false≢true h), λ h. absurd h)
among-decides v (list es) = (λ h. absurd (false≢true h), λ h. absurd h)
among-decides v count_star = (λ h. absurd (false≢true h), λ h. absurd h)
among-decides v (nullable e) = (λ h. absurd (false≢true h), λ h. absurd h)
among-decides v (unary n e) = (λ h. absurd (false≢true h), λ h. absurd h)
among-decides v (count e) = (λ h. absurd (false≢true h), λ h. absurd h)
among-decides v (compared by a b) = (λ h. absurd (false≢true h), λ h. absurd h)
among-decides v (joined by a b) = (λ h. absurd (false≢true h), λ h. absurd h)
among-decides v (exists q) = (λ h. absurd (false≢true h), λ h. absurd h)
among-decides v (single q) = (λ h. absurd (false≢true h), λ h. absurd h)
among-decides v (among_rows n e q) = (λ h. absurd (false≢true h), λ h. absurd h)

part-decides : (p : Part) → Decides (part_holds_value_list p) (AnyExprIn IsAmongValues p)
part-decides (a_select outer s) =
    any-decides (λ c. AnyOf (IsAmongValues c.view) (nodes c.expr)) clause_holds_value_list
    (λ c. any-decides (IsAmongValues c.view) is_among_values (among-decides c.view) (nodes c.expr)) (clauses outer s)
part-decides (a_combination c) = (λ h. absurd (false≢true h), λ h. absurd h)

pg-decides : (d : Dialect) → Decides (is_pg d) (d ≡ Pg)
pg-decides Pg = (λ h. refl, λ h. refl)
pg-decides Mysql = (λ h. absurd (false≢true h), λ e. absurd (false≢true (ap is_pg e)))
pg-decides Sqlite = (λ h. absurd (false≢true h), λ e. absurd (false≢true (ap is_pg e)))
pg-decides Bracket = (λ h. absurd (false≢true h), λ e. absurd (false≢true (ap is_pg e)))

decides : (d : Dialect) (s : Statement) → Decides (is_safe_in d s) (IsSafeIn d s)
decides d s =
    Decides-or (is_pg d) (not (list_any part_holds_value_list (parts [] s))) (pg-decides d)
    (Decides-not (list_any part_holds_value_list (parts [] s))
    (any-decides (AnyExprIn IsAmongValues) part_holds_value_list part-decides (parts [] s)))

pub says : (d : Dialect) (s : Statement) → IsTrue (is_safe (pieces d s)) ↔ IsSafeIn d s
says d s = (λ h. (decides d s).0 (test d s ∙ h), λ h. sym (test d s) ∙ (decides d s).1 h)

pub safe_alike : (d : Dialect) (a b : Statement) → shape a ≡ shape b → is_safe_in d a ≡ is_safe_in d b
safe_alike d a b h = test d a ∙ safe d a b h ∙ sym (test d b)
