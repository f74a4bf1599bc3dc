-- The pieces of each node (diesel, `QueryFragment::walk_ast`; PostgreSQL, SELECT).
use Rattle.std.specs.Prelude.{ℕ, ℤ, Bool, true, false, Option, Some, None, List, [], ◌∷◌, ◌++◌, map, length, nat_eq, if◌then◌else◌, codes}
use Rattle.sql_schema.specs.declared.declaration.ColumnDecl.{ColumnDecl}
use Rattle.sql_schema.specs.declared.declaration.TableDecl.{TableDecl}
use Rattle.sql_schema.specs.declared.types.SqlType.{SqlType}
use Rattle.sql_dialect.specs.declared.backend.Dialect.{Dialect}
use Rattle.sql_dialect.specs.declared.combination.Combinator.{Combinator}
use Rattle.sql_dialect.specs.declared.combination.DuplicateRule.{DuplicateRule}
use Rattle.sql_dialect.specs.declared.combination.DuplicateRule.TheVariants.{Distinct as DistinctRows, All}
use Rattle.sql_dialect.specs.Syntax.{array}
use Rattle.sql_dialect.specs.declared.syntax.ArrayComparison.{ArrayComparison}
use Rattle.sql_dialect.specs.declared.syntax.ArrayComparison.TheVariants.{AnsiSqlArrayComparison, PgStyleArrayComparison}
use Rattle.sql_pass.specs.Commas.{next_of, commas}
use Rattle.sql_pass.specs.Parts.{side}
use Rattle.sql_pass.specs.Paths.{dotted, table_pieces}
use Rattle.sql_pass.specs.Pieces.{Piece, one, Text, Ident, Bind, Unsafe}
use Rattle.sql_pass.specs.declared.value.Bound.TheVariants.{Value as OneValue, List as ManyValues}
use Rattle.sql_pass.specs.declared.value.Value.{Value}
use Rattle.sql_leaf.specs.Limits.{limit_offset_pieces}
use Rattle.sql_leaf.specs.Locks.{locking_pieces}
use Rattle.sql_leaf.specs.Positions.{direction_pieces, position_pieces}
use Rattle.sql_leaf.specs.Sources.{alias_pieces, table_source_pieces}
use Rattle.sql_leaf.specs.declared.limit_offset.LimitOffsetClause.{LimitOffsetClause}
use Rattle.sql_leaf.specs.declared.position.PositionalItem.{PositionalItem}
use Rattle.sql_leaf.specs.declared.table_source.JoinKind.{JoinKind}
use Rattle.sql_leaf.specs.Words.{among_sql, constant_sql, join_sql, combinator_sql, distinct_on_open, group_by, order_by_sql}
use Rattle.sql_leaf.specs.Operators.{unary_before, unary_after, comparison_sql, logic_sql}
use Rattle.sql_node.specs.Tree.{Origin, Form, unboxed, boxed, Expr, column, value, list, count_star, nullable, unary, count, compared, joined, exists, single, among_values, among_rows, Exprs, no_exprs, more_exprs, Items, no_items, more_items, MaybeExpr, no_expr, an_expr, Source, of_table, of_alias, join, From, no_source, from, Distinct, every, distinct, distinct_on, Order, no_order, order_by, Statement, select, combination}
use Rattle.sql_node.specs.View.{Item, Sides, Among, among_list, among_query}

-- ---- parts

-- how the columns of a table are named, or those of an alias
abbrev pub origin_pieces : Option (List ℕ) → TableDecl → List Piece
origin_pieces None t = table_pieces t
origin_pieces (Some a) t = one (Ident a)

-- `"users"."id"`, or `"u2"."id"` of an alias
abbrev pub leaf_pieces : Origin → ColumnDecl → List Piece
leaf_pieces o c = origin_pieces o.alias o.table ++ dotted c.sql_name

abbrev pub around : List ℕ → List Piece → List ℕ → List Piece
around before x after = one (Text before) ++ (x ++ one (Text after))

-- `(a = b)`
abbrev pub infix_of : List Piece → List ℕ → List Piece → List Piece
infix_of x middle y = around (codes "(") x middle ++ (y ++ one (Text (codes ")")))

-- whether the first of a list is still to come after those
abbrev pub stays : Bool → List (List Piece) → Bool
stays first [] = first
stays first (x ∷ xs) = false

-- the pieces of an expression: of one that is no list, or of each element of one that is
pub data Written : Type 0 where
  alone : List Piece → Written
  many : List (List Piece) → Written

abbrev pub each : Written → List (List Piece)
each (alone x) = x ∷ []
each (many xs) = xs

abbrev pub spread : Bool → Written → List Piece
spread first (alone x) = next_of first x
spread first (many xs) = commas first xs

abbrev pub still : Bool → Written → Bool
still first (alone x) = false
still first (many xs) = stays first xs

-- `$1, $2`
abbrev pub values_pieces : SqlType → List Value → List Piece
values_pieces t vs = commas true (map (λ v. one (Bind (OneValue t v))) vs)

-- ` ORDER BY 1 DESC, 2`
abbrev pub positions_pieces : Option (List PositionalItem) → List Piece
positions_pieces None = []
positions_pieces (Some ps) = one (Text order_by_sql) ++ commas true (map (λ p. position_pieces p.column p.direction) ps)

-- `(x IN (?, ?))`, and what is written instead where there is no value
abbrev pub one_by_one : Dialect → Bool → List Piece → SqlType → List Value → List Piece
one_by_one d n x t vs =
    if nat_eq (length vs) 0 then (one Unsafe ++ one (Text (constant_sql n)))
    else (one Unsafe ++ (around (codes "(") x (among_sql d n) ++ (values_pieces t vs ++ one (Text (codes "))")))))

-- `(x = ANY($1))` over one list, or one by one
abbrev pub among_as : ArrayComparison → Dialect → Bool → List Piece → SqlType → List Value → List Piece
among_as PgStyleArrayComparison d n x t vs =
    around (codes "(") x (among_sql d n) ++ (one (Bind (ManyValues t vs)) ++ one (Text (codes "))")))
among_as AnsiSqlArrayComparison d n x t vs = one_by_one d n x t vs

abbrev pub among_pieces : Dialect → Bool → List Piece → SqlType → List Value → List Piece
among_pieces d n x t vs = among_as (array d) d n x t vs

-- what a membership looks in, alone
abbrev pub sought_as : ArrayComparison → SqlType → List Value → List Piece
sought_as PgStyleArrayComparison t vs = one (Bind (ManyValues t vs))
sought_as AnsiSqlArrayComparison t vs = one Unsafe ++ values_pieces t vs

abbrev pub sought_values : Dialect → SqlType → List Value → List Piece
sought_values d t vs = sought_as (array d) t vs

abbrev pub joined_by : List Piece → JoinKind → List Piece → List Piece
joined_by l k r = l ++ (one (Text (join_sql k)) ++ r)

abbrev pub all_pieces : DuplicateRule → List Piece
all_pieces DistinctRows = []
all_pieces All = one (Text (codes "ALL "))

-- what comes after the order of a select statement
abbrev pub end_pieces : Dialect → LimitOffsetClause → Form → List Piece
end_pieces d r (unboxed l) = limit_offset_pieces d false r.limit_clause r.offset_clause ++ locking_pieces l
end_pieces d r (boxed e n) = limit_offset_pieces d true r.limit_clause r.offset_clause

-- ---- nodes

abbrev mutual
  pub expr_parts : Dialect → Expr → Written
  expr_parts d (column o c) = alone (leaf_pieces o c)
  expr_parts d (value t v) = alone (one (Bind (OneValue t v)))
  expr_parts d (list es) = many (exprs_parts d es)
  expr_parts d count_star = alone (one (Text (codes "COUNT(*)")))
  expr_parts d (nullable e) = expr_parts d e
  expr_parts d (unary u e) = alone (around (unary_before u) (spread true (expr_parts d e)) (unary_after u))
  expr_parts d (count e) = alone (around (codes "COUNT(") (spread true (expr_parts d e)) (codes ")"))
  expr_parts d (compared by a b) =
      alone (infix_of (spread true (expr_parts d a)) (comparison_sql by) (spread true (expr_parts d b)))
  expr_parts d (joined by a b) =
      alone (infix_of (spread true (expr_parts d a)) (logic_sql by) (spread true (expr_parts d b)))
  expr_parts d (exists q) = alone (around (codes "EXISTS (") (pieces d q) (codes ")"))
  expr_parts d (single q) = alone (around (codes "(") (pieces d q) (codes ")"))
  expr_parts d (among_values n e t xs) = alone (among_pieces d n (spread true (expr_parts d e)) t xs)
  expr_parts d (among_rows n e q) =
      alone (around (codes "(") (spread true (expr_parts d e)) (among_sql d n)
      ++ (pieces d q ++ one (Text (codes "))"))))

  -- the elements of a list, with those of lists inside it where these stand
  pub exprs_parts : Dialect → Exprs → List (List Piece)
  exprs_parts d no_exprs = []
  exprs_parts d (more_exprs e es) = each (expr_parts d e) ++ exprs_parts d es

  pub items_pieces : Dialect → Items → List (List Piece)
  items_pieces d no_items = []
  items_pieces d (more_items e by is) = (spread true (expr_parts d e) ++ direction_pieces by) ∷ items_pieces d is

  -- a text before an expression, where there is one
  pub maybe_pieces : Dialect → List ℕ → MaybeExpr → List Piece
  maybe_pieces d before no_expr = []
  maybe_pieces d before (an_expr e) = one (Text before) ++ spread true (expr_parts d e)

  pub source_pieces : Dialect → Source → List Piece
  source_pieces d (of_table t only sample) = table_source_pieces t only sample
  source_pieces d (of_alias a t) = alias_pieces a t
  source_pieces d (join k l r on) = on_pieces d (joined_by (source_pieces d l) k (source_pieces d r)) on

  -- the whole of a join, around its two sides; one without a condition is written without brackets
  pub on_pieces : Dialect → List Piece → MaybeExpr → List Piece
  on_pieces d x no_expr = x
  on_pieces d x (an_expr e) =
      one (Text (codes "(")) ++ (x ++ around (codes " ON ") (spread true (expr_parts d e)) (codes ")"))

  pub from_pieces : Dialect → From → List Piece
  from_pieces d no_source = []
  from_pieces d (from f) = one (Text (codes " FROM ")) ++ source_pieces d f

  pub distinct_pieces : Dialect → Distinct → List Piece
  distinct_pieces d every = []
  distinct_pieces d distinct = one (Text (codes "DISTINCT "))
  distinct_pieces d (distinct_on e) = around distinct_on_open (spread true (expr_parts d e)) (codes ") ")

  pub order_pieces : Dialect → Order → List Piece
  order_pieces d no_order = []
  order_pieces d (order_by is) = one (Text order_by_sql) ++ commas true (items_pieces d is)

  pub pieces : Dialect → Statement → List Piece
  pieces d (select default e f u w o rows g h form marks) =
      one (Text (codes "SELECT "))
      ++ (distinct_pieces d u
      ++ (spread true (expr_parts d e)
      ++ (from_pieces d f
      ++ (maybe_pieces d (codes " WHERE ") w
      ++ (maybe_pieces d group_by g
      ++ (maybe_pieces d (codes " HAVING ") h ++ (order_pieces d o ++ end_pieces d rows form)))))))
  pieces d (combination by all a b o rows) =
      side d (pieces d a)
      ++ (one (Text (combinator_sql by))
      ++ (all_pieces all
      ++ (side d (pieces d b)
      ++ (positions_pieces o ++ limit_offset_pieces d false rows.limit_clause rows.offset_clause))))

abbrev pub expr_pieces : Dialect → Expr → List Piece
expr_pieces d e = spread true (expr_parts d e)

abbrev pub item_pieces : Dialect → Item → List Piece
item_pieces d i = expr_pieces d i.0 ++ direction_pieces i.1

abbrev pub sides_pieces : Dialect → Sides → List Piece
sides_pieces d s = joined_by (source_pieces d s.0) s.2 (source_pieces d s.1)

abbrev pub sought_pieces : Dialect → Among → List Piece
sought_pieces d (among_list t vs) = sought_values d t vs
sought_pieces d (among_query q) = pieces d q
