-- The statement that a query stands for: its names looked up in a schema, and its calls made one after the other on what it
-- begins with. None where the query names a table or a column that the schema lacks, in a join, a subselect or a side of a
-- combination too, or where the statement's form lacks the call (diesel, `AsQuery`, `QueryDsl`, `CombineDsl`).
use Rattle.std.specs.Prelude.{List, [], ◌∷◌, Option, Some, None, option_map, unwrap_or}
use Rattle.sql_schema.specs.Declarations.{Declarations}
use Rattle.sql_dialect.specs.declared.backend.Dialect.{Dialect}
use Rattle.sql_leaf.specs.declared.position.Direction.{Direction}
use Rattle.sql_node.specs.Tree as t
use Rattle.sql_node.specs.View.{Among, among_list, among_query, among_of, Item, exprs_of, items_of}
use Rattle.sql_expr.specs.Joining.{Side}
use Rattle.sql_source.specs.Joins.{alone, joined_by}
use Rattle.sql_select.specs.Changes.{ordered, ordered_then, limited, offset_by, boxed_for, combined, ordered_by_places, single_value_of}
use Rattle.sql_select.specs.Clauses.{only}
use Rattle.sql_select.specs.Finding.{found}
use Rattle.sql_select.specs.Joins.{joined}
use Rattle.sql_select.specs.Simple.{simple}
use Rattle.sql_build_syntax.specs.Forms.{stands}
use Rattle.sql_build_syntax.specs.Tree.{Expr, list, count_star, column, field, bind, unary, binary, exists, single_value, quantified, Exprs, no_exprs, more_exprs, MaybeExpr, no_expr, an_expr, Membership, values, rows, Items, no_items, more_items, Source, of_table, of_alias, join, Start, from, select, Query, query, Calls, no_calls, more_calls, Call, plain, clause, join_with, find, order, then_order_by, limit, offset, into_boxed, combine, positional_order_by}
use Rattle.sql_build.specs.Made.{made_of_one, made_of_two, is_negated, form_of, plain_made, clause_made}
use Rattle.sql_build.specs.Named.{◌>>=◌, both, only_where, named_column, named_field, named_table, named_alias}

-- a source, and the condition that it is joined on
abbrev pub side_of : t.Source → Option t.Expr → Side
side_of r on = record { source = r; on = on }

abbrev pub directed : Direction → t.Expr → Item
directed way e = (e, way)

abbrev mutual
  pub expr_in : Declarations → Dialect → Expr → Option t.Expr
  expr_in s d (list es) = option_map (λ all. t.list (exprs_of all)) (exprs_in s d es)
  expr_in s d count_star = Some t.count_star
  expr_in s d (column n) = named_column s.tables n
  expr_in s d (field n) = named_field s.tables n
  expr_in s d (bind ty v) = Some (t.value ty v)
  expr_in s d (unary by e) = option_map (made_of_one by) (expr_in s d e)
  expr_in s d (binary by a b) = both (made_of_two by) (expr_in s d a) (expr_in s d b)
  expr_in s d (exists q) = option_map t.exists (statement_in s d q)
  expr_in s d (single_value q) = option_map single_value_of (statement_in s d q)
  expr_in s d (quantified by e m) = both (among_of (is_negated by)) (expr_in s d e) (membership_in s d m)

  pub exprs_in : Declarations → Dialect → Exprs → Option (List t.Expr)
  exprs_in s d no_exprs = Some []
  exprs_in s d (more_exprs e es) = both (λ first others. first ∷ others) (expr_in s d e) (exprs_in s d es)

  pub maybe_in : Declarations → Dialect → MaybeExpr → Option (Option t.Expr)
  maybe_in s d no_expr = Some None
  maybe_in s d (an_expr e) = option_map Some (expr_in s d e)

  pub membership_in : Declarations → Dialect → Membership → Option Among
  membership_in s d (values ty vs) = Some (among_list ty vs)
  membership_in s d (rows q) = option_map among_query (statement_in s d q)

  pub items_in : Declarations → Dialect → Items → Option (List Item)
  items_in s d no_items = Some []
  items_in s d (more_items e way is) =
      both (λ first others. first ∷ others) (option_map (directed way) (expr_in s d e)) (items_in s d is)

  -- a join without a condition has that of a declared relation
  pub source_in : Declarations → Dialect → Source → Option t.Source
  source_in s d (of_table n) = named_table s.tables n
  source_in s d (of_alias n) = named_alias s.tables n
  source_in s d (join kind l r on) =
      both (λ left right. (joined_by s kind (alone left) right).source) (source_in s d l)
      (both side_of (source_in s d r) (maybe_in s d on))

  pub start_in : Declarations → Dialect → Start → Option t.Statement
  start_in s d (from r) = option_map simple (source_in s d r)
  start_in s d (select e) = option_map only (expr_in s d e)

  pub statement_in : Declarations → Dialect → Query → Option t.Statement
  statement_in s d (query start cs) = start_in s d start >>= λ made. calls_in s d cs made

  -- what the calls make of a statement, one after the other
  pub calls_in : Declarations → Dialect → Calls → t.Statement → Option t.Statement
  calls_in s d no_calls made = Some made
  calls_in s d (more_calls c cs) made =
      only_where (call_in s d c made) (stands (form_of made) c) >>= λ next. calls_in s d cs next

  -- what a call makes of a statement
  pub call_in : Declarations → Dialect → Call → t.Statement → Option t.Statement
  call_in s d (plain by) made = Some (plain_made by made)
  call_in s d (clause by e) made = option_map (λ it. clause_made by it made) (expr_in s d e)
  call_in s d (join_with kind r on) made =
      option_map (λ side. joined s kind side made) (both side_of (source_in s d r) (maybe_in s d on))
  call_in s d (find es) made = option_map (λ all. found all made) (exprs_in s d es)
  call_in s d (order is) made = option_map (λ all. ordered (items_of all) made) (items_in s d is)
  call_in s d (then_order_by is) made = option_map (λ all. ordered_then (items_of all) made) (items_in s d is)
  call_in s d (limit n) made = Some (limited n made)
  call_in s d (offset n) made = Some (offset_by n made)
  call_in s d (into_boxed given) made = Some (boxed_for (unwrap_or given d) made)
  call_in s d (combine by all q) made = option_map (λ other. combined by all made other) (statement_in s d q)
  call_in s d (positional_order_by is) made = Some (ordered_by_places is made)
