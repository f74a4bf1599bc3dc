-- How deep the statement of a query nests: how many of its nodes hold each other, the outermost counted as one. Each clause has a depth
-- of its own, and it is the deepest that counts, of two sides the deeper one. A clause that a later call replaces was built, so it
-- counts as it was, and what that call puts into its place begins anew.
use Rattle.std.specs.Prelude.{ℕ, ◌+◌, Bool, true, false, max}
use Rattle.sql_build_syntax.specs.Tree.{Expr, list, count_star, column, field, bind, unary, binary, exists, single_value, quantified, Exprs, no_exprs, more_exprs, MaybeExpr, no_expr, an_expr, Membership, values, rows, Items, no_items, more_items, Source, of_table, of_alias, join, Start, from, select, Query, query, Calls, no_calls, more_calls, Call, plain, clause, join_with, find, order, then_order_by, limit, offset, into_boxed, combine, positional_order_by}
use Rattle.sql_build_syntax.specs.declared.call.ClauseCall.{ClauseCall}
use Rattle.sql_build_syntax.specs.declared.call.ClauseCall.TheVariants as clause
use Rattle.sql_build_syntax.specs.declared.call.PlainCall.{PlainCall}
use Rattle.sql_build_syntax.specs.declared.call.PlainCall.TheVariants as plain
use Rattle.sql_build_depth.specs.declared.depth.Depths.{Depths}

-- the selection is n deep from now on
abbrev pub selecting : ℕ → Depths → Depths
selecting n d = record d { selection = n; deepest = max d.deepest n }

-- the condition is n deep from now on
abbrev pub filtering : ℕ → Depths → Depths
filtering n d = record d { condition = n; deepest = max d.deepest n }

-- a clause without a depth of its own, or an expression that stands nowhere, is n deep
abbrev pub holding : ℕ → Depths → Depths
holding n d = record d { deepest = max d.deepest n }

-- Another source, of depth r, is joined on a condition of depth on. The default selection takes its columns in: a list of columns, each
-- under at most one nullable for each join around its table.
abbrev pub joining : ℕ → ℕ → Depths → Depths
joining r on d = record d {
  selection = max d.selection (2 + r);
  sources = 1 + max d.sources (max r on);
  deepest = max d.deepest (max (2 + r) (1 + max d.sources (max r on)));
}

-- `nullable` puts a node around a selection; a boxed statement has a flag in its place
abbrev pub nullable : Bool → Depths → Depths
nullable true d = d
nullable false d = selecting (1 + d.selection) d

-- the depths after a call without arguments
abbrev pub after_plain : PlainCall → Depths → Depths
after_plain plain.Nullable d = nullable d.boxed d
after_plain plain.Count d = selecting 1 d
after_plain plain.Distinct d = d
after_plain plain.ForUpdate d = d
after_plain plain.ForNoKeyUpdate d = d
after_plain plain.ForShare d = d
after_plain plain.ForKeyShare d = d
after_plain plain.SkipLocked d = d
after_plain plain.NoWait d = d

-- and after a call with an expression of depth e: AND or OR holds the condition so far and the new one
abbrev pub after_clause : ClauseCall → ℕ → Depths → Depths
after_clause clause.Filter e d = filtering (1 + max d.condition e) d
after_clause clause.OrFilter e d = filtering (1 + max d.condition e) d
after_clause clause.Select e d = selecting e d
after_clause clause.Having e d = holding e d
after_clause clause.GroupBy e d = holding e d
after_clause clause.DistinctOn e d = holding e d

-- a combination is around its sides, and a side around its statement: the one so far, and another one of depth q
abbrev pub combining : ℕ → Depths → Depths
combining q d = record d { deepest = 1 + max (1 + d.deepest) q }

-- before any call: a source of depth n and the list of its columns, or a selection of depth n alone
abbrev pub begun : Bool → ℕ → Depths
begun true n = record { selection = 1 + n; sources = n; condition = 0; deepest = 1 + n; boxed = false }
begun false n = record { selection = n; sources = 0; condition = 0; deepest = n; boxed = false }

abbrev pub reads_source : Start → Bool
reads_source (from r) = true
reads_source (select e) = false

abbrev mutual
  pub expr_depth : Expr → ℕ
  expr_depth (list es) = 1 + exprs_depth es
  expr_depth count_star = 1
  expr_depth (column n) = 1
  expr_depth (field n) = 1
  expr_depth (bind ty v) = 1
  expr_depth (unary by e) = 1 + expr_depth e
  expr_depth (binary by a b) = 1 + max (expr_depth a) (expr_depth b)
  expr_depth (exists q) = 1 + query_depth q
  expr_depth (single_value q) = 1 + query_depth q
  expr_depth (quantified by e m) = 1 + max (expr_depth e) (membership_depth m)

  pub exprs_depth : Exprs → ℕ
  exprs_depth no_exprs = 0
  exprs_depth (more_exprs e es) = max (expr_depth e) (exprs_depth es)

  pub maybe_depth : MaybeExpr → ℕ
  maybe_depth no_expr = 0
  maybe_depth (an_expr e) = expr_depth e

  pub membership_depth : Membership → ℕ
  membership_depth (values ty vs) = 0
  membership_depth (rows q) = query_depth q

  pub items_depth : Items → ℕ
  items_depth no_items = 0
  items_depth (more_items e way is) = max (expr_depth e) (items_depth is)

  pub source_depth : Source → ℕ
  source_depth (of_table n) = 1
  source_depth (of_alias n) = 1
  source_depth (join kind l r on) = 1 + max (source_depth l) (max (source_depth r) (maybe_depth on))

  pub start_depth : Start → ℕ
  start_depth (from r) = source_depth r
  start_depth (select e) = expr_depth e

  -- the select statement is around its clauses
  pub query_depth : Query → ℕ
  query_depth (query start cs) = 1 + (after_calls cs (begun (reads_source start) (start_depth start))).deepest

  pub after_calls : Calls → Depths → Depths
  after_calls no_calls d = d
  after_calls (more_calls c cs) d = after_calls cs (after_call c d)

  pub after_call : Call → Depths → Depths
  after_call (plain by) d = after_plain by d
  after_call (clause by e) d = after_clause by (expr_depth e) d
  after_call (join_with kind r on) d = joining (source_depth r) (maybe_depth on) d
  after_call (find es) d = filtering (key_depth es d.condition) d
  after_call (order is) d = holding (items_depth is) d
  after_call (then_order_by is) d = holding (items_depth is) d
  after_call (limit n) d = d
  after_call (offset n) d = d
  after_call (into_boxed given) d = record d { boxed = true }
  after_call (combine by all q) d = combining (query_depth q) d
  after_call (positional_order_by is) d = d

  -- `find` compares each column of the key with its value, and joins the comparisons by AND
  pub key_depth : Exprs → ℕ → ℕ
  key_depth no_exprs d = d
  key_depth (more_exprs e es) d = key_depth es (1 + max d (1 + expr_depth e))
