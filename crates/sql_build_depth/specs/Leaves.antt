-- How many tables and aliases a select of a query reads, of two sides of a combination the most. A guard puts a condition beside the
-- others for each of them, so that WHERE may nest so much deeper; it refuses a statement with a subselect, so none counts here.
use Rattle.std.specs.Prelude.{ℕ, ◌+◌, max}
use Rattle.sql_build_syntax.specs.Tree.{Source, of_table, of_alias, join, Start, from, select, Query, query, Calls, no_calls, more_calls, Call, plain, clause, join_with, find, order, then_order_by, limit, offset, into_boxed, combine, positional_order_by}

abbrev pub source_leaves : Source → ℕ
source_leaves (of_table n) = 1
source_leaves (of_alias n) = 1
source_leaves (join kind l r on) = source_leaves l + source_leaves r

abbrev pub start_leaves : Start → ℕ
start_leaves (from r) = source_leaves r
start_leaves (select e) = 0

abbrev mutual
  pub query_leaves : Query → ℕ
  query_leaves (query start cs) = calls_leaves cs (start_leaves start)

  -- the leaves after the calls, where there are n before
  pub calls_leaves : Calls → ℕ → ℕ
  calls_leaves no_calls n = n
  calls_leaves (more_calls c cs) n = calls_leaves cs (call_leaves c n)

  pub call_leaves : Call → ℕ → ℕ
  call_leaves (plain by) n = n
  call_leaves (clause by e) n = n
  call_leaves (join_with kind r on) n = n + source_leaves r
  call_leaves (find es) n = n
  call_leaves (order is) n = n
  call_leaves (then_order_by is) n = n
  call_leaves (limit m) n = n
  call_leaves (offset m) n = n
  call_leaves (into_boxed given) n = n
  call_leaves (combine by all q) n = max n (query_leaves q)
  call_leaves (positional_order_by is) n = n
