-- The change that each call makes to a statement (diesel, `QueryDsl` and the traits of `query_dsl::methods`).
use Rattle.std.specs.Prelude.{ℤ, pos, Bool, true, false, Option, Some, None, List}
use Rattle.sql_dialect.specs.declared.backend.Dialect.{Dialect}
use Rattle.sql_dialect.specs.declared.combination.Combinator.{Combinator}
use Rattle.sql_dialect.specs.declared.combination.DuplicateRule.{DuplicateRule}
use Rattle.sql_leaf.specs.declared.locking.LockMode.{LockMode}
use Rattle.sql_leaf.specs.declared.locking.Modifier.{Modifier}
use Rattle.sql_leaf.specs.declared.locking.Modifier.TheVariants.{NoModifier}
use Rattle.sql_leaf.specs.declared.locking.LockingClause.{LockingClause}
use Rattle.sql_leaf.specs.declared.locking.LockingClause.TheVariants.{NoLockingClause, LockingClause as Locked}
use Rattle.sql_leaf.specs.declared.marks.Marks.{Marks}
use Rattle.sql_leaf.specs.declared.position.PositionalItem.{PositionalItem}
use Rattle.sql_leaf.specs.declared.operator.Logic.{Logic}
use Rattle.sql_node.specs.Tree.{Statement, combination, Expr, nullable, single, Items, no_items, more_items, an_expr, Distinct, Order, no_order, order_by, Form, unboxed, boxed}
use Rattle.sql_expr.specs.Calls.{beside}
use Rattle.sql_select.specs.Clauses.{Clauses, changed, rows_changed, positions_changed, all_rows}

-- ---- selections

-- a boxed statement's columns are then as the selection has them
abbrev pub columns_as_selected : Form → Form
columns_as_selected (unboxed l) = unboxed l
columns_as_selected (boxed d n) = boxed d false

-- a selection that is given
abbrev pub selected : Expr → Statement → Statement
selected e = changed (λ c. record c { selection = (false, e); form = columns_as_selected c.form })

abbrev pub nulled_in : Form → Clauses → Clauses
nulled_in (unboxed l) c = record c { selection = (false, nullable c.selection.1) }
nulled_in (boxed d n) c = record c { form = boxed d true }

-- All columns nullable: the selection goes under nullable, and is the default no longer. A boxed statement has a flag for it.
abbrev pub nulled : Statement → Statement
nulled = changed (λ c. nulled_in c.form c)

abbrev pub with_distinct : Distinct → Statement → Statement
with_distinct d = changed (λ c. record c { distinct = d })

-- ---- conditions

-- one more condition: all have to hold, or one of them; the first stands alone
abbrev pub filtered : Logic → Expr → Statement → Statement
filtered by e = changed (λ c. record c { condition = an_expr (beside by c.condition e) })

abbrev pub grouped : Expr → Statement → Statement
grouped e = changed (λ c. record c { group_by = an_expr e })

abbrev pub with_having : Expr → Statement → Statement
with_having e = changed (λ c. record c { having = an_expr e })

-- ---- orders and rows

abbrev pub items_then : Items → Items → Items
items_then no_items js = js
items_then (more_items e by is) js = more_items e by (items_then is js)

abbrev pub items_in : Order → Items
items_in no_order = no_items
items_in (order_by is) = is

abbrev pub ordered : Items → Statement → Statement
ordered is = changed (λ c. record c { order = order_by is })

-- more items after those that the order has
abbrev pub ordered_then : Items → Statement → Statement
ordered_then is = changed (λ c. record c { order = order_by (items_then (items_in c.order) is) })

abbrev pub limited : ℤ → Statement → Statement
limited n = rows_changed (λ r. record r { limit_clause = Some n })

abbrev pub offset_by : ℤ → Statement → Statement
offset_by n = rows_changed (λ r. record r { offset_clause = Some n })

-- ---- locks

-- the mark, where there was a lock already
abbrev pub second_lock : LockingClause → Marks → Marks
second_lock NoLockingClause m = m
second_lock (Locked mode w) m = record m { second_lock = true }

abbrev pub locked_in : LockMode → Form → Clauses → Clauses
locked_in mode (unboxed l) c = record c { form = unboxed (Locked mode NoModifier); marks = second_lock l c.marks }
locked_in mode (boxed d n) c = c

-- a lock without a modifier
abbrev pub locked : LockMode → Statement → Statement
locked mode = changed (λ c. locked_in mode c.form c)

abbrev pub modified_in : Modifier → Form → Clauses → Clauses
modified_in w (unboxed NoLockingClause) c = record c { marks = record (c.marks) { no_lock = true } }
modified_in w (unboxed (Locked mode _)) c = record c { form = unboxed (Locked mode w) }
modified_in w (boxed d n) c = c

-- what the lock does where a row is locked already; without a lock the mark alone
abbrev pub modified : Modifier → Statement → Statement
modified w = changed (λ c. modified_in w c.form c)

-- ---- boxes

-- the mark, where a lock is dropped
abbrev pub dropped_lock : LockingClause → Marks → Marks
dropped_lock NoLockingClause m = m
dropped_lock (Locked mode w) m = record m { boxed_lock = true }

abbrev pub boxed_in : Dialect → Form → Clauses → Clauses
boxed_in d (unboxed l) c = record c { form = boxed d false; marks = dropped_lock l c.marks }
boxed_in d (boxed e n) c = c

-- the same statement boxed for a dialect, without its lock
abbrev pub boxed_for : Dialect → Statement → Statement
boxed_for d = changed (λ c. boxed_in d c.form c)

-- ---- statements in statements

-- two statements as one, in no order
abbrev pub combined : Combinator → DuplicateRule → Statement → Statement → Statement
combined by all a b = combination by all a b None all_rows

abbrev pub ordered_by_places : List PositionalItem → Statement → Statement
ordered_by_places os = positions_changed (Some os)

-- the value that a statement gives: that of its first row
abbrev pub single_value_of : Statement → Expr
single_value_of s = single (limited (pos 1) s)
