-- Which calls each form of a query has (diesel, `QueryDsl` on `SelectStatement`, `BoxedSelectStatement` and
-- `CombinationClause`).
use Rattle.std.specs.Prelude.{Bool, true, false, ◌&&◌}
use Rattle.sql_build_syntax.specs.Tree.{Call, plain, clause, join_with, find, order, then_order_by, limit, offset, into_boxed, combine, positional_order_by, Calls, no_calls, more_calls}
use Rattle.sql_build_syntax.specs.declared.call.ClauseCall.{ClauseCall}
use Rattle.sql_build_syntax.specs.declared.call.ClauseCall.TheVariants as clause
use Rattle.sql_build_syntax.specs.declared.call.PlainCall.{PlainCall}
use Rattle.sql_build_syntax.specs.declared.call.PlainCall.TheVariants as plain
use Rattle.sql_build_syntax.specs.declared.form.Form.{Form}
use Rattle.sql_build_syntax.specs.declared.form.Form.TheVariants.{Select, Boxed, Combination}

-- a select statement that isn't boxed
abbrev pub is_unboxed : Form → Bool
is_unboxed Select = true
is_unboxed Boxed = false
is_unboxed Combination = false

-- a select statement, boxed or not
abbrev pub selects : Form → Bool
selects Select = true
selects Boxed = true
selects Combination = false

abbrev pub combines : Form → Bool
combines Select = false
combines Boxed = false
combines Combination = true

abbrev pub plain_stands : Form → PlainCall → Bool
plain_stands f plain.Distinct = selects f
plain_stands f plain.Count = selects f
plain_stands f plain.Nullable = selects f
plain_stands f plain.ForUpdate = is_unboxed f
plain_stands f plain.ForNoKeyUpdate = is_unboxed f
plain_stands f plain.ForShare = is_unboxed f
plain_stands f plain.ForKeyShare = is_unboxed f
plain_stands f plain.SkipLocked = is_unboxed f
plain_stands f plain.NoWait = is_unboxed f

abbrev pub clause_stands : Form → ClauseCall → Bool
clause_stands f clause.DistinctOn = is_unboxed f
clause_stands f clause.GroupBy = is_unboxed f
clause_stands f clause.Select = selects f
clause_stands f clause.Filter = selects f
clause_stands f clause.OrFilter = selects f
clause_stands f clause.Having = selects f

-- whether that form has the call
abbrev pub stands : Form → Call → Bool
stands f (plain c) = plain_stands f c
stands f (clause c e) = clause_stands f c
stands f (join_with k s e) = selects f
stands f (find es) = is_unboxed f
stands f (order is) = selects f
stands f (then_order_by is) = selects f
stands f (limit n) = true
stands f (offset n) = true
stands f (into_boxed d) = is_unboxed f
stands f (combine c r q) = true
stands f (positional_order_by is) = combines f

-- the form that the call gives
abbrev pub after : Form → Call → Form
after f (plain c) = f
after f (clause c e) = f
after f (join_with k s e) = f
after f (find es) = f
after f (order is) = f
after f (then_order_by is) = f
after f (limit n) = f
after f (offset n) = f
after f (into_boxed d) = Boxed
after f (combine c r q) = Combination
after f (positional_order_by is) = f

-- whether each call is one of the form that the calls before it give
abbrev pub stand : Form → Calls → Bool
stand f no_calls = true
stand f (more_calls c cs) = stands f c && stand (after f c) cs
