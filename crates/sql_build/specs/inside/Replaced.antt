-- Whether a query's first selection is one that no part of its statement has, since a call gives another in its place. The
-- statement is that of `Built` whichever selection it begins with.
use Rattle.std.specs.Prelude.{Bool, true, false, Option, option_map}
use Rattle.sql_schema.specs.Declarations.{Declarations}
use Rattle.sql_dialect.specs.declared.backend.Dialect.{Dialect}
use Rattle.sql_node.specs.Tree as t
use Rattle.sql_select.specs.Clauses.{bare, only}
use Rattle.sql_select.specs.Simple.{simple}
use Rattle.sql_build_syntax.specs.Tree.{Start, from, select, Calls, no_calls, more_calls, Call, plain, clause, join_with, find, order, then_order_by, limit, offset, into_boxed, combine, positional_order_by}
use Rattle.sql_build_syntax.specs.declared.call.ClauseCall.{ClauseCall}
use Rattle.sql_build_syntax.specs.declared.call.ClauseCall.TheVariants as clause
use Rattle.sql_build_syntax.specs.declared.call.PlainCall.{PlainCall}
use Rattle.sql_build_syntax.specs.declared.call.PlainCall.TheVariants as plain
use Rattle.sql_build.specs.Built.{expr_in, source_in}
use Rattle.sql_build.specs.declared.replaced.Effect.{Effect}
use Rattle.sql_build.specs.declared.replaced.Effect.TheVariants.{Replaces, Encloses, Passes}

abbrev pub plain_effect : PlainCall → Effect
plain_effect plain.Distinct = Passes
plain_effect plain.Count = Replaces
plain_effect plain.Nullable = Passes
plain_effect plain.ForUpdate = Passes
plain_effect plain.ForNoKeyUpdate = Passes
plain_effect plain.ForShare = Passes
plain_effect plain.ForKeyShare = Passes
plain_effect plain.SkipLocked = Passes
plain_effect plain.NoWait = Passes

abbrev pub clause_effect : ClauseCall → Effect
clause_effect clause.DistinctOn = Passes
clause_effect clause.GroupBy = Passes
clause_effect clause.Select = Replaces
clause_effect clause.Filter = Passes
clause_effect clause.OrFilter = Passes
clause_effect clause.Having = Passes

abbrev pub effect_of : Call → Effect
effect_of (plain by) = plain_effect by
effect_of (clause by e) = clause_effect by
effect_of (join_with kind r on) = Passes
effect_of (find es) = Passes
effect_of (order is) = Passes
effect_of (then_order_by is) = Passes
effect_of (limit n) = Passes
effect_of (offset n) = Passes
effect_of (into_boxed given) = Passes
effect_of (combine by all q) = Encloses
effect_of (positional_order_by is) = Passes

-- whether the selection before a call is replaced, by the call or, where it passes it on, later
abbrev pub by_or_later : Effect → Bool → Bool
by_or_later Replaces later = true
by_or_later Encloses later = false
by_or_later Passes later = later

abbrev pub is_replaced : Calls → Bool
is_replaced no_calls = false
is_replaced (more_calls c cs) = by_or_later (effect_of c) (is_replaced cs)

-- a statement that begins with its source: with its default selection, or with any at all where that is replaced
abbrev pub begun : Bool → t.Source → t.Statement
begun false s = simple s
begun true s = bare false t.count_star (t.from s)

abbrev pub started_in : Bool → Declarations → Dialect → Start → Option t.Statement
started_in replaced s d (from r) = option_map (begun replaced) (source_in s d r)
started_in replaced s d (select e) = option_map only (expr_in s d e)
