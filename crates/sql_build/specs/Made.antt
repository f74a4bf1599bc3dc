-- The results of the operators and calls of a query (diesel, `ExpressionMethods`, `QueryDsl`).
use Rattle.std.specs.Prelude.{Bool, true, false}
use Rattle.sql_leaf.specs.declared.locking.LockMode.TheVariants as lock
use Rattle.sql_leaf.specs.declared.locking.Modifier.TheVariants as way
use Rattle.sql_node.specs.Tree.{Expr, count_star, nullable, unary as over, count, compared, joined, Statement, select, combination, distinct, distinct_on, Form as Kind, unboxed, boxed}
use Rattle.sql_leaf.specs.declared.operator.Logic.TheVariants.{And, Or}
use Rattle.sql_select.specs.Changes.{selected, nulled, with_distinct, filtered, grouped, with_having, locked, modified}
use Rattle.sql_build_syntax.specs.declared.call.ClauseCall.{ClauseCall}
use Rattle.sql_build_syntax.specs.declared.call.ClauseCall.TheVariants as clause
use Rattle.sql_build_syntax.specs.declared.call.PlainCall.{PlainCall}
use Rattle.sql_build_syntax.specs.declared.call.PlainCall.TheVariants as plain
use Rattle.sql_build_syntax.specs.declared.expr.BinaryOperator.{BinaryOperator}
use Rattle.sql_build_syntax.specs.declared.expr.BinaryOperator.TheVariants as binary
use Rattle.sql_build_syntax.specs.declared.expr.Quantified.{Quantified}
use Rattle.sql_build_syntax.specs.declared.expr.Quantified.TheVariants as quantified
use Rattle.sql_build_syntax.specs.declared.expr.UnaryOperator.{UnaryOperator}
use Rattle.sql_build_syntax.specs.declared.expr.UnaryOperator.TheVariants as unary
use Rattle.sql_build_syntax.specs.declared.form.Form.{Form}
use Rattle.sql_build_syntax.specs.declared.form.Form.TheVariants as form

-- ---- operators

abbrev pub made_of_one : UnaryOperator → Expr → Expr
made_of_one (unary.Condition by) e = over by e
made_of_one unary.Nullable e = nullable e
made_of_one unary.Count e = count e

abbrev pub made_of_two : BinaryOperator → Expr → Expr → Expr
made_of_two (binary.Compare by) a b = compared by a b
made_of_two (binary.Join by) a b = joined by a b

-- whether it asks for none of them
abbrev pub is_negated : Quantified → Bool
is_negated quantified.EqAny = false
is_negated quantified.NeAll = true

-- ---- calls

abbrev pub form_of_kind : Kind → Form
form_of_kind (unboxed l) = form.Select
form_of_kind (boxed d n) = form.Boxed

-- the form that a statement has
abbrev pub form_of : Statement → Form
form_of (select d e s u w o r g h k m) = form_of_kind k
form_of (combination by all a b o r) = form.Combination

abbrev pub plain_made : PlainCall → Statement → Statement
plain_made plain.Distinct s = with_distinct distinct s
plain_made plain.Count s = selected count_star s
plain_made plain.Nullable s = nulled s
plain_made plain.ForUpdate s = locked lock.ForUpdate s
plain_made plain.ForNoKeyUpdate s = locked lock.ForNoKeyUpdate s
plain_made plain.ForShare s = locked lock.ForShare s
plain_made plain.ForKeyShare s = locked lock.ForKeyShare s
plain_made plain.SkipLocked s = modified way.SkipLocked s
plain_made plain.NoWait s = modified way.NoWait s

abbrev pub clause_made : ClauseCall → Expr → Statement → Statement
clause_made clause.DistinctOn e s = with_distinct (distinct_on e) s
clause_made clause.GroupBy e s = grouped e s
clause_made clause.Select e s = selected e s
clause_made clause.Filter e s = filtered And e s
clause_made clause.OrFilter e s = filtered Or e s
clause_made clause.Having e s = with_having e s
