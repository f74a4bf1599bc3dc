-- The words of a statement as the words of its tree.
use Rattle.std.specs.Prelude.{true, false}
use Rattle.sql_dialect.specs.declared.combination.Combinator.{Combinator}
use Rattle.sql_dialect.specs.declared.combination.Combinator.TheVariants as combinator
use Rattle.sql_grammar.specs.Token as token
use Rattle.sql_grammar.specs.Tree as g
use Rattle.sql_leaf.specs.declared.locking.LockMode.{LockMode}
use Rattle.sql_leaf.specs.declared.locking.LockMode.TheVariants as mode
use Rattle.sql_leaf.specs.declared.locking.LockingClause.{LockingClause}
use Rattle.sql_leaf.specs.declared.locking.LockingClause.TheVariants as locking
use Rattle.sql_leaf.specs.declared.locking.Modifier.{Modifier}
use Rattle.sql_leaf.specs.declared.locking.Modifier.TheVariants as modifier
use Rattle.sql_leaf.specs.declared.position.Direction.{Direction}
use Rattle.sql_leaf.specs.declared.position.Direction.TheVariants as direction
use Rattle.sql_leaf.specs.declared.table_source.JoinKind.{JoinKind}
use Rattle.sql_leaf.specs.declared.table_source.JoinKind.TheVariants as kind
use Rattle.sql_leaf.specs.declared.table_source.TablesampleMethod.{TablesampleMethod}
use Rattle.sql_leaf.specs.declared.table_source.TablesampleMethod.TheVariants as method
use Rattle.sql_leaf.specs.declared.operator.Unary.{Unary}
use Rattle.sql_leaf.specs.declared.operator.Unary.TheVariants.{Not, IsNull, IsNotNull}
use Rattle.sql_leaf.specs.declared.operator.Comparison.{Comparison}
use Rattle.sql_leaf.specs.declared.operator.Comparison.TheVariants.{Eq, Ne, Lt, Le, Gt, Ge}
use Rattle.sql_leaf.specs.declared.operator.Logic.{Logic}
use Rattle.sql_leaf.specs.declared.operator.Logic.TheVariants.{And, Or}

abbrev pub comparison_of : Comparison → token.Comparison
comparison_of Eq = token.Equal
comparison_of Ne = token.NotEqual
comparison_of Lt = token.Less
comparison_of Le = token.LessOrEqual
comparison_of Gt = token.Greater
comparison_of Ge = token.GreaterOrEqual

abbrev pub logic_of : Logic → g.Logic
logic_of And = g.And
logic_of Or = g.Or

abbrev pub direction_of : Direction → g.Direction
direction_of direction.None = g.Plain
direction_of direction.Asc = g.Ascending
direction_of direction.Desc = g.Descending

abbrev pub kind_of : JoinKind → g.JoinKind
kind_of kind.Inner = g.Inner
kind_of kind.LeftOuter = g.LeftOuter

abbrev pub method_of : TablesampleMethod → g.SampleMethod
method_of method.BernoulliMethod = g.Bernoulli
method_of method.SystemMethod = g.System

abbrev pub mode_of : LockMode → g.LockMode
mode_of mode.ForUpdate = g.ForUpdate
mode_of mode.ForNoKeyUpdate = g.ForNoKeyUpdate
mode_of mode.ForShare = g.ForShare
mode_of mode.ForKeyShare = g.ForKeyShare

abbrev pub wait_of : Modifier → g.LockWait
wait_of modifier.NoModifier = g.Waits
wait_of modifier.SkipLocked = g.SkipLocked
wait_of modifier.NoWait = g.NoWait

abbrev pub lock_of : LockingClause → g.Lock
lock_of locking.NoLockingClause = g.Unlocked
lock_of (locking.LockingClause mode modifier) = g.Locks (mode_of mode) (wait_of modifier)

abbrev pub operator_of : Combinator → g.SetOperator
operator_of combinator.Union = g.Union
operator_of combinator.Intersect = g.Intersect
operator_of combinator.Except = g.Except

-- of an operator over a tree
abbrev pub unary_tree : {P : Type 0} → Unary → g.Expression P → g.Expression P
unary_tree Not a = g.Not a
unary_tree IsNull a = g.NullTest false a
unary_tree IsNotNull a = g.NullTest true a
