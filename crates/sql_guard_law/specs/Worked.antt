-- An example: the left join of `sql_rows_meaning`'s example, for the tenant who owns the posts of user 2. There is none: the one post
-- is user 1's.
use Rattle.std.specs.Prelude.{◌≡◌, pos, false, [], None}
use Rattle.sql_schema.specs.declared.types.Base.TheVariants as base
use Rattle.sql_pass.specs.declared.value.Value.TheVariants as V
use Rattle.sql_leaf.specs.declared.locking.LockingClause.TheVariants.{NoLockingClause}
use Rattle.sql_leaf.specs.Marking.{unmarked}
use Rattle.sql_leaf.specs.declared.table_source.JoinKind.TheVariants.{LeftOuter}
use Rattle.sql_node.specs.Tree.{unboxed, Expr, value, compared, joined, MaybeExpr, no_expr, an_expr, of_table, join, from, every, no_order, Statement, select}
use Rattle.sql_leaf.specs.declared.operator.Comparison.TheVariants.{Eq}
use Rattle.sql_leaf.specs.declared.operator.Logic.TheVariants.{And}
use Rattle.sql_rules.specs.Lists.{AnyOf}
use Rattle.sql_rules.specs.Scope.{parts}
use Rattle.sql_rows_meaning.specs.Example.{users, posts, user_id, of_posts, relation, selection, statement}
use Rattle.sql_guard_law.specs.Restricted.{restricted}
use Rattle.sql_guard_law.specs.Tenant.{AnswersAsCut, IsOutOfKind, IsPredicate}

-- `posts.user_id = 2`
abbrev pub owned : Expr
owned = compared Eq (of_posts user_id) (value (record { base = base.Integer; nullable = false }) (V.Integer (pos 2)))

-- the example with these conditions in ON and WHERE
abbrev pub joined_on : Expr → MaybeExpr → Statement
joined_on on w =
    select false selection
    (from (join LeftOuter (of_table users false None) (of_table posts false None) (an_expr on)))
    every w no_order (record { limit_clause = None; offset_clause = None }) no_expr no_expr
    (unboxed NoLockingClause) unmarked

-- The predicate goes into ON, and so the answers are those over the cut database: both users, without a post. In WHERE it would
-- drop them: `posts.user_id` is NULL in the rows that have no post.
pub record IsOnNeeded : Type 0 where
  pub predicate : IsPredicate posts owned
  pub kind : ¬ AnyOf IsOutOfKind (parts [] statement)
  pub in_on : restricted posts owned statement ≡ joined_on (joined And relation owned) no_expr
  pub exact : AnswersAsCut (joined_on (joined And relation owned) no_expr) statement posts owned
  pub in_where : ¬ AnswersAsCut (joined_on relation (an_expr owned)) statement posts owned
