-- An example of groups, over the same rows: how many posts each user has, and how many rows there are.
use Rattle.std.specs.Prelude.{ℕ, pos, false, [], ◌∷◌, None}
use Rattle.sql_pass.specs.declared.value.Value.TheVariants as V
use Rattle.sql_leaf.specs.declared.locking.LockingClause.TheVariants.{NoLockingClause}
use Rattle.sql_leaf.specs.Marking.{unmarked}
use Rattle.sql_leaf.specs.declared.table_source.JoinKind.TheVariants.{LeftOuter}
use Rattle.sql_node.specs.Tree.{unboxed, Expr, list, count_star, nullable, count, no_exprs, more_exprs, MaybeExpr, no_expr, an_expr, of_table, join, from, every, no_order, Statement, select}
use Rattle.sql_rows_meaning.specs.Example.{id, users, posts, database, of_users, of_posts, relation}
use Rattle.sql_rows_meaning.specs.Answers.{Answers}
use Rattle.sql_rows_meaning.specs.Rows.{Row, NullPlaces}

-- the example's left join, with any selection and GROUP BY
abbrev pub grouping : Expr → MaybeExpr → Statement
grouping e g =
    select false e
    (from (join LeftOuter (of_table users false None) (of_table posts false None) (an_expr relation)))
    every no_expr no_order (record { limit_clause = None; offset_clause = None }) g no_expr
    (unboxed NoLockingClause) unmarked

-- `SELECT users.id, COUNT(posts.id) FROM users LEFT OUTER JOIN posts ON .. GROUP BY users.id`
abbrev pub posts_of_each : Statement
posts_of_each =
    grouping (list (more_exprs (of_users id) (more_exprs (count (nullable (of_posts id))) no_exprs)))
    (an_expr (of_users id))

-- `SELECT COUNT(*), COUNT(posts.id) FROM users LEFT OUTER JOIN posts ON ..`
abbrev pub in_all : Statement
in_all = grouping (list (more_exprs count_star (more_exprs (count (nullable (of_posts id))) no_exprs))) no_expr

abbrev pub pair : ℕ → ℕ → Row
pair n m = V.BigInt (pos n) ∷ (V.BigInt (pos m) ∷ [])

abbrev pub user_pair : ℕ → ℕ → Row
user_pair n m = V.Integer (pos n) ∷ (V.BigInt (pos m) ∷ [])

-- User 1 has one post, and user 2 none: the row that stands in for it is counted by COUNT(*), and not by COUNT of its NULL.
pub record IsCounted : Type 0 where
  pub each : (places : NullPlaces) → Answers places posts_of_each database [] (user_pair 1 1 ∷ (user_pair 2 0 ∷ []))
  pub all : (places : NullPlaces) → Answers places in_all database [] (pair 2 1 ∷ [])
