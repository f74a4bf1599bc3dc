-- Another example over the same rows: the last of the users who have a post.
use Rattle.std.specs.Prelude.{pos, false, [], ◌∷◌, None, Some}
use Rattle.sql_pass.specs.declared.value.Value.TheVariants as V
use Rattle.sql_leaf.specs.declared.locking.LockingClause.TheVariants.{NoLockingClause}
use Rattle.sql_leaf.specs.Marking.{unmarked}
use Rattle.sql_leaf.specs.declared.position.Direction.TheVariants as direction
use Rattle.sql_node.specs.Tree.{unboxed, compared, exists, no_items, more_items, no_expr, an_expr, of_table, from, every, no_order, order_by, Statement, select}
use Rattle.sql_leaf.specs.declared.operator.Comparison.TheVariants.{Eq}
use Rattle.sql_rows_meaning.specs.Answers.{Answers}
use Rattle.sql_rows_meaning.specs.Rows.{NullPlaces}
use Rattle.sql_rows_meaning.specs.Example.{id, user_id, users, posts, database, of_users, of_posts}

-- `SELECT posts.id FROM posts WHERE posts.user_id = users.id`
abbrev pub posts_of_user : Statement
posts_of_user =
    select false (of_posts id) (from (of_table posts false None)) every
    (an_expr (compared Eq (of_posts user_id) (of_users id))) no_order
    (record { limit_clause = None; offset_clause = None })
    no_expr no_expr (unboxed NoLockingClause) unmarked

-- `SELECT users.id FROM users WHERE EXISTS (..) ORDER BY users.id DESC LIMIT 1`
abbrev pub last_writer : Statement
last_writer =
    select false (of_users id) (from (of_table users false None)) every (an_expr (exists posts_of_user))
    (order_by (more_items (of_users id) direction.Desc no_items))
    (record { limit_clause = Some (pos 1); offset_clause = None }) no_expr no_expr (unboxed NoLockingClause) unmarked

-- The first user is an answer.
abbrev pub HasLastWriter : Type 0
HasLastWriter = (places : NullPlaces) → Answers places last_writer database [] ((V.Integer (pos 1) ∷ []) ∷ [])
