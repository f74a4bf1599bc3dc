-- The generated requests. They are numbered from 0; a number gives the dialect, the form and the values of its request.
use Rattle.std.specs.Prelude.{ℕ, zero, suc, ◌/◌, ◌%◌, min, ◌^◌, ◌-◌, pos, List, [], ◌∷◌, ◌++◌, false, Some, None}
use Rattle.sql_schema.specs.declared.declaration.ColumnDecl.{ColumnDecl}
use Rattle.sql_schema.specs.declared.declaration.TableDecl.{TableDecl}
use Rattle.sql_schema.specs.declared.types.Base.TheVariants.{Integer as IntegerBase}
use Rattle.sql_schema.specs.declared.types.SqlType.{SqlType}
use Rattle.sql_dialect.specs.declared.backend.Dialect.{Dialect}
use Rattle.sql_dialect.specs.declared.backend.Dialect.TheVariants.{Pg, Mysql, Sqlite}
use Rattle.sql_dialect.specs.declared.combination.Combinator.TheVariants.{Union}
use Rattle.sql_dialect.specs.declared.combination.DuplicateRule.TheVariants.{Distinct}
use Rattle.sql_pass.specs.declared.value.Value.{Value}
use Rattle.sql_pass.specs.declared.value.Value.TheVariants.{Integer}
use Rattle.sql_leaf.specs.declared.locking.LockMode.TheVariants.{ForKeyShare}
use Rattle.sql_leaf.specs.declared.table_source.JoinKind.{JoinKind}
use Rattle.sql_leaf.specs.declared.table_source.JoinKind.TheVariants.{Inner, LeftOuter}
use Rattle.sql_node.specs.Tree as tree
use Rattle.sql_node.specs.Tree.{Expr, Source, Statement}
use Rattle.sql_leaf.specs.declared.operator.Comparison.TheVariants.{Eq}
use Rattle.sql_leaf.specs.declared.operator.Logic.TheVariants.{And}
use Rattle.sql_node.specs.View.{exprs_of}
use Rattle.sql_source.specs.Joins.{alone}
use Rattle.sql_origin.specs.Origins.{a_table}
use Rattle.sql_select.specs.Changes.{selected, filtered, limited, offset_by, locked, boxed_for, combined}
use Rattle.sql_select.specs.Joins.{joined}
use Rattle.sql_select.specs.Simple.{simple}
use Rattle.sql_tool_series.specs.Schema.{declarations, users, posts, id, name, title, user_id}
use Rattle.sql_tool_series.specs.declared.form.Form.{Form}
use Rattle.sql_tool_series.specs.declared.form.Form.TheVariants.{ById, InnerJoin, LeftJoin, SelfUnion, Membership, Boxed, KeyShare, WithPosts}

-- ---- what a number gives

abbrev pub dialect_at : ℕ → Dialect
dialect_at zero = Pg
dialect_at (suc zero) = Mysql
dialect_at (suc (suc k)) = Sqlite

abbrev pub dialect_of : ℕ → Dialect
dialect_of i = dialect_at (i % 3)

abbrev pub form_at : ℕ → Form
form_at zero = ById
form_at (suc zero) = InnerJoin
form_at (suc (suc zero)) = LeftJoin
form_at (suc (suc (suc zero))) = SelfUnion
form_at (suc (suc (suc (suc zero)))) = Membership
form_at (suc (suc (suc (suc (suc zero))))) = Boxed
form_at (suc (suc (suc (suc (suc (suc zero)))))) = KeyShare
form_at (suc (suc (suc (suc (suc (suc (suc k))))))) = WithPosts

abbrev pub form_of : ℕ → Form
form_of i = form_at (i / 3 % 8)

-- the number as an Integer; one that an Integer can't be is cut at the last that it can
abbrev pub integer : ℕ → Value
integer i = Integer (pos (min i (2 ^ 31 - 1)))

-- [0, 1, ..], so many
abbrev pub integers : ℕ → List Value
integers zero = []
integers (suc n) = integers n ++ Integer (pos n) ∷ []

-- ---- statements

abbrev pub whole_number : SqlType
whole_number = record { base = IntegerBase; nullable = false }

abbrev pub table : TableDecl → Source
table t = tree.of_table t false None

abbrev pub column_of : TableDecl → ColumnDecl → Expr
column_of t c = tree.column (a_table t) c

abbrev pub from_users : Statement
from_users = simple (table users)

abbrev pub from_posts : Statement
from_posts = simple (table posts)

abbrev pub joined_posts : JoinKind → Statement
joined_posts kind = joined declarations kind (alone (table posts)) from_users

abbrev pub user_ids : Statement
user_ids = selected (column_of users id) from_users

-- posts.user_id = users.id
abbrev pub is_of_user : Expr
is_of_user = tree.compared Eq (column_of posts user_id) (column_of users id)

-- posts filter posts.user_id = users.id
abbrev pub posts_of_user : Statement
posts_of_user = filtered And is_of_user from_posts

abbrev pub has_id : ℕ → Expr
has_id i = tree.compared Eq (column_of users id) (tree.value whole_number (integer i))

abbrev pub has_one_of : ℕ → Expr
has_one_of many = tree.among_values false (column_of users id) whole_number (integers many)

abbrev pub names_and_titles : Expr
names_and_titles = tree.list (exprs_of (column_of users name ∷ (column_of posts title ∷ [])))

-- users filter users.id = i
abbrev pub by_id : ℕ → Statement
by_id i = filtered And (has_id i) from_users

-- users inner join posts, select [users.name, posts.title], limit i
abbrev pub inner_join : ℕ → Statement
inner_join i = limited (pos i) (selected names_and_titles (joined_posts Inner))

-- users left join posts, select posts.title
abbrev pub left_join : Statement
left_join = selected (column_of posts title) (joined_posts LeftOuter)

-- users select users.id, union of itself
abbrev pub self_union : Statement
self_union = combined Union Distinct user_ids user_ids

-- users filter users.id eq_any [0, 1, ..] of length i mod 4
abbrev pub membership : ℕ → Statement
membership i = filtered And (has_one_of (i % 4)) from_users

-- users boxed for the dialect, offset i
abbrev pub boxed : Dialect → ℕ → Statement
boxed d i = offset_by (pos i) (boxed_for d from_users)

-- users for_key_share
abbrev pub key_share : Statement
key_share = locked ForKeyShare from_users

-- users filter exists(posts filter posts.user_id = users.id)
abbrev pub with_posts : Statement
with_posts = filtered And (tree.exists posts_of_user) from_users

abbrev pub statement_with : Form → Dialect → ℕ → Statement
statement_with ById d i = by_id i
statement_with InnerJoin d i = inner_join i
statement_with LeftJoin d i = left_join
statement_with SelfUnion d i = self_union
statement_with Membership d i = membership i
statement_with Boxed d i = boxed d i
statement_with KeyShare d i = key_share
statement_with WithPosts d i = with_posts
