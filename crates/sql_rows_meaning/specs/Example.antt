-- An example. The users (1, 'a') and (2, 'b'), the post (5, 1, 't'), and the statement
-- `SELECT users.id, posts.title FROM users LEFT OUTER JOIN posts ON posts.user_id = users.id`, its title under nullable.
use Rattle.std.specs.Prelude.{◌≡◌, ℕ, pos, false, List, [], ◌∷◌, None, if◌then◌else◌, codes, ◌⊎◌, ◌↔◌}
use Rattle.sql_schema.specs.Equality.{same_table}
use Rattle.sql_schema.specs.Declarations.{Declarations}
use Rattle.sql_schema.specs.declared.declaration.ColumnDecl.{ColumnDecl}
use Rattle.sql_schema.specs.declared.declaration.TableDecl.{TableDecl}
use Rattle.sql_schema.specs.declared.types.Base.{Base}
use Rattle.sql_schema.specs.declared.types.Base.TheVariants as base
use Rattle.sql_pass.specs.declared.value.Value.TheVariants as V
use Rattle.sql_leaf.specs.declared.locking.LockingClause.TheVariants.{NoLockingClause}
use Rattle.sql_leaf.specs.Marking.{unmarked}
use Rattle.sql_leaf.specs.declared.table_source.JoinKind.TheVariants.{LeftOuter}
use Rattle.sql_node.specs.Tree.{unboxed, Expr, column, list, nullable, compared, no_exprs, more_exprs, no_expr, an_expr, of_table, join, from, every, no_order, Statement, select}
use Rattle.sql_leaf.specs.declared.operator.Comparison.TheVariants.{Eq}
use Rattle.sql_origin.specs.Origins.{a_table}
use Rattle.sql_rows_meaning.specs.Answers.{Answers}
use Rattle.sql_rows_meaning.specs.Frames.{Database}
use Rattle.sql_rows_meaning.specs.Rows.{Row, NullPlaces}

abbrev pub a_column : List ℕ → Base → ColumnDecl
a_column name b = record { name = name; sql_name = name; ty = record { base = b; nullable = false }; max_length = None }

abbrev pub with_columns : List ℕ → List ColumnDecl → TableDecl
with_columns name columns =
    record { name = name; sql_name = name; schema = None; columns = columns; primary_key = codes "id" ∷ [] }

abbrev pub id : ColumnDecl
id = a_column (codes "id") base.Integer

abbrev pub user_id : ColumnDecl
user_id = a_column (codes "user_id") base.Integer

abbrev pub title : ColumnDecl
title = a_column (codes "title") base.Text

abbrev pub users : TableDecl
users = with_columns (codes "users") (id ∷ (a_column (codes "name") base.Text ∷ []))

abbrev pub posts : TableDecl
posts = with_columns (codes "posts") (id ∷ (user_id ∷ (title ∷ [])))

abbrev pub blog : Declarations
blog =
    record {
      tables = users ∷ (posts ∷ []);
      joinables = record { child = codes "posts"; key = codes "user_id"; parent = codes "users" } ∷ [];
      together = (codes "users", codes "posts") ∷ [];
    }

abbrev pub user_rows : List Row
user_rows =
    (V.Integer (pos 1) ∷ (V.Text (codes "a") ∷ [])) ∷ ((V.Integer (pos 2) ∷ (V.Text (codes "b") ∷ [])) ∷ [])

abbrev pub post_rows : List Row
post_rows = (V.Integer (pos 5) ∷ (V.Integer (pos 1) ∷ (V.Text (codes "t") ∷ []))) ∷ []

-- every other table is empty
abbrev pub database : Database
database t = if same_table t users then user_rows else if same_table t posts then post_rows else []

abbrev pub of_users : ColumnDecl → Expr
of_users c = column (a_table users) c

abbrev pub of_posts : ColumnDecl → Expr
of_posts c = column (a_table posts) c

abbrev pub relation : Expr
relation = compared Eq (nullable (of_posts user_id)) (nullable (of_users id))

abbrev pub selection : Expr
selection = list (more_exprs (of_users id) (more_exprs (nullable (of_posts title)) no_exprs))

-- the example, with any selection
abbrev pub selecting : Expr → Statement
selecting e =
    select false e
    (from (join LeftOuter (of_table users false None) (of_table posts false None) (an_expr relation)))
    every no_expr no_order (record { limit_clause = None; offset_clause = None }) no_expr no_expr
    (unboxed NoLockingClause) unmarked

abbrev pub statement : Statement
statement = selecting selection

-- the same with the title under no nullable
abbrev pub bare_statement : Statement
bare_statement = selecting (list (more_exprs (of_users id) (more_exprs (of_posts title) no_exprs)))

abbrev pub first : Row
first = V.Integer (pos 1) ∷ (V.Text (codes "t") ∷ [])

abbrev pub second : Row
second = V.Integer (pos 2) ∷ (V.Null ∷ [])

-- The answers are these two rows in either order, and no other list.
abbrev pub HasTwoAnswers : Type 0
HasTwoAnswers =
    (places : NullPlaces) (answer : List Row)
    → Answers places statement database [] answer ↔ ((answer ≡ first ∷ (second ∷ [])) ⊎ (answer ≡ second ∷ (first ∷ [])))
