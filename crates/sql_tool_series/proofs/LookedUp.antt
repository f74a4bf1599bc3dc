-- The tables and columns that requests name are found in the schema.
use Rattle.std.proofs.Common.{◌≡◌, ◌∙◌, codes, Some, refl, ap}
use Rattle.sql_schema.specs.Columns.{DeclaredColumn, column_in, column_of, table_named}
use Rattle.sql_schema.specs.Declarations.{Declarations}
use Rattle.sql_schema.specs.declared.declaration.TableDecl.{TableDecl}
use Rattle.sql_tool_series.specs.Schema.{declarations, users, posts, id, name, user_id, title}

one-some : {X : Type 0} (x y : X) → Some x ≡ Some y → x ≡ y
one-some x y h = cc

users-found : table_named declarations.tables (codes "users") ≡ Some users
unfolding declarations users
users-found = refl

posts-found : table_named declarations.tables (codes "posts") ≡ Some posts
unfolding declarations users posts
posts-found = refl

id-found : column_in users (codes "id") ≡ Some (column_of users id)
unfolding users
id-found = refl

name-found : column_in users (codes "name") ≡ Some (column_of users name)
unfolding users
name-found = refl

user_id-found : column_in posts (codes "user_id") ≡ Some (column_of posts user_id)
unfolding posts
user_id-found = refl

title-found : column_in posts (codes "title") ≡ Some (column_of posts title)
unfolding posts
title-found = refl

module _ (schema : Declarations) (same : schema ≡ declarations) (t : TableDecl) where
  pub are-users : Some t ≡ table_named schema.tables (codes "users") → t ≡ users
  are-users h = one-some t users (h ∙ ap (λ s. table_named s.tables (codes "users")) same ∙ users-found)

  pub are-posts : Some t ≡ table_named schema.tables (codes "posts") → t ≡ posts
  are-posts h = one-some t posts (h ∙ ap (λ s. table_named s.tables (codes "posts")) same ∙ posts-found)

module _ (t : TableDecl) (c : DeclaredColumn) where
  pub is-id : t ≡ users → Some c ≡ column_in t (codes "id") → c ≡ column_of users id
  is-id same h = one-some c (column_of users id) (h ∙ ap (λ u. column_in u (codes "id")) same ∙ id-found)

  pub is-name : t ≡ users → Some c ≡ column_in t (codes "name") → c ≡ column_of users name
  is-name same h = one-some c (column_of users name) (h ∙ ap (λ u. column_in u (codes "name")) same ∙ name-found)

  pub is-user_id : t ≡ posts → Some c ≡ column_in t (codes "user_id") → c ≡ column_of posts user_id
  is-user_id same h =
      one-some c (column_of posts user_id) (h ∙ ap (λ u. column_in u (codes "user_id")) same ∙ user_id-found)

  pub is-title : t ≡ posts → Some c ≡ column_in t (codes "title") → c ≡ column_of posts title
  is-title same h = one-some c (column_of posts title) (h ∙ ap (λ u. column_in u (codes "title")) same ∙ title-found)
