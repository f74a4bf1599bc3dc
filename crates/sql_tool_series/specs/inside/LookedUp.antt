-- The schema, tables and columns that the code has looked up.
use Rattle.std.specs.Prelude.{◌≡◌}
use Rattle.sql_schema.specs.Columns.{column_of}
use Rattle.sql_tool_series.specs.Schema as given
use Rattle.sql_tool_series.specs.declared.statements.Named.{Named}

-- these are the schema, and the tables and columns of it that requests name
pub record AreNamed (n : Named) : Type 0 where
  pub schema : n.schema ≡ given.declarations
  pub users : n.users ≡ given.users
  pub id : n.id ≡ column_of given.users given.id
  pub name : n.name ≡ column_of given.users given.name
  pub posts : n.posts ≡ given.posts
  pub user_id : n.user_id ≡ column_of given.posts given.user_id
  pub title : n.title ≡ column_of given.posts given.title
