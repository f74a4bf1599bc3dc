-- A schema's declarations, in the order in which they were given.
use Rattle.std.specs.Prelude.{ℕ, List}
use Rattle.sql_schema.specs.declared.declaration.TableDecl.{TableDecl}
use Rattle.sql_schema.specs.declared.declaration.JoinableDecl.{JoinableDecl}

pub record Declarations : Type 0 where
  pub tables : List TableDecl
  pub joinables : List JoinableDecl
  -- the names of two tables that may stand in one statement
  pub together : List (List ℕ × List ℕ)
