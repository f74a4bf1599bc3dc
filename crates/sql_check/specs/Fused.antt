-- The answer of the loop over the flat list of a statement.
use Rattle.std.specs.Prelude.{◌≡◌}
use Rattle.sql_dialect.specs.declared.backend.Dialect.{Dialect}
use Rattle.sql_key.specs.Keys.{id_of}
use Rattle.sql_node.specs.Tree.{Statement}
use Rattle.sql_check.specs.Compiled.{binds_of, is_safe_in, sql_of}
use Rattle.sql_check.specs.declared.answer.FusedAnswer.{FusedAnswer}

-- its text, its values, its flag and its key
pub record IsFused (d : Dialect) (s : Statement) (answer : FusedAnswer) : Type 0 where
  pub sql : answer.sql ≡ sql_of d s
  pub binds : answer.binds ≡ binds_of d s
  pub safe : answer.safe ≡ is_safe_in d s
  pub id : answer.id ≡ id_of s
