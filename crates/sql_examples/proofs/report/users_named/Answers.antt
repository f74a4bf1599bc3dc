use Rattle.hardieflax.specs.View.{statement_tree}
use Rattle.sql_examples.proofs.report.users_named.Goals as goal

pub returns-clause-refused : goal.returns-clause-refused
returns-clause-refused c =
    λ r is. (
      statement_tree c.in_ok-statement.statement,
      c.in_ok-statement.ensures.statement,
      c.in-Err.ensures.refused r is,
    )
