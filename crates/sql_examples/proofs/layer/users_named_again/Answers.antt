use Rattle.std.proofs.Common.{◌≡◌, Some, subst}
use Rattle.hardieflax.specs.Declarations.{Declarations}
use Rattle.hardieflax.specs.View.{statement_tree}
use Rattle.sql_examples.specs.Report.{report}
use Rattle.sql_examples.proofs.layer.users_named_again.Goals as goal

pub returns-in-Ok-clause-built : goal.returns-in-Ok-clause-built
returns-in-Ok-clause-built c =
    let s = statement_tree c.in_ok-statement.statement in (
      s,
      subst (λ (w : Declarations). report w c.args.name.now ≡ Some s) c.schema.ensures
          c.in_ok-statement.ensures.statement,
      c.in-Ok.ensures.built,
      c.in-Ok.ensures.read,
    )
