use Rattle.std.proofs.Common.{refl}
use Rattle.std.proofs.lemmas.Result.{IfOk-weaker}
use Rattle.sql_tool_build.specs.Objects.{refused}
use Rattle.sql_tool_build.proofs.object.refusal_line.Goals as goal

pub returns : goal.returns
returns c =
    IfOk-weaker c.line_of.result _ _ (λ text said. said (refused c.args.name.now) refl (λ log sent. sent))
    c.line_of.ensures
