use Rattle.std.proofs.lemmas.Result.{IfOk-weaker}
use Rattle.sql_tool_build.proofs.Floats.{float-statement}
use Rattle.sql_tool_build.specs.Objects.{statement_data}
use Rattle.sql_tool_build.proofs.object.accepted_line.Goals as goal

pub returns : goal.returns
returns c =
    let a = c.args in
    let none = float-statement a.binds.now a.columns.now a.id a.safe a.sql.now in
    IfOk-weaker c.line_of.result _ _
    (λ text said. said (statement_data a.binds.now a.columns.now a.id a.safe a.sql.now) none (λ log sent. sent))
    c.line_of.ensures
