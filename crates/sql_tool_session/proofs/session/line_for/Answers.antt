use Rattle.std.proofs.Common.{◌≡◌, None, option_map, ap, refl}
use Rattle.std.proofs.lemmas.Result.{IfOk-weaker}
use Rattle.sql_tool_document.specs.Trees.{request_tree}
use Rattle.sql_tool_build.specs.Output.{statement_request}
use Rattle.sql_tool_guard.specs.Trees.{tenant_tree}
use Rattle.sql_tool_session.proofs.session.line_for.Goals as goal

pub returns-in-None-clause-line : goal.returns-in-None-clause-line
returns-in-None-clause-line c =
    let nobody : option_map tenant_tree c.args.tenant.now ≡ None = ap (option_map tenant_tree) c.in-None.is in
    let made = statement_request c.args.cache.now.schema (request_tree c.args.request.now) in
    rw nobody (IfOk-weaker c.request_line.result _ _ (λ text told. (made, refl, told)) c.request_line.ensures.line)
