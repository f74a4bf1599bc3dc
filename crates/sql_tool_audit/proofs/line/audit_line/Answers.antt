use Rattle.std.proofs.Common.{◌++◌, ◌∷◌, [], ap, ◌∙◌}
use Rattle.serde_json.specs.View.{view}
use Rattle.sql_tool_audit.proofs.Floats.{float-free}
use Rattle.sql_tool_audit.proofs.line.audit_line.Goals as goal

pub returns : goal.returns
returns c =
    let object = view c.in_ok-object.object in
    let told = c.in_ok-object.ensures in
    let whole = float-free c.args.dialect c.args.schema.now.tables c.args.text.now object told in (
      object,
      told,
      c.in_ok-push_str.ensures.bytes ∙ ap (λ t. t ++ 10 ∷ []) (c.in_ok-line.ensures.text whole),
    )
