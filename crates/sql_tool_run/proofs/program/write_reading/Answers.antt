use Rattle.std.proofs.Common.{◌≡◌, ◌∙◌, Some, ap, subst, sym}
use Rattle.std.specs.Prelude.{option_copied}
use Rattle.sql_tool_read.specs.Input.{input_text}
use Rattle.sql_tool_run.proofs.Endings.{wrote-reading}
use Rattle.sql_tool_run.specs.inside.Responses.{WroteLine}
use Rattle.sql_tool_run.proofs.program.write_reading.Goals as goal

pub returns-in-Ok-clause-response : goal.returns-in-Ok-clause-response
returns-in-Ok-clause-response g c =
    let (written, appended, wrote) = c.write_line.ensures.response in
    let read : input_text c.args.bytes.now ≡ Some c.in-Some.text.now = sym c.input_text.ensures ∙ ap option_copied c.in-Some.is in
    let line = subst (λ l. WroteLine c.write_line.result l written) c.as_str.ensures.value wrote in
    (written, appended, wrote-reading c.write_line.result c.args.dialect c.args.bytes.now c.in-Some.text.now _ written read c.in-Ok.ensures line)
