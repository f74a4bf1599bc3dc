use Rattle.std.proofs.Common.{ap, option_copied, ◌∙◌}
use Rattle.sql_tool_read.proofs.Inputs.{decoded}
use Rattle.sql_tool_read.proofs.input.input_text.Goals as goal

pub returns : goal.returns
returns c =
    ap option_copied c.ok.ensures.value
    ∙ decoded c.args.bytes.now c.without_newline.result.now c.from_utf8.result _ c.without_newline.ensures
    c.from_utf8.ensures.cases
