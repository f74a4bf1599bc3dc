use Rattle.std.proofs.Common.{rules, ◌∙◌, sym}
use Rattle.serde_json.specs.View.{view}
use Rattle.sql_tool_talk.proofs.Resets.{no-read, of-read}
use Rattle.sql_tool_talk.proofs.reset.is_reset.Goals as goal

pub returns-in-Ok : goal.returns-in-Ok
returns-in-Ok c =
    let (utf8, is) = c.in-Ok.ensures.ok in
    c.is_reset_object.ensures ∙ sym (of-read c.args.line.now (view c.in-Ok.value) utf8 is)

pub returns-in-Err-2 : goal.returns-in-Err-2
returns-in-Err-2 c = sym (no-read c.args.line.now (c.in-Err-2.ensures.err (λ memory. search rules)))
