use Rattle.std.proofs.Common.{rules, ap, sym}
use Rattle.serde_json.specs.View.{view}
use Rattle.sql_tool_document.proofs.Bytes.{there, float-none, float-some, no_value}
use Rattle.sql_tool_document.proofs.reading.are_whole.Goals as goal

pub returns-then-has_float : goal.returns-then-has_float
returns-then-has_float c =
    float-none c.args.bytes.now (view c.in-Ok.value) c.in-Ok.ensures.ok.0 c.in-Ok.ensures.ok.1
    (sym c.if-has_float.ensures)

pub returns-else-has_float : goal.returns-else-has_float
returns-else-has_float c =
    float-some c.args.bytes.now (view c.in-Ok.value) c.in-Ok.ensures.ok.0 c.in-Ok.ensures.ok.1
    (sym c.if-has_float.ensures)

pub returns-in-Err-2 : goal.returns-in-Err-2
returns-in-Err-2 c =
    ap there (no_value c.args.bytes.now (c.in-Err-2.ensures.err (λ memory. search rules)))
