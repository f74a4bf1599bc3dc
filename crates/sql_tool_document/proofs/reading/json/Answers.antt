use Rattle.std.proofs.Common.{Err, sym, ap, ◌∙◌}
use Rattle.json.specs.Value.{value_view}
use Rattle.serde_json.specs.Read.{read}
use Rattle.sql_tool_document.proofs.Bytes.{no_value, whole-value, tree-value}
use Rattle.sql_tool_document.proofs.reading.json.Goals as goal

pub returns-in_default : goal.returns-in_default
returns-in_default c = no_value c.args.bytes.now (λ text. absurd (c.in_default.ensures.cases.0 text))

pub returns-in-Err-Invalid : goal.returns-in-Err-Invalid
returns-in-Err-Invalid c =
    no_value c.args.bytes.now
    (λ text. ap read (sym c.in-Ok.ensures.cases.0) ∙ c.in-Err-Invalid.ensures.invalid (ap Err c.in-Err-Invalid.field-0-is))

pub returns-then-is_whole : goal.returns-then-is_whole
returns-then-is_whole c =
    whole-value c.args.bytes.now (value_view c.in-Ok-parsed.value) c.in-Ok.ensures.cases.1
    (ap read (sym c.in-Ok.ensures.cases.0) ∙ c.in-Ok-parsed.ensures.ok) (sym c.if-is_whole.ensures)

pub returns : goal.returns
returns c =
    tree-value c.args.bytes.now (value_view c.in-Ok-parsed.value) c.in-Ok.ensures.cases.1
    (ap read (sym c.in-Ok.ensures.cases.0) ∙ c.in-Ok-parsed.ensures.ok) c.in_ok-are_whole.ensures
