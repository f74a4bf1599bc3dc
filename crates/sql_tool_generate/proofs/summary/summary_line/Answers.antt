use Rattle.std.proofs.Common.{◌≡◌, ◌++◌, ◌∷◌, [], false, ap, ◌∙◌}
use Rattle.serde_json.specs.View.{view}
use Rattle.serde_json.specs.Written.{has_float, compact_text}
use Rattle.sql_tool_generate.proofs.Tallies.{float-summary}
use Rattle.sql_tool_generate.specs.Summary.{summary_text}
use Rattle.sql_tool_generate.proofs.summary.summary_line.Goals as goal

pub returns : goal.returns
unfolding summary_text
returns c = λ ls told.
    let is = c.in_ok-value.ensures ls told in
    let whole : has_float (view c.in_ok-value.value) ≡ false = ap has_float is ∙ float-summary ls in
    c.in_ok-push_str.ensures.bytes ∙ ap (λ t. t ++ 10 ∷ []) (c.in_ok-text.ensures.text whole ∙ ap compact_text is)
