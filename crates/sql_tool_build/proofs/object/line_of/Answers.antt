use Rattle.std.proofs.Common.{◌++◌, ◌∷◌, [], ap, ◌∙◌}
use Rattle.serde_json.proofs.FreeTexts.{text_of_value}
use Rattle.sql_tool_build.proofs.object.line_of.Goals as goal

pub returns : goal.returns
returns g c = λ d whole sends.
    let (log, sent, is) = c.in-Ok.ensures.events in
    c.in_ok-push_str.ensures.bytes ∙ ap (λ t. t ++ 10 ∷ []) (text_of_value d log _ (sends log sent) is whole)
