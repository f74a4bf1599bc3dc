use Rattle.std.proofs.Common.{◌∙◌}
use Rattle.std.proofs.lemmas.Result.{IfOk-weaker}
use Rattle.serde_json.specs.Data.{no_members}
use Rattle.sql_rules.specs.Rules.{all_rules}
use Rattle.sql_tool_generate.specs.Summary.{refusals, summary_object}
use Rattle.sql_tool_generate.proofs.summary.summary_json.Goals as goal

pub returns : goal.returns
returns c =
    IfOk-weaker c.object_of.result _ _
    (λ v h. λ ls told.
    let refused = c.in_ok-refused.ensures ls told.refused in
    h (refusals all_rules ls no_members) refused
    ∙ (λ i. summary_object (told.accepted i) (told.binds i) (told.bytes i) (told.ids i) (refusals all_rules ls no_members) (told.requests i)))
    c.object_of.ensures
