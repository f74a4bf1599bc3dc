use Rattle.std.proofs.Common.{◌≡◌, List, take}
use Rattle.std.specs.BTreeMap.{get_by_text}
use Rattle.serde_json.specs.Data.{no_members}
use Rattle.serde_json.specs.View.{members_view}
use Rattle.sql_tool_build.specs.Output.{Line}
use Rattle.sql_tool_generate.specs.Summary.{refusals}
use Rattle.sql_tool_generate.specs.inside.Counting.{HasRefusals}
use Rattle.sql_tool_generate.proofs.summary.refusals.Given as goal

abbrev pub invariant-loop-rule : goal.invariant-loop-rule
invariant-loop-rule l =
    (ls : List Line) → HasRefusals (get_by_text l.refused) ls
    → members_view l.members.entries ≡ refusals (take l.rule-index l.rules) ls no_members
