use Rattle.std.proofs.Common.{rules, tests, ◌≡◌, ◌∙◌, false, length, option_and_then, ap, sym}
use Rattle.std.specs.Option.{unwrap_or}
use Rattle.serde_json.specs.Find.{as_bool}
use Rattle.serde_json.specs.View.{view}
use Rattle.sql_tool_talk.specs.Resets.{is_true}
use Rattle.sql_tool_talk.proofs.Resets.{is-true, more-members, one-member}
use Rattle.sql_tool_talk.proofs.reset.is_reset_object.Goals as goal

pub returns-then-len-ne1 : goal.returns-then-len-ne1
returns-then-len-ne1 c =
    let xs = c.in-Some.members.now.entries in
    let more : length xs ≡ 1 → ⊥ = search (rules, tests) in
    sym (more-members (view c.args.value.now) xs c.in-Some.ensures more)

pub returns-in-Some-get : goal.returns-in-Some-get
returns-in-Some-get c =
    let d = view c.args.value.now in
    let xs = c.in-Some.members.now.entries in
    let one : length xs ≡ 1 = search (rules, tests) in
    c.unwrap_or.ensures ∙ ap (λ o. unwrap_or o false) c.as_bool.ensures
    ∙ is-true (as_bool (view c.in-Some-get.reset.now)) ∙ ap (λ o. is_true (option_and_then as_bool o)) c.in-Some-get.ensures
    ∙ sym (one-member d xs c.in-Some.ensures one)
