use Rattle.std.proofs.Common.{rules, ◌≡◌, IsTrue, sym}
use Rattle.sql_tool_run.proofs.Counts.{IsRespelled, parsed-large, parsed-some, respelled-none, unparsed-none}
use Rattle.sql_tool_run.proofs.command.count.Goals as goal

pub returns-then-is_respelled : goal.returns-then-is_respelled
returns-then-is_respelled c =
    let begins : IsTrue c.is_respelled.result = search rules in
    sym (respelled-none c.args.word.now (c.is_respelled.ensures.0 begins))

pub returns-in-Ok : goal.returns-in-Ok
returns-in-Ok c =
    let spelled : ¬ IsRespelled c.args.word.now =
    λ h. let k : IsTrue c.is_respelled.result = c.is_respelled.ensures.1 h in search rules in
    sym (parsed-some c.args.word.now c.in-Ok.count c.in-Ok.ensures.value.0 spelled c.if-count-le-MAX_REQUESTS.true)

pub returns-in_default : goal.returns-in_default
returns-in_default c =
    sym (parsed-large c.args.word.now c.in-Ok.count c.in-Ok.ensures.value.0 c.if-count-le-MAX_REQUESTS.false)

pub returns-in_default-2 : goal.returns-in_default-2
returns-in_default-2 c = sym (unparsed-none c.args.word.now c.in_default.ensures.value.0)
