use Rattle.std.proofs.Common.{sym, ◌∙◌, refl}
use Rattle.sql_tool_document.proofs.Pairs.{alone-end, alone-same, alone-other, only-single}
use Rattle.sql_tool_document.proofs.member.only_entry.Goals as goal

pub loop-member-init : goal.loop-member-init
loop-member-init c = refl

pub returns-then-ne : goal.returns-then-ne
returns-then-ne c =
    let first = c.in_ok-first.first.now in
    let rest = c.in_ok-first.rest.now in
    sym
    (alone-other first.0.now c.loop-member.last.now rest c.loop-member.member-index c.member-item.result
    c.loop-member-test.true c.member-item.is c.if-ne.ensures)
    ∙ c.loop-member.invariant
    ∙ sym (only-single c.args.members.now.items first rest (sym c.as_slice.ensures.value ∙ c.in_ok-first.ensures.cases.0))

pub loop-member-preserved : goal.loop-member-preserved
loop-member-preserved c =
    let first = c.in_ok-first.first.now in
    let rest = c.in_ok-first.rest.now in
    sym
    (alone-same first.0.now c.loop-member.last.now rest c.loop-member.member-index c.member-item.result
    c.loop-member-test.true c.member-item.is c.if-ne.ensures)
    ∙ c.loop-member.invariant

pub returns : goal.returns
returns c =
    let first = c.in_ok-first.first.now in
    let rest = c.in_ok-first.rest.now in
    sym (alone-end first.0.now c.loop-member.last.now rest c.loop-member.member-index c.loop-member-test.false)
    ∙ c.loop-member.invariant
    ∙ sym (only-single c.args.members.now.items first rest (sym c.as_slice.ensures.value ∙ c.in_ok-first.ensures.cases.0))
