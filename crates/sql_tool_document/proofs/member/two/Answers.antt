use Rattle.std.proofs.Common.{arith, option_and_then, ap, ◌∙◌}
use Rattle.sql_tool_document.specs.Members.{two_items}
use Rattle.sql_tool_document.proofs.Pairs.{not_two_items}
use Rattle.sql_tool_document.proofs.member.two.Goals as goal

pub returns-then-len-ne2 : goal.returns-then-len-ne2
returns-then-len-ne2 c =
    not_two_items c.in_ok-items.items.now.items (λ two. omega arith)
    ∙ ap (option_and_then two_items) c.in_ok-items.ensures
