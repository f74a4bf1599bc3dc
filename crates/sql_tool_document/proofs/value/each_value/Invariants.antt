use Rattle.std.proofs.Common.{◌≡◌}
use Rattle.sql_tool_document.specs.inside.Seen.{items_seen}
use Rattle.sql_tool_document.specs.Members.{each}
use Rattle.sql_tool_document.specs.Scalar.{value_of}
use Rattle.sql_tool_document.proofs.EachItem.{with_front, rest_of}
use Rattle.sql_tool_document.proofs.value.each_value.Given as goal

abbrev pub invariant-loop-item : goal.invariant-loop-item
invariant-loop-item l =
    with_front l.all.items (each (value_of l.base) (rest_of l.item-items l.item-index))
    ≡ each (value_of l.base) (items_seen l.item-items)
