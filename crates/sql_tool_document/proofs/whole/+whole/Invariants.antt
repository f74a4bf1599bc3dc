use Rattle.std.proofs.Common.{◌≡◌, drop}
use Rattle.json.specs.Value.{items_view, members_view}
use Rattle.sql_tool_document.specs.inside.Seen.{items_are_whole, members_are_whole}
use Rattle.sql_tool_document.proofs.whole.+whole.Given as goal

abbrev pub invariant-are_items_whole-loop-item : goal.invariant-are_items_whole-loop-item
invariant-are_items_whole-loop-item l =
    items_are_whole (items_view (drop l.item-index l.item-items)) ≡ items_are_whole (items_view l.item-items)

abbrev pub invariant-are_members_whole-loop-member : goal.invariant-are_members_whole-loop-member
invariant-are_members_whole-loop-member l =
    members_are_whole (members_view (drop l.member-index l.member-items)) ≡ members_are_whole (members_view l.member-items)
