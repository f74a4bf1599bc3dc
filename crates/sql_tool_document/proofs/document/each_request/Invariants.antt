use Rattle.std.proofs.Common.{◌≡◌, map}
use Rattle.sql_tool_document.specs.inside.Seen.{items_seen}
use Rattle.sql_tool_document.specs.Documents.{request_of}
use Rattle.sql_tool_document.specs.Members.{each}
use Rattle.sql_tool_document.specs.Trees.{request_tree}
use Rattle.sql_tool_document.proofs.EachItem.{with_front, rest_of}
use Rattle.sql_tool_document.proofs.document.each_request.Given as goal

abbrev pub invariant-loop-item : goal.invariant-loop-item
invariant-loop-item l =
    with_front (map request_tree l.all.items) (each request_of (rest_of l.item-items l.item-index))
    ≡ each request_of (items_seen l.item-items)
