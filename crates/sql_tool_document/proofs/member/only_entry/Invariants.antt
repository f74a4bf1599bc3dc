use Rattle.std.proofs.Common.{◌≡◌, drop}
use Rattle.json.specs.Value.{members_view}
use Rattle.sql_tool_document.specs.inside.Seen.{alone, seen}
use Rattle.sql_tool_document.proofs.member.only_entry.Given as goal

abbrev pub invariant-loop-member : goal.invariant-loop-member
invariant-loop-member l =
    alone l.first.0.now (seen l.last) (members_view (drop l.member-index l.rest))
    ≡ alone l.first.0.now (seen l.first.1) (members_view l.rest)
