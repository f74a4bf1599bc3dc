use Rattle.std.proofs.Common.{map, take}
use Rattle.sql_tool_build.specs.inside.Sending.{SendsEach}
use Rattle.sql_tool_build.proofs.sent.send_list.Given as goal

abbrev pub invariant-loop-item : goal.invariant-loop-item
invariant-loop-item g l =
    SendsEach (map g.T.Sent.sent (take l.item-index l.items)) (g.S.Serializer.written l.initial.out)
    (g.S.Serializer.written l.out)
