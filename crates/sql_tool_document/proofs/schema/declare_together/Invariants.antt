use Rattle.std.proofs.Common.{◌≡◌, ◌++◌, take}
use Rattle.sql_tool_document.proofs.schema.declare_together.Given as goal

abbrev pub invariant-loop-pair : goal.invariant-loop-pair
invariant-loop-pair l =
    l.builder ≡ record l.initial.builder { together = l.initial.builder.together ++ take l.pair-index l.together }
