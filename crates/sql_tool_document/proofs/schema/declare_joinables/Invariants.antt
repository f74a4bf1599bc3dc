use Rattle.std.proofs.Common.{◌≡◌, ◌++◌, take}
use Rattle.sql_tool_document.proofs.schema.declare_joinables.Given as goal

abbrev pub invariant-loop-joinable : goal.invariant-loop-joinable
invariant-loop-joinable l =
    l.builder
    ≡ record l.initial.builder { joinables = l.initial.builder.joinables ++ take l.joinable-index l.joinables }
