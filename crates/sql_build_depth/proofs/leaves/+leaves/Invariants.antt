use Rattle.std.proofs.Common.{◌≡◌, drop, map}
use Rattle.sql_build_depth.specs.Leaves.{calls_leaves}
use Rattle.sql_build_syntax.specs.View.{call_tree, calls_of}
use Rattle.sql_build_depth.specs.inside.Capped.{capped}
use Rattle.sql_build_depth.proofs.leaves.+leaves.Given as goal

abbrev pub invariant-calls_leaves-loop-call : goal.invariant-calls_leaves-loop-call
invariant-calls_leaves-loop-call l =
    (capped (calls_leaves (calls_of (map call_tree (drop l.call-index l.calls))) l.leaves)
    ≡ capped (calls_leaves (calls_of (map call_tree l.calls)) l.fn.before))
    × (capped l.leaves ≡ l.leaves)
