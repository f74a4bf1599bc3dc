use Rattle.std.proofs.Common.{◌≡◌, drop, map}
use Rattle.sql_build_syntax.specs.View.{call_tree, calls_of}
use Rattle.sql_build.specs.inside.Replaced.{is_replaced}
use Rattle.sql_build.proofs.replaced.is_replaced.Given as goal

abbrev pub invariant-loop-call : goal.invariant-loop-call
invariant-loop-call l =
    is_replaced (calls_of (map call_tree (drop l.call-index l.calls)))
    ≡ is_replaced (calls_of (map call_tree l.calls))
