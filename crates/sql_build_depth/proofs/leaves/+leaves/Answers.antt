use Rattle.std.proofs.Common.{◌≡◌, ap, ◌∙◌, sym}
use Rattle.sql_build_depth.specs.Leaves as leaf
use Rattle.sql_build_syntax.specs.View.{call_tree}
use Rattle.sql_build_depth.specs.inside.Capped.{capped}
use Rattle.sql_build_depth.proofs.Depths.{capped_twice}
use Rattle.sql_build_depth.proofs.Sums.{calls_go_on}
use Rattle.sql_build_depth.proofs.leaves.+leaves.Goals as goal

pub calls_leaves-loop-call-preserved : goal.calls_leaves-loop-call-preserved
calls_leaves-loop-call-preserved t c = (
  calls_go_on c.args.calls.now c.loop-call.call-index c.call-item.result c.loop-call.leaves
      c.call_leaves-leaves.result _ c.loop-call-test.true c.call-item.is c.call_leaves-leaves.ensures
      c.loop-call.invariant.0,
  ap capped c.call_leaves-leaves.ensures
      ∙ capped_twice (leaf.call_leaves (call_tree c.call-item.result) c.loop-call.leaves)
      ∙ sym c.call_leaves-leaves.ensures,
)
