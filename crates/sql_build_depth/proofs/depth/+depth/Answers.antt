use Rattle.std.proofs.Common.{◌≡◌, ◌+◌, max, ap, ◌∙◌, sym, map}
use Rattle.sql_build_depth.specs.Depth as deep
use Rattle.sql_build_syntax.specs.View.{call_tree, calls_of, expr_tree}
use Rattle.sql_build_depth.specs.inside.Capped.{capped, capped_depths}
use Rattle.sql_build_depth.proofs.Depths.{all_capped, calls_capped, capped_twice, calls_go_on, key_goes_on, step_capped}
use Rattle.sql_build_depth.proofs.depth.+depth.Goals as goal

pub after_calls-loop-call-init : goal.after_calls-loop-call-init
after_calls-loop-call-init t c =
    let before = deep.begun c.args.source c.args.start in (
      ap (λ x. capped_depths (deep.after_calls (calls_of (map call_tree c.args.calls.now)) x)) c.begun-depths.ensures
          ∙ calls_capped (calls_of (map call_tree c.args.calls.now)) before,
      ap capped_depths c.begun-depths.ensures ∙ all_capped before ∙ sym c.begun-depths.ensures,
    )

pub after_calls-loop-call-preserved : goal.after_calls-loop-call-preserved
after_calls-loop-call-preserved t c = (
  calls_go_on c.args.calls.now c.loop-call.call-index c.call-item.result c.loop-call.depths
      c.after_call-depths.result _ c.loop-call-test.true c.call-item.is c.after_call-depths.ensures
      c.loop-call.invariant.0,
  ap capped_depths c.after_call-depths.ensures
      ∙ all_capped (deep.after_call (call_tree c.call-item.result) c.loop-call.depths)
      ∙ sym c.after_call-depths.ensures,
)

pub key_depth-loop-expr-preserved : goal.key_depth-loop-expr-preserved
key_depth-loop-expr-preserved t c =
    let depth = c.loop-expr.depth in
    let value = deep.expr_depth (expr_tree c.expr-item.result) in
    let comparison : c.saturating_add-comparison.result ≡ capped (capped value + 1) =
    c.saturating_add-comparison.ensures ∙ ap (λ n. capped (n + 1)) c.expr_depth.ensures in
    let deeper : c.max.result ≡ max depth (capped (capped value + 1)) = c.max.ensures ∙ ap (max depth) comparison in
    let found : c.saturating_add-depth.result ≡ capped (1 + max depth (1 + value)) =
    c.saturating_add-depth.ensures ∙ ap (λ n. capped (n + 1)) deeper ∙ step_capped depth value in (
      key_goes_on c.args.key.now c.loop-expr.expr-index c.expr-item.result depth c.saturating_add-depth.result _
          c.loop-expr-test.true c.expr-item.is found c.loop-expr.invariant.0,
      ap capped found ∙ capped_twice (1 + max depth (1 + value)) ∙ sym found,
    )
