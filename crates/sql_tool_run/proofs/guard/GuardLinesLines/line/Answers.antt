use Rattle.std.proofs.Common.{◌≡◌, ◌∙◌, ◌+◌, subst}
use Rattle.std.specs.Prelude.{string_bytes}
use Rattle.std.proofs.lemmas.Result.{IfOk-weaker}
use Rattle.sql_tool_build.specs.Output.{StatementRequest, line_text}
use Rattle.sql_tool_build.specs.inside.Keys.{HasLine, seen_at}
use Rattle.sql_tool_document.specs.Trees.{request_tree}
use Rattle.sql_tool_guard.specs.Output.{IsGuarded}
use Rattle.sql_tool_guard.specs.declared.tenant.Tenant.{Tenant as TheTenant}
use Rattle.sql_tool_guard.specs.Trees.{tenant_tree}
use Rattle.sql_tool_run.proofs.Items.{guard-more}
use Rattle.sql_tool_run.proofs.guard.GuardLinesLines.line.Goals as goal

pub returns : goal.returns
returns c =
    let known = c.args.self.now.known in
    let item = c.args.item.now in
    let n = c.args.number in
    IfOk-weaker c.guarded_line.result _ _ (λ line has first items text number written.
    let told =
    subst
    (λ (t : TheTenant). (r : StatementRequest) × IsGuarded known.cache.schema (tenant_tree t) (request_tree item) r
    × HasLine known.cache.schema r n (seen_at known.seen) (seen_at c.guarded_line.new.seen)
    (λ l. string_bytes line ≡ line_text l))
    written.1 has in (
      c.guarded_line.ensures.schema ∙ written.0,
      written.1,
      guard-more first.known.cache.schema known.cache.schema (seen_at known.seen) (seen_at c.guarded_line.new.seen) items
          item n text (string_bytes line) number written.0 (tenant_tree first.tenant) told written.2,
    )) c.guarded_line.ensures.line
