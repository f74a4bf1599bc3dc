use Rattle.std.proofs.Common.{◌∙◌}
use Rattle.std.specs.Prelude.{string_bytes}
use Rattle.std.proofs.lemmas.Result.{IfOk-weaker}
use Rattle.sql_tool_build.specs.inside.Keys.{seen_at}
use Rattle.sql_tool_run.proofs.Items.{build-more}
use Rattle.sql_tool_run.proofs.build.BuildLinesLines.line.Goals as goal

pub returns : goal.returns
returns c =
    let known = c.args.self.now.0 in
    IfOk-weaker c.request_line.result _ _ (λ line has first items text number written. (
      c.request_line.ensures.schema ∙ written.0,
      build-more first.0.cache.schema known.cache.schema (seen_at known.seen) (seen_at c.request_line.new.seen) items
          c.args.item.now c.args.number text (string_bytes line) number written.0 has written.1,
    )) c.request_line.ensures.line
