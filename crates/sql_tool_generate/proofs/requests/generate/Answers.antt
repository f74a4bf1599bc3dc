use Rattle.std.proofs.Common.{◌≡◌, ◌∙◌, ◌+◌, ◌∷◌, ◌++◌, [], sym, subst, ap, arith, rules}
use Rattle.std.proofs.lemmas.Result.{IfOk-weaker}
use Rattle.sql_tool_build.proofs.Ids.{lines-known}
use Rattle.sql_tool_build.proofs.Lines.{line-found, line-kept, lines-more}
use Rattle.sql_tool_build.specs.Output.{AreLines}
use Rattle.sql_rows.specs.Entries.{Entries}
use Rattle.sql_tool_build.specs.inside.Keys.{line_found, seen_at}
use Rattle.sql_tool_generate.proofs.Summaries.{generated-more, next-number}
use Rattle.sql_tool_series.specs.Generated.{dialect_of}
use Rattle.sql_tool_generate.specs.Generated.{generated, request}
use Rattle.sql_tool_series.specs.Schema.{declarations}
use Rattle.sql_tool_generate.proofs.requests.generate.Goals as goal

pub loop-number-init : goal.loop-number-init
loop-number-init c = ([], tt, c.new-counts.ensures, (λ q. search rules), ap (λ (e : Entries). e.schema) c.in_ok-cache.ensures ∙ c.in_ok-series_schema.ensures)

pub loop-number-preserved : goal.loop-number-preserved
loop-number-preserved c =
    let l = c.loop-number in
    let i = l.number in
    let f = seen_at l.seen in
    let h = seen_at c.count.new.seen in
    let (ls, lines, told, tells, schema) = l.invariant in
    let (j, judged, more, kept, sound) = c.in_ok-count.ensures.line in
    let at = next-number i ls lines in
    let one = line_found f (i + 1) (dialect_of i) j in
    let grown =
    lines-more declarations [] (generated i) ls (request i) one lines
    (line-found declarations f h ls (i + 1) at tells sound (lines-known declarations [] (generated i) ls lines) (request i) j
    judged) in (
      ls ++ one ∷ [],
      subst (λ rs. AreLines declarations [] rs (ls ++ one ∷ [])) (sym (generated-more i)) grown,
      more ls at told,
      line-kept declarations f h ls (i + 1) at tells (dialect_of i) j kept,
      c.in_ok-count.ensures.schema ∙ schema,
    )

pub returns : goal.returns
returns c =
    let l = c.loop-number in
    let (ls, lines, told, tells, schema) = l.invariant in
    let done : l.number ≡ c.args.requests = omega arith in
    IfOk-weaker c.summary_line.result _ _
    (λ text h. (ls, subst (λ n. AreLines declarations [] (generated n) ls) done lines, h ls told))
    c.summary_line.ensures
