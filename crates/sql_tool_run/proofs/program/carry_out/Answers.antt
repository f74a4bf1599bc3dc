use Rattle.std.proofs.Common.{rules, ◌≡◌, [], false}
use Rattle.std.specs.Io.KnownBytes.{IsAtEnd}
use Rattle.std.proofs.KnownBytes.{Consumes-nil}
use Rattle.sql_tool_run.proofs.Endings.{ends-unread}
use Rattle.sql_tool_run.proofs.Taking.{took-consumed}
use Rattle.sql_tool_run.specs.Command.{reads_source}
use Rattle.sql_tool_run.proofs.program.carry_out.Goals as goal

pub returns-then-not-reads_source-clause-outcome : goal.returns-then-not-reads_source-clause-outcome
returns-then-not-reads_source-clause-outcome g c =
    let left = g.S.Source.left c.args.source.now in
    let unread : reads_source c.args.command ≡ false = search rules in
    let (written, appended, response) = c.answer.ensures.response in (
      [],
      written,
      took-consumed c.answer.result left left [] (Consumes-nil left),
      appended,
      ends-unread c.answer.result c.args.command written (IsAtEnd left) unread response,
    )
