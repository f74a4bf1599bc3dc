use Rattle.std.specs.Io.KnownBytes.{IsAtEnd}
use Rattle.std.proofs.Common.{map, subst}
use Rattle.std.specs.Prelude.{string_bytes}
use Rattle.sql_tool_generate.proofs.Summaries.{one-summary}
use Rattle.sql_tool_build.proofs.Ids.{one-id-serves, one-shape-one-id}
use Rattle.sql_tool_build.proofs.Once.{one-output, prefix-of-output}
use Rattle.sql_tool_read.proofs.Once.{one-line}
use Rattle.sql_tool_run.proofs.Commands.{is-told}
use Rattle.sql_tool_run.proofs.Headlines.{done-whole, not-read-fault}
use Rattle.sql_tool_run.proofs.Once.{one-answer}
use Rattle.sql_tool_run.proofs.Outcomes as outcomes
use Rattle.sql_tool_stream.specs.Causes.{HasRisen}
use Rattle.sql_tool_run.specs.Command.{command_of}
use Rattle.sql_tool_run.specs.Run.{Outcome}
use Rattle.sql_tool_run.proofs.program.run.Goals as goal

pub returns-clause-command : goal.returns-clause-command
returns-clause-command g c = is-told

pub returns-clause-headline : goal.returns-clause-headline
returns-clause-headline g c = λ done.
    let words = map string_bytes c.args.words.now in
    let (given, written, took, appended, outcome) = c.perform.ensures.outcome in
    done-whole (command_of words) _ _ _ _ given written (took.1 (not-read-fault _ done)) appended
    (subst (λ s. Outcome s (command_of words) given written (IsAtEnd (g.S.Source.left c.perform.new.source))) done
    outcome)

pub returns-clause-one_answer : goal.returns-clause-one_answer
returns-clause-one_answer g c = one-answer

pub returns-clause-one_output : goal.returns-clause-one_output
returns-clause-one_output g c = one-output

pub returns-clause-prefix : goal.returns-clause-prefix
returns-clause-prefix g c = prefix-of-output

pub returns-clause-one_summary : goal.returns-clause-one_summary
returns-clause-one_summary g c = one-summary

pub returns-clause-one_line : goal.returns-clause-one_line
returns-clause-one_line g c = one-line

pub returns-clause-one_id : goal.returns-clause-one_id
returns-clause-one_id g c = one-id-serves

pub returns-clause-one_shape : goal.returns-clause-one_shape
returns-clause-one_shape g c = one-shape-one-id

pub returns-clause-usage : goal.returns-clause-usage
returns-clause-usage g c =
    let words = map string_bytes c.args.words.now in
    let (given, written, took, appended, outcome) = c.perform.ensures.outcome in
    outcomes.usage c.perform.result (command_of words) given written
    (IsAtEnd (g.S.Source.left c.perform.new.source)) outcome

pub returns-clause-too_large : goal.returns-clause-too_large
returns-clause-too_large g c =
    let words = map string_bytes c.args.words.now in
    let (given, written, took, appended, outcome) = c.perform.ensures.outcome in
    outcomes.too-large c.perform.result (command_of words) (g.S.Source.left c.args.source.now)
    (g.S.Source.left c.perform.new.source) given written took outcome

pub returns-clause-nothing : goal.returns-clause-nothing
returns-clause-nothing g c = λ silent.
    let words = map string_bytes c.args.words.now in
    let (given, written, took, appended, outcome) = c.perform.ensures.outcome in
    outcomes.kept (g.K.Sink.held c.args.sink.now) (g.K.Sink.held c.perform.new.sink) written
    (outcomes.nothing c.perform.result (command_of words) given written (IsAtEnd (g.S.Source.left c.perform.new.source))
    outcome silent)
    appended

pub returns-clause-decided : goal.returns-clause-decided
returns-clause-decided g c =
    let words = map string_bytes c.args.words.now in
    let (given, written, took, appended, outcome) = c.perform.ensures.outcome in
    outcomes.decided c.perform.result (command_of words) (g.S.Source.left c.args.source.now)
    (g.S.Source.left c.perform.new.source) given written took outcome

pub returns-clause-complete : goal.returns-clause-complete
returns-clause-complete g c =
    let words = map string_bytes c.args.words.now in
    let (given, written, took, appended, outcome) = c.perform.ensures.outcome in
    outcomes.complete c.perform.result (command_of words) (g.S.Source.left c.args.source.now)
    (HasRisen (g.S.Source.faults c.args.source.now) (g.S.Source.faults c.perform.new.source))
    (HasRisen (g.K.Sink.faults c.args.sink.now) (g.K.Sink.faults c.perform.new.sink))
    c.perform.ensures.read_fault c.perform.ensures.write_fault
    (outcomes.decided c.perform.result (command_of words) (g.S.Source.left c.args.source.now)
    (g.S.Source.left c.perform.new.source) given written took outcome)
