use Rattle.std.proofs.Common.{◌≡◌, ◌∙◌, [], map, None, refl, subst, sym}
use Rattle.std.specs.Prelude.{string_bytes}
use Rattle.std.specs.Io.KnownBytes.{IsAtEnd}
use Rattle.std.proofs.KnownBytes.{Appends-nil, Consumes-nil}
use Rattle.sql_tool_run.proofs.Taking.{took-consumed}
use Rattle.sql_tool_run.specs.Command.{command_of}
use Rattle.sql_tool_run.specs.Run.{Outcome}
use Rattle.sql_tool_run.specs.declared.status.Status.TheVariants.{Usage}
use Rattle.sql_tool_run.proofs.program.perform.Goals as goal

pub returns-in-None-clause-outcome : goal.returns-in-None-clause-outcome
returns-in-None-clause-outcome g c =
    let none : command_of (map string_bytes c.args.words.now) ≡ None = sym c.from_words.ensures ∙ c.in-None.is in (
      [],
      [],
      took-consumed _ _ _ _ (Consumes-nil _),
      Appends-nil _,
      subst (λ o. Outcome Usage o [] [] (IsAtEnd (g.S.Source.left c.args.source.now))) (sym none) (refl, refl, refl),
    )
