-- What a run over an empty buffer has written that is done.
use Rattle.std.proofs.Common.{◌≡◌, ◌∙◌, ℕ, List, [], Option, Some, subst, sym}
use Rattle.std.specs.Io.KnownBytes.{Appends}
use Rattle.sql_tool_run.specs.Command.{IsDone, IsOutputOf}
use Rattle.sql_tool_run.specs.declared.command.Command.{Command}

pub done_output : (o : Option Command) (c : Command) (input held : List ℕ) (AtEnd : Type 0) → o ≡ Some c
    → ((d : Command) × (o ≡ Some d) × IsDone d input AtEnd (λ text. Appends (Some []) (Some held) text))
    → IsOutputOf c input held
done_output o c input held AtEnd is (d, it, (at, (text, output, appended))) =
    let same : d ≡ c = (let both : Some d ≡ Some c = sym it ∙ is in cc) in
    subst (λ e. IsOutputOf e input held) same (subst (IsOutputOf d input) (sym appended) output)
