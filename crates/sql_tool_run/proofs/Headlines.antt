-- What a run that is done has read and written.
use Rattle.std.proofs.Common.{◌≡◌, ℕ, List, Bool, true, false, Option, None, Some, refl, subst}
use Rattle.std.specs.Prelude.{IfSome}
use Rattle.std.specs.Io.KnownBytes.{Appends, Consumes, IsAtEnd}
use Rattle.sql_tool_run.proofs.Outcomes.{all-given}
use Rattle.sql_tool_run.specs.Command.{IsDone, IsOutputOf, reads_source}
use Rattle.sql_tool_run.specs.Run.{HasRead, Outcome}
use Rattle.sql_tool_run.specs.declared.command.Command.{Command}
use Rattle.sql_tool_run.specs.declared.command.Command.TheVariants.{Build, Generate, Read, Audit, Guard, Tenant}
use Rattle.sql_tool_run.specs.declared.status.Status.{Status}
use Rattle.sql_tool_run.specs.declared.status.Status.TheVariants.{Done, Usage, ReadFault}

not_usage : Done ≡ Usage → ⊥
not_usage h = cc

pub not-read-fault : (status : Status) → status ≡ Done → status ≡ ReadFault → ⊥
not-read-fault status done fault = let h : Done ≡ ReadFault = cc in cc

-- a command that reads no source writes the same whatever the source has
same-output : (c : Command) → reads_source c ≡ false → (a b text : List ℕ) → IsOutputOf c a text → IsOutputOf c b text
same-output Build unread a b text output = cc
same-output (Generate n) unread a b text output = output
same-output (Read d) unread a b text output = cc
same-output (Audit d) unread a b text output = cc
same-output Guard unread a b text output = cc
same-output Tenant unread a b text output = cc

done-if : (b : Bool) (c : Command) (input given text : List ℕ) (rest : Option (List ℕ)) → reads_source c ≡ b
    → Consumes (Some input) rest given → HasRead b given (IsAtEnd rest) → IsOutputOf c given text
    → (b ≡ true → IsAtEnd rest) × IsOutputOf c input text
done-if true c input given text rest is taken (end, small) output =
    (λ _. end, subst (λ g. IsOutputOf c g text) (all-given input given rest taken end) output)
done-if false c input given text rest is taken has output = (λ h. cc, same-output c is given input text output)

pub done-whole : (o : Option Command) (left rest held new : Option (List ℕ)) (given written : List ℕ)
    → Consumes left rest given → Appends held new written → Outcome Done o given written (IsAtEnd rest)
    → IfSome left
    (λ input. (c : Command) × (o ≡ Some c) × IsDone c input (IsAtEnd rest) (λ text. Appends held new text))
done-whole o None rest held new given written taken appended outcome = tt
done-whole None (Some input) rest held new given written taken appended outcome = absurd (not_usage outcome.0)
done-whole (Some c) (Some input) rest held new given written taken appended (has, output) =
    let (end, all) = done-if (reads_source c) c input given written rest refl taken has output in
    (c, refl, (end, (written, all, appended)))
