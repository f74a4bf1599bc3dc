use Rattle.std.proofs.Common.{Err, refl, ap, inr}
use Rattle.sql_audit.proofs.auditing.read_text.Goals as goal

pub returns-in-Err-NotInGrammar-clause-refused : goal.returns-in-Err-NotInGrammar-clause-refused
returns-in-Err-NotInGrammar-clause-refused c =
    inr (refl, c.in-Err-NotInGrammar.ensures.not_in_grammar (ap (λ e. Err e) c.in-Err-NotInGrammar.field-0-is))
