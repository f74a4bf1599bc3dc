use Rattle.std.proofs.Common.{Err, ap, inr}
use Rattle.std.proofs.lemmas.Result.{IfOk-weaker}
use Rattle.sql_tool_read.proofs.line.reading_object.Goals as goal

pub returns-in-Err-NotInGrammar : goal.returns-in-Err-NotInGrammar
returns-in-Err-NotInGrammar c =
    let none = c.in-Err-NotInGrammar.ensures.not_in_grammar (ap Err c.in-Err-NotInGrammar.field-0-is) in
    IfOk-weaker c.refused.result _ _ (λ v is. inr (none, is)) c.refused.ensures
