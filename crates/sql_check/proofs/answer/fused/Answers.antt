use Rattle.std.proofs.Common.{sym, ◌∙◌}
use Rattle.sql_rules_law.proofs.SafeLaws.{test}
use Rattle.sql_check.proofs.answer.fused.Goals as goal

pub returns-clause-fused : goal.returns-clause-fused
returns-clause-fused g c = λ s is. record {
  sql = c.in_ok-written.ensures.sql s is;
  binds = c.in_ok-written.ensures.binds s is;
  safe = c.in_ok-written.ensures.safe s is ∙ sym (test g.DB.Backend.speaks s);
  id = c.in_ok-id.ensures.id s is;
}
