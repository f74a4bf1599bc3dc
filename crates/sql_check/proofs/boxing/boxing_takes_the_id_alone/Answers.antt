use Rattle.std.proofs.Common.{ap, sym, ◌∙◌}
use Rattle.sql_pass.specs.Pieces.{text_of, values_of, is_safe}
use Rattle.sql_select.specs.Changes.{boxed_for}
use Rattle.sql_select.specs.Clauses.{statement_of}
use Rattle.sql_rules_law.proofs.SafeLaws.{test}
use Rattle.sql_check.proofs.SamePieces as laws
use Rattle.sql_check.proofs.boxing.boxing_takes_the_id_alone.Goals as goal

pub returns : goal.returns
returns c = record {
  text = λ schema d s before after. ap (text_of d 0) (laws.boxed_pieces schema d s before after);
  binds = λ schema d s before after. ap values_of (laws.boxed_pieces schema d s before after);
  safe = λ schema d c before after.
      test d (boxed_for d (statement_of c)) ∙ ap is_safe (laws.boxed_pieces schema d c before after)
      ∙ sym (test d (statement_of c));
  id = laws.boxed_has_no_id;
}
