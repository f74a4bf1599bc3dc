use Rattle.std.proofs.Common.{◌≡◌, ap, rules}
use Rattle.sql_read_lexer.specs.View.{keyword_of}
use Rattle.sql_read_lexer.proofs.Views.{keyword_same}
use Rattle.sql_read_lexer.proofs.same.same_keyword.Goals as goal

pub returns : goal.returns
returns c = (
  (λ k. let same : c.args.a ≡ c.args.b = search rules in ap keyword_of same),
  (λ e. let same : c.args.a ≡ c.args.b = keyword_same _ _ e in search rules),
)
