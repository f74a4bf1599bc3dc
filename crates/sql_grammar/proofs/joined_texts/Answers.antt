use Rattle.sql_grammar.proofs.TokenLaws.{join-law}
use Rattle.sql_grammar.proofs.joined_texts.Goals as goal

pub returns : goal.returns
returns c = join-law
