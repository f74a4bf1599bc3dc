use Rattle.sql_grammar.proofs.TokenRules.{name-rule}
use Rattle.sql_grammar.proofs.quoted_name.Goals as goal

pub returns : goal.returns
returns c = name-rule
