use Rattle.sql_grammar.proofs.Readings.{only-reading}
use Rattle.sql_grammar.proofs.TextLaws.{mark-placeholder}
use Rattle.sql_grammar.proofs.written.Goals as goal

pub returns : goal.returns
returns c = record { tree = only-reading; place = mark-placeholder }
