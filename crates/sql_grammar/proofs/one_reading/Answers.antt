use Rattle.sql_grammar.specs.Kinds as kind
use Rattle.sql_grammar.proofs.EveryKind.{one-tree}
use Rattle.sql_grammar.proofs.Readings.{one-text}
use Rattle.sql_grammar.proofs.one_reading.Goals as goal

pub returns : goal.returns
returns c =
    record {
      trees = one-tree;
      queries = λ d. one-tree d kind.Query;
      expressions = λ d. one-tree d kind.Expression;
      sources = λ d. one-tree d kind.Source;
      texts = one-text;
    }
