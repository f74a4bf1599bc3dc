use Rattle.std.proofs.Common.{◌≡◌, drop, map}
use Rattle.sql_grammar.specs.Tokens.{tokens, tokens_from}
use Rattle.sql_read_lexer.specs.View.{token_of}
use Rattle.sql_read_lexer.specs.inside.Cut.{IsCut}
use Rattle.sql_read_lexer.specs.inside.States.{state_of, prepended}
use Rattle.sql_read_lexer.proofs.tokens.text_tokens.Given as goal

-- The tokens so far and those of what is left are those of the whole text, which is cut between characters.
abbrev pub invariant-loop-byte : goal.invariant-loop-byte
invariant-loop-byte l = record {
  whole : prepended (map token_of l.out.items) (tokens_from l.dialect (state_of l.state)
      (drop l.byte-index l.byte-items))
      ≡ tokens l.dialect l.text;
  cut : IsCut (state_of l.state) (drop l.byte-index l.byte-items);
}
