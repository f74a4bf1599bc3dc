-- What has been read of the token at hand, as the program keeps it.
use Rattle.std.specs.Prelude.{◌≡◌, List, ◌++◌, Option, Some, None, Result, Ok, Err}
use Rattle.sql_read_lexer.specs.declared.state.State.{State}
use Rattle.sql_read_lexer.specs.declared.state.State.TheVariants as s
use Rattle.sql_read_lexer.specs.declared.state.End.{End}
use Rattle.sql_read_lexer.specs.declared.state.End.TheVariants as e
use Rattle.sql_grammar.specs.Token as g
use Rattle.sql_grammar.specs.Tokens as lex
use Rattle.sql_read_lexer.specs.View.{token_of}

abbrev pub state_of : State → lex.State
state_of s.Between = lex.Between
state_of (s.InName n) = lex.InName n.items
state_of (s.AfterQuote n) = lex.AfterQuote n.items
state_of (s.InWord w) = lex.InWord w.items
state_of (s.InNumber ds) = lex.InNumber ds.items
state_of s.AfterAt = lex.AfterAt
state_of s.AfterDollar = lex.AfterDollar
state_of (s.InPlaceholder ds) = lex.InPlaceholder ds.items
state_of s.AfterBang = lex.AfterBang
state_of s.AfterLess = lex.AfterLess
state_of s.AfterGreater = lex.AfterGreater
state_of (s.Whole t) = lex.Whole (token_of t)

-- the next state, or none, and then the state as it was
abbrev pub Found : Option lex.State → lex.State → Result State State → Type 0
Found next old (Ok s) = next ≡ Some (state_of s)
Found next old (Err s) = (next ≡ None) × (state_of s ≡ old)

-- tokens before those after them, where these are some
abbrev pub prepended : List g.Token → Option (List g.Token) → Option (List g.Token)
prepended xs None = None
prepended xs (Some ys) = Some (xs ++ ys)

abbrev pub end_of : End → lex.Ending
end_of e.Nothing = lex.Nothing
end_of e.Broken = lex.Broken
end_of (e.Is t) = lex.Is (token_of t)
