-- A text is cut between characters, though it is read byte by byte: a name ends at a quote, which is ASCII, and each byte
-- outside a name is ASCII.
use Rattle.std.specs.Prelude.{ℕ, List, ◌++◌}
use Rattle.std.specs.Str.{IsUtf8}
use Rattle.sql_grammar.specs.Tokens.{State, InName, AfterQuote, InNumber}

-- What has been read of the token at hand and what is left are UTF-8: of a name they are so together, else each for
-- itself.
abbrev pub IsCut : State → List ℕ → Type 0
IsCut (InName name) rest = IsUtf8 (name ++ rest)
IsCut (AfterQuote name) rest = IsUtf8 name × IsUtf8 rest
IsCut (InNumber digits) rest = IsUtf8 digits × IsUtf8 rest
IsCut s rest = IsUtf8 rest

-- Where the token at hand ends, its name is UTF-8, and so are its digits.
abbrev pub IsText : State → Type 0
IsText (AfterQuote name) = IsUtf8 name
IsText (InNumber digits) = IsUtf8 digits
IsText s = Unit {0}
