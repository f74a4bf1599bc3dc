-- The readings of a text: a reading of it in a dialect is a tree that the dialect's grammar has for the text's tokens.
use Rattle.std.specs.Prelude.{◌≡◌, ℕ, List, Some}
use Rattle.sql_dialect.specs.declared.backend.Dialect.{Dialect}
use Rattle.sql_grammar.specs.Token.{Token}
use Rattle.sql_grammar.specs.Tokens.{tokens}
use Rattle.sql_grammar.specs.Grammar.{Reads}
use Rattle.sql_grammar.specs.MarkTree.{Query}

abbrev pub IsReading : Dialect → List ℕ → Query → Type 0
IsReading d text q = (ts : List Token) × (tokens d text ≡ Some ts) × Reads d ts q

-- The tree is a reading of the text, and every reading of it is this tree.
abbrev pub OnlyReading : Dialect → List ℕ → Query → Type 0
OnlyReading d text q = IsReading d text q × ((other : Query) → IsReading d text other → other ≡ q)
