-- From readings of token lists to readings of texts.
use Rattle.std.proofs.Common.{◌≡◌, ℕ, List, Option, Some, None, sym, ap, ◌∙◌, subst}
use Rattle.sql_dialect.specs.declared.backend.Dialect.{Dialect}
use Rattle.sql_grammar.specs.Token.{Token}
use Rattle.sql_grammar.specs.Grammar.{Reads}
use Rattle.sql_grammar.specs.Fits.{FitsQuery}
use Rattle.sql_grammar.specs.MarkTree.{Query}
use Rattle.sql_grammar.specs.Text.{text}
use Rattle.sql_grammar.specs.Reading.{IsReading, OnlyReading}
use Rattle.sql_grammar.specs.Kinds as kind
use Rattle.sql_grammar.proofs.EveryKind.{one-tree}
use Rattle.sql_grammar.proofs.TextLaws.{written}

some_back : List Token → Option (List Token) → List Token
some_back x None = x
some_back x (Some y) = y

-- No text has two readings.
pub one-text : (d : Dialect) (t : List ℕ) (a b : Query) → IsReading d t a → IsReading d t b → a ≡ b
unfolding some_back
one-text d t a b x y =
    one-tree d kind.Query x.0 a b x.2 (subst (λ ts. Reads d ts b) (ap (some_back x.0) (sym y.1 ∙ x.1)) y.2)

-- Where a tree is a reading, it is the only one.
pub only : (d : Dialect) (t : List ℕ) (q : Query) → IsReading d t q → OnlyReading d t q
only d t q reading = (reading, λ other r. one-text d t other q r reading)

pub only-reading : (d : Dialect) (q : Query) → FitsQuery d q → OnlyReading d (text d q) q
only-reading d q fits = only d (text d q) q (written d q fits)
