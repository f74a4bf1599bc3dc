-- What was found and tested is the only reading, and what was written is read back.
use Rattle.std.proofs.Common.{◌≡◌, ℕ, List, Some, sym, ◌∙◌, subst}
use Rattle.sql_dialect.specs.declared.backend.Dialect.{Dialect}
use Rattle.sql_grammar.specs.Token.{Token}
use Rattle.sql_grammar.specs.Tokens.{tokens}
use Rattle.sql_grammar.specs.Fits.{FitsQuery}
use Rattle.sql_grammar.specs.Text as x
use Rattle.sql_grammar.specs.MarkTree.{Query}
use Rattle.sql_grammar.specs.Reading.{IsReading, OnlyReading}
use Rattle.sql_grammar.proofs.Machine as m
use Rattle.sql_grammar.proofs.Readings.{one-text, only}
use Rattle.sql_grammar.proofs.TextLaws.{written}
use Rattle.sql_read.proofs.Found.{is_reading, mistaken}

pub found-reading : (d : Dialect) (text : List ℕ) (ts : List Token) (q : Query) → tokens d text ≡ Some ts → FitsQuery d q
    → tokens d (x.text d q) ≡ tokens d text → IsReading d text q
found-reading d text ts q e fits w = is_reading d text ts q e fits (w ∙ e)

pub only_one : (d : Dialect) (text : List ℕ) (ts : List Token) (q : Query) → tokens d text ≡ Some ts → FitsQuery d q
    → tokens d (x.text d q) ≡ tokens d text → OnlyReading d text q
only_one d text ts q e fits w = only d text q (found-reading d text ts q e fits w)

-- a text that was written for a tree has a reading
pub written-reading : (d : Dialect) (text : List ℕ) (q : Query) → FitsQuery d q → text ≡ x.text d q → IsReading d text q
written-reading d text q h is = subst (λ t. IsReading d t q) (sym is) (written d q h)

-- what was written for a tree is read as the tree
pub read_back : (d : Dialect) (text : List ℕ) (ts : List Token) (q other : Query) → tokens d text ≡ Some ts
    → FitsQuery d q → tokens d (x.text d q) ≡ tokens d text → FitsQuery d other → text ≡ x.text d other → q ≡ other
read_back d text ts q other e fits w h is =
    one-text d text q other (found-reading d text ts q e fits w) (subst (λ t. IsReading d t other) (sym is)
    (written d other h))

pub mistaken_text : (d : Dialect) (text : List ℕ) (ts : List Token) (other : Query) → tokens d text ≡ Some ts
    → m.candidate ts ≡ Some other → (tokens d (x.text d other) ≡ tokens d text → ⊥) → (q : Query) → IsReading d text q
    → ⊥
mistaken_text d text ts other e one differ q h = mistaken d text ts other e one (λ w. differ (w ∙ sym e)) q h
