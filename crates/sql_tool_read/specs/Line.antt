-- The line of a text: the JSON object (RFC 8259) of what it is read as, and a newline.
use Rattle.std.specs.Prelude.{◌≡◌, ℕ, List, [], ◌∷◌, ◌++◌, ◌⊎◌, length, codes}
use Rattle.serde_json.specs.Data.{Data, number, string, object, unsigned, no_members, member}
use Rattle.serde_json.specs.Written.{compact_text}
use Rattle.sql_dialect.specs.declared.backend.Dialect.{Dialect}
use Rattle.sql_grammar.specs.MarkTree.{Query}
use Rattle.sql_grammar.specs.Reading.{OnlyReading}
use Rattle.sql_grammar.specs.Text.{text as text_of}
use Rattle.sql_grammar.specs.Values.{values_query}
use Rattle.sql_read.specs.Seen.{HasNoReading}
use Rattle.sql_read_tree.specs.Counts.{capped}

-- how many placeholders the tree has, and its text
abbrev pub written : Dialect → Query → Data
written d q =
    object (member (codes "placeholders") (number (unsigned (capped (length (values_query q)))))
    (member (codes "sql") (string (text_of d q)) no_members))

abbrev pub refused : Data
refused = object (member (codes "refused") (string (codes "NotInGrammar")) no_members)

-- The object of a text: of its only reading, or the refusal where it has none.
abbrev pub IsReadingObject : Dialect → List ℕ → Data → Type 0
IsReadingObject d text o =
    ((q : Query) × OnlyReading d text q × (o ≡ written d q)) ⊎ (HasNoReading d text × (o ≡ refused))

-- compact JSON, and a newline
abbrev pub IsReadingLine : Dialect → List ℕ → List ℕ → Type 0
IsReadingLine d text line = (o : Data) × IsReadingObject d text o × (line ≡ compact_text o ++ 10 ∷ [])
