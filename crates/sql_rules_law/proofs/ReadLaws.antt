-- A statement that breaks no rule is read as its normal tree alone.
use Rattle.std.specs.Prelude.{◌≡◌, length}
use Rattle.sql_schema.specs.Declarations.{Declarations}
use Rattle.sql_dialect.specs.declared.backend.Dialect.{Dialect}
use Rattle.sql_grammar.specs.Numbering.{Fills}
use Rattle.sql_grammar.specs.Reading.{OnlyReading}
use Rattle.sql_grammar.specs.Values.{values_query}
use Rattle.sql_pass.specs.Pieces.{text_of, values_of}
use Rattle.sql_node.specs.Pieces.{pieces}
use Rattle.sql_node.specs.Tree.{Statement}
use Rattle.sql_normal.specs.Filled.{filled, normal}
use Rattle.sql_normal.specs.inside.HasText.{HasText}
use Rattle.sql_normal.proofs.ReadingLaws as reading
use Rattle.sql_normal.proofs.TextLaws.{value-law}
use Rattle.sql_rules.specs.Rules.{Accepted}
use Rattle.sql_rules.specs.declared.rule.Rule.TheVariants as R
use Rattle.sql_rules.specs.Counted.{PlacesAreCounted}
use Rattle.sql_rules_law.proofs.TextLaws.{has_text, has_numbers}

text : (schema : Declarations) (d : Dialect) (s : Statement) → PlacesAreCounted s → Accepted schema d s → HasText d s
text schema d s counted h =
    has_text schema d s counted (h R.EmptyList) (h R.NoRelation) (h R.TypeMismatch) (h R.Unsupported)

pub only : (schema : Declarations) (d : Dialect) (s : Statement) → PlacesAreCounted s → Accepted schema d s
    → OnlyReading d (text_of d 0 (pieces d s)) (normal d s)
only schema d s counted h =
    reading.only_reading d s (text schema d s counted h) (has_numbers schema d s (h R.TooManyBinds))

pub fills : (schema : Declarations) (d : Dialect) (s : Statement) → PlacesAreCounted s → Accepted schema d s
    → Fills (normal d s) (values_of (pieces d s)) (filled d s)
fills schema d s counted h = reading.fills d s (text schema d s counted h)

pub as_many : (schema : Declarations) (d : Dialect) (s : Statement) → PlacesAreCounted s → Accepted schema d s
    → length (values_query (normal d s)) ≡ length (values_of (pieces d s))
as_many schema d s counted h = reading.as_many d s (text schema d s counted h)

pub values : (schema : Declarations) (d : Dialect) (s : Statement) → PlacesAreCounted s → Accepted schema d s
    → values_of (pieces d s) ≡ values_query (filled d s)
values schema d s counted h = value-law d s (text schema d s counted h)
