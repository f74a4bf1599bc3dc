-- The normal tree is the only reading of a statement's text, and its placeholders stand for the statement's values.
use Rattle.std.proofs.Common.{◌≡◌, sym, ap, ◌∙◌, subst}
use Rattle.std.specs.Prelude.{length}
use Rattle.sql_dialect.specs.declared.backend.Dialect.{Dialect}
use Rattle.sql_grammar.specs.Numbering.{Fills}
use Rattle.sql_grammar.specs.Reading.{OnlyReading}
use Rattle.sql_grammar.specs.Values.{values_query}
use Rattle.sql_grammar.proofs.Filling as filling
use Rattle.sql_grammar.proofs.Readings.{only-reading}
use Rattle.sql_pass.specs.Pieces.{text_of, values_of}
use Rattle.sql_node.specs.Pieces.{pieces}
use Rattle.sql_node.specs.Tree.{Statement}
use Rattle.sql_normal.specs.Filled.{filled, normal}
use Rattle.sql_normal.specs.inside.HasText.{HasText, HasNumbers}
use Rattle.sql_normal.proofs.FitsLaws.{normal-fits}
use Rattle.sql_normal.proofs.TextLaws.{text-law, value-law}

pub only_reading : (d : Dialect) (s : Statement) → HasText d s → HasNumbers d (length (values_of (pieces d s)))
    → OnlyReading d (text_of d 0 (pieces d s)) (normal d s)
only_reading d s k h =
    subst (λ t. OnlyReading d t (normal d s)) (sym (text-law d s k)) (only-reading d (normal d s) (normal-fits d s k h))

pub fills : (d : Dialect) (s : Statement) → HasText d s → Fills (normal d s) (values_of (pieces d s)) (filled d s)
fills d s k = subst (λ vs. Fills (normal d s) vs (filled d s)) (sym (value-law d s k)) (filling.fills d (filled d s))

pub as_many : (d : Dialect) (s : Statement) → HasText d s
    → length (values_query (normal d s)) ≡ length (values_of (pieces d s))
as_many d s k = filling.as_many d (filled d s) ∙ ap length (sym (value-law d s k))
