-- A text has one line, and no number in it is a float.
use Rattle.std.proofs.Common.{◌≡◌, ◌∙◌, ℕ, List, [], ◌∷◌, ◌++◌, false, ap, inl, inr, sym}
use Rattle.serde_json.specs.Data.{Data}
use Rattle.serde_json.specs.Written.{compact_text, has_float}
use Rattle.sql_dialect.specs.declared.backend.Dialect.{Dialect}
use Rattle.sql_tool_read.specs.Line.{IsReadingLine, IsReadingObject, written}

one-object : (d : Dialect) (text : List ℕ) (a b : Data) → IsReadingObject d text a → IsReadingObject d text b → a ≡ b
one-object d text a b (inl (q, only, is)) (inl (r, also, it)) = is ∙ ap (written d) (also.1 q only.0) ∙ sym it
one-object d text a b (inl (q, only, is)) (inr (none, it)) = absurd (none q only.0)
one-object d text a b (inr (none, is)) (inl (r, also, it)) = absurd (none r also.0)
one-object d text a b (inr (none, is)) (inr (too, it)) = is ∙ sym it

pub one-line : (d : Dialect) (text a b : List ℕ) → IsReadingLine d text a → IsReadingLine d text b → a ≡ b
one-line d text a b (o, reads, is) (p, also, it) =
    is ∙ ap (λ x. compact_text x ++ 10 ∷ []) (one-object d text o p reads also) ∙ sym it

-- no number of a line is a float
pub float-free : (d : Dialect) (text : List ℕ) (o : Data) → IsReadingObject d text o → has_float o ≡ false
float-free d text o (inl (q, only, is)) = ap has_float is
float-free d text o (inr (none, is)) = ap has_float is
