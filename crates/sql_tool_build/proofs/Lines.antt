-- Lines, and what is written of them so far.
use Rattle.std.proofs.Common.{◌≡◌, ℕ, suc, ◌+◌, List, [], ◌∷◌, ◌++◌, map, length, Option, None, refl, sym, ap, ap₂, subst, ◌∙◌, append_assoc, append-nil}
use Rattle.std.proofs.lemmas.List.{length-map, map-append}
use Rattle.sql_dialect.specs.declared.backend.Dialect.{Dialect}
use Rattle.sql_schema.specs.Declarations.{Declarations}
use Rattle.sql_schema.specs.Refusals.{least_refusal}
use Rattle.sql_rules.specs.Lists.{Each}
use Rattle.sql_tool_build.proofs.Ids.{found-id, judged-known, lines-known, LineKnown}
use Rattle.sql_tool_build.proofs.Keys.{tells-more}
use Rattle.sql_tool_build.specs.Ids.{RequestShape}
use Rattle.sql_tool_build.specs.Judgement.{Judgement, Judges}
use Rattle.sql_tool_build.specs.Output.{Line, StatementRequest, IsLine, AreLines, line_shape, line_text, lines_text}
use Rattle.sql_rows.specs.declared.cache.RequestKey.{RequestKey}
use Rattle.sql_tool_build.specs.inside.Keys.{request_key, line_found, line_key, HasLine, IsKept, Tells, AreWritten}

-- ---- the lines so far, and one more

pub lines-length : (schema : Declarations) (earlier : List (Option RequestShape)) (rs : List StatementRequest)
    (ls : List Line)
    → AreLines schema earlier rs ls → length ls ≡ length rs
lines-length schema earlier [] [] h = refl
lines-length schema earlier [] (l ∷ ls) h = absurd h
lines-length schema earlier (r ∷ rs) [] h = absurd h
lines-length schema earlier (r ∷ rs) (l ∷ ls) h =
    ap suc (lines-length schema (earlier ++ line_shape l ∷ []) rs ls h.1)

pub lines-more : (schema : Declarations) (earlier : List (Option RequestShape)) (rs : List StatementRequest)
    (ls : List Line) (r : StatementRequest) (l : Line)
    → AreLines schema earlier rs ls → IsLine schema (earlier ++ map line_shape ls) r l
    → AreLines schema earlier (rs ++ r ∷ []) (ls ++ l ∷ [])
lines-more schema earlier [] [] r l h one = (subst (λ e. IsLine schema e r l) (append-nil earlier) one, tt)
lines-more schema earlier [] (k ∷ ls) r l h one = absurd h
lines-more schema earlier (q ∷ rs) [] r l h one = absurd h
lines-more schema earlier (q ∷ rs) (k ∷ ls) r l h one = (
  h.0,
  lines-more schema (earlier ++ line_shape k ∷ []) rs ls r l h.1
      (subst (λ e. IsLine schema e r l) (sym (append_assoc earlier (line_shape k ∷ []) (map line_shape ls))) one),
)

pub text-more : (ls : List Line) (l : Line) → lines_text (ls ++ l ∷ []) ≡ lines_text ls ++ line_text l
text-more [] l = append-nil (line_text l)
text-more (k ∷ ls) l =
    ap (λ t. line_text k ++ t) (text-more ls l) ∙ sym (append_assoc (line_text k) (lines_text ls) (line_text l))

-- ---- the line that is found

module _ (schema : Declarations) (f g : RequestKey → Option ℕ) (ls : List Line) (n : ℕ) (number : n ≡ 1 + length ls) (tells : Tells f (map line_key ls)) where
  pub line-found : least_refusal schema ≡ None → Each (LineKnown schema) ls → (r : StatementRequest) (j : Judgement)
      → Judges schema r.dialect r.statement j → IsLine schema (map line_shape ls) r (line_found f n r.dialect j)
  line-found sound known r j judged = record {
    dialect = refl;
    judged = judged;
    id =
        found-id schema sound f ls known n number tells r.dialect j
        (judged-known schema r.dialect r.dialect r.statement j judged None);
  }

  pub line-kept : (d : Dialect) (j : Judgement) → IsKept f g n (request_key d j)
      → Tells g (map line_key (ls ++ line_found f n d j ∷ []))
  line-kept d j kept =
      subst (Tells g) (sym (map-append line_key ls (line_found f n d j ∷ [])))
      (tells-more f g (map line_key ls) (request_key d j) n tells
      (number ∙ ap (λ m. 1 + m) (sym (length-map ls line_key))) kept)

-- the lines of these requests are written, and that of one more
pub written-more : (schema : Declarations) (f g : RequestKey → Option ℕ) (rs : List StatementRequest) (n : ℕ)
    (text line : List ℕ) (r : StatementRequest) → n ≡ 1 + length rs → AreWritten schema f rs text
    → HasLine schema r n f g (λ l. line ≡ line_text l) → AreWritten schema g (rs ++ r ∷ []) (text ++ line)
written-more schema f g rs n text line r number (ls, lines, tells, is) (j, judged, told, kept, sound) =
    let one = line_found f n r.dialect j in
    let counted : n ≡ 1 + length ls = number ∙ ap (λ m. 1 + m) (sym (lines-length schema [] rs ls lines)) in (
      ls ++ one ∷ [],
      lines-more schema [] rs ls r one lines (line-found schema f g ls n counted tells sound (lines-known schema [] rs ls lines) r j judged),
      line-kept schema f g ls n counted tells r.dialect j kept,
      ap₂ (λ a b. a ++ b) is told ∙ sym (text-more ls one),
    )
