-- A text has at most one line.
use Rattle.std.proofs.Common.{◌≡◌, ◌∙◌, ℕ, List, [], ◌∷◌, ◌++◌, ap, inl, inr, refl, sym}
use Rattle.serde_json.specs.Data.{Data}
use Rattle.serde_json.specs.Written.{compact_text}
use Rattle.sql_dialect.specs.declared.backend.Dialect.{Dialect}
use Rattle.sql_schema.specs.declared.declaration.TableDecl.{TableDecl}
use Rattle.sql_tool_document.specs.Texts.{Texts}
use Rattle.sql_audit.proofs.Once.{not-both, one-refusal, one-report}
use Rattle.sql_tool_audit.specs.Line.{IsAuditLine, IsAuditObject, refusal_text, refused, report_data}
use Rattle.sql_tool_audit.specs.Output.{AreAuditLines, IsAuditOutput, joined}

one-object : (d : Dialect) (ts : List TableDecl) (text : List ℕ) (a b : Data) → IsAuditObject d ts text a
    → IsAuditObject d ts text b → a ≡ b
one-object d ts text a b (inl (r, told, is)) (inl (s, also, it)) =
    is ∙ ap report_data (one-report d ts text r s told also) ∙ sym it
one-object d ts text a b (inl (r, told, is)) (inr (e, known, refuses, it)) =
    absurd (known (not-both d ts text r e told refuses))
one-object d ts text a b (inr (e, known, refuses, is)) (inl (r, told, it)) =
    absurd (known (not-both d ts text r e told refuses))
one-object d ts text a b (inr (e, some, refuses, is)) (inr (f, known, also, it)) =
    is ∙ ap (λ x. refused (refusal_text x)) (one-refusal d ts text e f some known refuses also) ∙ sym it

one-line : (d : Dialect) (ts : List TableDecl) (text a b : List ℕ) → IsAuditLine d ts text a → IsAuditLine d ts text b → a ≡ b
one-line d ts text a b (o, told, is) (p, also, it) =
    is ∙ ap (λ x. compact_text x ++ 10 ∷ []) (one-object d ts text o p told also) ∙ sym it

same-lines : (d : Dialect) (ts : List TableDecl) (texts ls ks : List (List ℕ)) → AreAuditLines d ts texts ls
    → AreAuditLines d ts texts ks → ls ≡ ks
same-lines d ts [] [] [] first second = refl
same-lines d ts [] [] (k ∷ ks) first second = absurd second
same-lines d ts [] (l ∷ ls) ks first second = absurd first
same-lines d ts (t ∷ texts) [] ks first second = absurd first
same-lines d ts (t ∷ texts) (l ∷ ls) [] first second = absurd second
same-lines d ts (t ∷ texts) (l ∷ ls) (k ∷ ks) first second =
    let head = one-line d ts t l k first.0 second.0 in
    let tail = same-lines d ts texts ls ks first.1 second.1 in
    λ i. head i ∷ tail i

pub one-output : (d : Dialect) (x : Texts) (a b : List ℕ) → IsAuditOutput d x a → IsAuditOutput d x b → a ≡ b
one-output d x a b (ls, first, is) (ks, second, it) =
    is ∙ ap joined (same-lines d x.schema.tables x.texts ls ks first second) ∙ sym it
