-- Lines of texts, and what is written of them so far.
use Rattle.std.proofs.Common.{◌≡◌, ◌∙◌, ℕ, List, [], ◌∷◌, ◌++◌, ap, refl, sym, append_assoc, append-nil}
use Rattle.sql_dialect.specs.declared.backend.Dialect.{Dialect}
use Rattle.sql_schema.specs.declared.declaration.TableDecl.{TableDecl}
use Rattle.sql_tool_audit.specs.Line.{IsAuditLine}
use Rattle.sql_tool_audit.specs.Output.{AreAuditLines, joined}

pub lines-more : (d : Dialect) (ts : List TableDecl) (texts ls : List (List ℕ)) (t l : List ℕ) → AreAuditLines d ts texts ls
    → IsAuditLine d ts t l → AreAuditLines d ts (texts ++ t ∷ []) (ls ++ l ∷ [])
lines-more d ts [] [] t l h one = (one, tt)
lines-more d ts [] (k ∷ ls) t l h one = absurd h
lines-more d ts (u ∷ texts) [] t l h one = absurd h
lines-more d ts (u ∷ texts) (k ∷ ls) t l h one = (h.0, lines-more d ts texts ls t l h.1 one)

pub joined-more : (ls : List (List ℕ)) (l : List ℕ) → joined (ls ++ l ∷ []) ≡ joined ls ++ l
joined-more [] l = append-nil l
joined-more (k ∷ ls) l = ap (λ t. k ++ t) (joined-more ls l) ∙ sym (append_assoc k (joined ls) l)
