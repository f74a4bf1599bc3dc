-- The output for audited texts: a line for each, in order.
use Rattle.std.specs.Prelude.{◌≡◌, ℕ, List, [], ◌∷◌, ◌++◌}
use Rattle.sql_dialect.specs.declared.backend.Dialect.{Dialect}
use Rattle.sql_schema.specs.declared.declaration.TableDecl.{TableDecl}
use Rattle.sql_tool_document.specs.Texts.{Texts}
use Rattle.sql_tool_audit.specs.Line.{IsAuditLine}

-- a line for each text, in order
abbrev pub AreAuditLines : Dialect → List TableDecl → List (List ℕ) → List (List ℕ) → Type 0
AreAuditLines d ts [] [] = Unit {0}
AreAuditLines d ts [] (l ∷ ls) = ⊥
AreAuditLines d ts (t ∷ texts) [] = ⊥
AreAuditLines d ts (t ∷ texts) (l ∷ ls) = IsAuditLine d ts t l × AreAuditLines d ts texts ls

-- one after the other
abbrev pub joined : List (List ℕ) → List ℕ
joined [] = []
joined (l ∷ ls) = l ++ joined ls

abbrev pub IsAuditOutput : Dialect → Texts → List ℕ → Type 0
IsAuditOutput d x written =
    (ls : List (List ℕ)) × AreAuditLines d x.schema.tables x.texts ls × (written ≡ joined ls)

-- a prefix of the lines of the first texts
abbrev pub IsAuditOutputPrefix : Dialect → Texts → List ℕ → Type 0
IsAuditOutputPrefix d x written =
    (texts later : List (List ℕ)) × (x.texts ≡ texts ++ later)
    × ((ls : List (List ℕ)) × AreAuditLines d x.schema.tables texts ls × ((rest : List ℕ) × (joined ls ≡ written ++ rest)))
