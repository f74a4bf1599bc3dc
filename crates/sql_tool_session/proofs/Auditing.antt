-- Texts over the schema of a session, and their lines.
use Rattle.std.proofs.Common.{◌≡◌, ◌∙◌, ◌<◌, ◌≤◌, ◌+◌, ℕ, List, [], ◌∷◌, ◌++◌, length, Option, None, Some, Bool, true, false, cond, ap, refl, subst, sym, append_assoc, arith}
use Rattle.std.specs.Prelude.{nat_eq, nat_lt}
use Rattle.std.proofs.lemmas.Bool.Decides.{nat_tests}
use Rattle.sql_dialect.specs.declared.backend.Dialect.{Dialect}
use Rattle.sql_schema.specs.Declarations.{Declarations}
use Rattle.sql_schema.specs.declared.declaration.TableDecl.{TableDecl}
use Rattle.sql_tool_audit.proofs.Lines.{joined-more, lines-more}
use Rattle.sql_tool_audit.specs.Line.{IsAuditLine}
use Rattle.sql_tool_audit.specs.Output.{IsAuditOutput}
use Rattle.sql_tool_document.specs.Scalar.{◌>>=◌}
use Rattle.sql_tool_document.specs.Texts.{Texts, texts_in}
use Rattle.sql_tool_run.specs.Limits.{greatest_input}
use Rattle.sql_tool_run.specs.Run.{status_from}
use Rattle.sql_tool_run.specs.declared.status.Status.{Status}
use Rattle.sql_tool_run.specs.declared.status.Status.TheVariants.{BadDocument, Done, TooLarge}
use Rattle.sql_tool_session.specs.Audited.{auditing_status, over, texts_over}

-- ---- the texts

if_is : {X : Type 0} (b c : Bool) (x y : X) → b ≡ c → cond b x y ≡ cond c x y
if_is b c x y h = ap (λ t. cond t x y) h

pub is_over : (schema : Declarations) (bytes : List ℕ) (x : Texts) → texts_in bytes ≡ Some x
    → length x.schema.tables ≡ 0
    → texts_over schema bytes ≡ Some (record { schema = schema; texts = x.texts })
unfolding texts_over
is_over schema bytes x is none =
    ap (λ o. o >>= over schema) is ∙ if_is (nat_eq (length x.schema.tables) 0) true _ None (ap (λ n. nat_eq n 0) none)

pub declares_some : (schema : Declarations) (bytes : List ℕ) (x : Texts) → texts_in bytes ≡ Some x
    → 0 < length x.schema.tables → texts_over schema bytes ≡ None
unfolding texts_over
declares_some schema bytes x is some =
    let no : nat_eq (length x.schema.tables) 0 ≡ false = grind (arith, nat_tests) in
    ap (λ o. o >>= over schema) is ∙ if_is (nat_eq (length x.schema.tables) 0) false _ None no

pub no_texts : (schema : Declarations) (bytes : List ℕ) → texts_in bytes ≡ None → texts_over schema bytes ≡ None
unfolding texts_over
no_texts schema bytes is = ap (λ o. o >>= over schema) is

-- ---- the status

small : (schema : Declarations) (bytes : List ℕ) → length bytes ≤ greatest_input
    → auditing_status schema bytes ≡ status_from (texts_over schema bytes)
small schema bytes few =
    let no : nat_lt greatest_input (length bytes) ≡ false = grind (arith, nat_tests) in
    if_is (nat_lt greatest_input (length bytes)) false TooLarge _ no

pub is_large : (schema : Declarations) (bytes : List ℕ) → greatest_input < length bytes
    → auditing_status schema bytes ≡ TooLarge
is_large schema bytes many =
    let yes_so : nat_lt greatest_input (length bytes) ≡ true = grind (arith, nat_tests) in
    if_is (nat_lt greatest_input (length bytes)) true TooLarge _ yes_so

pub is_done : (schema : Declarations) (bytes : List ℕ) (x : Texts) → length bytes ≤ greatest_input
    → texts_over schema bytes ≡ Some x → auditing_status schema bytes ≡ Done
is_done schema bytes x few is = small schema bytes few ∙ ap status_from is

pub is_bad : (schema : Declarations) (bytes : List ℕ) → length bytes ≤ greatest_input
    → texts_over schema bytes ≡ None → auditing_status schema bytes ≡ BadDocument
is_bad schema bytes few is = small schema bytes few ∙ ap status_from is

-- ---- the lines

-- one more line
pub audited_more : (d : Dialect) (schema : Declarations) (texts : List (List ℕ)) (t written line : List ℕ)
    → IsAuditOutput d (record { schema = schema; texts = texts }) written → IsAuditLine d schema.tables t line
    → IsAuditOutput d (record { schema = schema; texts = texts ++ t ∷ [] }) (written ++ line)
audited_more d schema texts t written line (ls, lines, is) one = (
  ls ++ line ∷ [],
  lines-more d schema.tables texts ls t line lines one,
  ap (λ w. w ++ line) is ∙ sym (joined-more ls line),
)

pub audited_none : (d : Dialect) (schema : Declarations) → IsAuditOutput d (record { schema = schema; texts = [] }) []
audited_none d schema = ([], tt, refl)

-- what holds of the texts over a schema holds over that of the session
pub over_with : (Holds : Texts → Type 0) (at schema more : Declarations) (bytes : List ℕ) (texts some : List (List ℕ))
    → schema ≡ at → more ≡ at → some ≡ texts
    → texts_over schema bytes ≡ Some (record { schema = schema; texts = texts })
    → Holds (record { schema = more; texts = some }) → (x : Texts) × (texts_over at bytes ≡ Some x) × Holds x
over_with Holds at schema more bytes texts some one two three read holds = (
  record { schema = at; texts = texts },
  subst (λ x. texts_over x bytes ≡ Some (record { schema = x; texts = texts })) one read,
  subst (λ x. Holds (record { schema = x; texts = texts })) two
      (subst (λ ts. Holds (record { schema = more; texts = ts })) three holds),
)
