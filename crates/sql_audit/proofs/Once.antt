-- A text has one answer: one report, or one refusal, memory aside.
use Rattle.std.proofs.Common.{◌≡◌, ◌≢◌, ◌∙◌, ℕ, List, [], ◌∷◌, map, Option, None, Some, refl, sym, ap}
use Rattle.sql_dialect.specs.declared.backend.Dialect.{Dialect}
use Rattle.sql_schema.specs.declared.declaration.TableDecl.{TableDecl}
use Rattle.sql_grammar.specs.MarkTree.{Query}
use Rattle.sql_grammar.specs.Reading.{OnlyReading}
use Rattle.sql_audit_resolution.specs.declared.column_use.ColumnUse.{ColumnUse}
use Rattle.sql_audit_resolution.specs.declared.column_use.Meaning.{Meaning}
use Rattle.sql_audit_resolution.specs.declared.column_use.Meaning.TheVariants.{Column}
use Rattle.sql_audit.specs.Report.{tables_of, meanings_of, least_refusal, settled_refusal, IsFirstRefusal, IsReported, IsRefused}
use Rattle.sql_audit.specs.declared.error.AuditError.{AuditError}
use Rattle.sql_audit.specs.declared.error.AuditError.TheVariants.{NotInGrammar, UnknownTable, NotInScope, Ambiguous, NoMemory}
use Rattle.sql_audit.specs.declared.report.AuditReport.{AuditReport}

some-back : {X : Type 0} (xs ys : List X) → map Some xs ≡ map Some ys → xs ≡ ys
some-back [] [] e = refl
some-back [] (y ∷ ys) e = cc
some-back (x ∷ xs) [] e = cc
some-back {X} (x ∷ xs) (y ∷ ys) e =
    let first : x ≡ y = cc in
    let rest : map Some xs ≡ map Some ys = cc in
    let more = some-back xs ys rest in
    λ i. first i ∷ more i

column-back : (xs ys : List ColumnUse) → map Column xs ≡ map Column ys → xs ≡ ys
column-back [] [] e = refl
column-back [] (y ∷ ys) e = cc
column-back (x ∷ xs) [] e = cc
column-back (x ∷ xs) (y ∷ ys) e =
    let first : x ≡ y = cc in
    let rest : map Column xs ≡ map Column ys = cc in
    let more = column-back xs ys rest in
    λ i. first i ∷ more i

pub one-report : (d : Dialect) (ts : List TableDecl) (text : List ℕ) (r s : AuditReport) → IsReported d ts text r
    → IsReported d ts text s → r ≡ s
one-report d ts text r s a b =
    let same : a.0 ≡ b.0 = b.1.1 a.0 a.1.0 in
    let tables : r.tables ≡ s.tables =
    some-back r.tables s.tables (sym a.3.0 ∙ ap (tables_of ts) same ∙ b.3.0) in
    let uses : r.uses ≡ s.uses = column-back r.uses s.uses (sym a.3.1 ∙ ap (meanings_of ts) same ∙ b.3.1) in
    λ i. record { tables = tables i; uses = uses i }

none_some : {Y : Type 0} (y : Y) → Path (Option Y) None (Some y) → ⊥
none_some y h = cc

first-not : (d : Dialect) (ts : List TableDecl) (text : List ℕ) (r : AuditReport) (e : AuditError)
    → IsReported d ts text r
    → ((q : Query) × OnlyReading d text q × (settled_refusal (tables_of ts q) (meanings_of ts q) ≡ Some e)) → ⊥
first-not d ts text r e a f =
    let same : a.0 ≡ f.0 = f.1.1 a.0 a.1.0 in
    none_some e (sym a.2 ∙ ap (λ q. settled_refusal (tables_of ts q) (meanings_of ts q)) same ∙ f.2)

pub not-both : (d : Dialect) (ts : List TableDecl) (text : List ℕ) (r : AuditReport) (e : AuditError)
    → IsReported d ts text r → IsRefused d ts text e → e ≡ NoMemory
not-both d ts text r NotInGrammar a f = absurd (f a.0 a.1.0)
not-both d ts text r UnknownTable a f = absurd (first-not d ts text r UnknownTable a f)
not-both d ts text r NotInScope a f = absurd (first-not d ts text r NotInScope a f)
not-both d ts text r Ambiguous a f = absurd (first-not d ts text r Ambiguous a f)
not-both d ts text r NoMemory a f = refl

-- ---- one refusal

same-some : {X : Type 0} (x y : X) → Path (Option X) (Some x) (Some y) → x ≡ y
same-some x y h = cc

-- both are the first of the text's only reading
same-first : (d : Dialect) (ts : List TableDecl) (text : List ℕ) (e f : AuditError) → IsFirstRefusal d ts text e
    → IsFirstRefusal d ts text f → e ≡ f
same-first d ts text e f (q, only, is) (r, also, it) =
    let same : q ≡ r = also.1 q only.0 in same-some e f (sym is ∙ ap (least_refusal ts) same ∙ it)

-- a refusal of a text that has a reading is that first one
read-first : (d : Dialect) (ts : List TableDecl) (text : List ℕ) (e f : AuditError) → IsFirstRefusal d ts text e
    → f ≢ NoMemory → IsRefused d ts text f → e ≡ f
read-first d ts text e NotInGrammar (q, only, is) known none = absurd (none q only.0)
read-first d ts text e UnknownTable first known is = same-first d ts text e UnknownTable first is
read-first d ts text e NotInScope first known is = same-first d ts text e NotInScope first is
read-first d ts text e Ambiguous first known is = same-first d ts text e Ambiguous first is
read-first d ts text e NoMemory first known is = absurd (known refl)

unread-first : (d : Dialect) (ts : List TableDecl) (text : List ℕ) (f : AuditError) → IsRefused d ts text NotInGrammar
    → f ≢ NoMemory → IsRefused d ts text f → NotInGrammar ≡ f
unread-first d ts text NotInGrammar none known is = refl
unread-first d ts text UnknownTable none known (q, only, is) = absurd (none q only.0)
unread-first d ts text NotInScope none known (q, only, is) = absurd (none q only.0)
unread-first d ts text Ambiguous none known (q, only, is) = absurd (none q only.0)
unread-first d ts text NoMemory none known is = absurd (known refl)

pub one-refusal : (d : Dialect) (ts : List TableDecl) (text : List ℕ) (e f : AuditError) → e ≢ NoMemory → f ≢ NoMemory
    → IsRefused d ts text e → IsRefused d ts text f → e ≡ f
one-refusal d ts text NotInGrammar f some known is it = unread-first d ts text f is known it
one-refusal d ts text UnknownTable f some known is it = read-first d ts text UnknownTable f is known it
one-refusal d ts text NotInScope f some known is it = read-first d ts text NotInScope f is known it
one-refusal d ts text Ambiguous f some known is it = read-first d ts text Ambiguous f is known it
one-refusal d ts text NoMemory f some known is it = absurd (some refl)
