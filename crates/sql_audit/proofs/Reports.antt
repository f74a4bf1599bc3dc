-- What is settled of a text's reading is its report, or the first refusal that holds of it.
use Rattle.std.proofs.Common.{◌≡◌, ℕ, List, Bool, true, false, Option, Some, None, map, is_none, if◌then◌else◌, Result, Ok, Err, IfOk, IfErr, ◌⊎◌, inl, inr, refl, sym, ap, ◌∙◌}
use Rattle.std.specs.List.{list_any}
use Rattle.sql_dialect.specs.declared.backend.Dialect.{Dialect}
use Rattle.sql_grammar.specs.MarkTree.{Name, Query}
use Rattle.sql_grammar.specs.Reading.{OnlyReading}
use Rattle.sql_audit_resolution.specs.declared.column_use.ColumnUse.{ColumnUse}
use Rattle.sql_audit_resolution.specs.declared.column_use.Meaning.{Meaning}
use Rattle.sql_audit_resolution.specs.declared.column_use.Meaning.TheVariants.{Column}
use Rattle.sql_schema.specs.declared.declaration.TableDecl.{TableDecl}
use Rattle.sql_audit.specs.Report.{is_nothing, is_several, tables_of, meanings_of, settled_refusal, least_refusal, IsReport, IsReported, IsRefused}
use Rattle.sql_audit.specs.declared.error.AuditError.{AuditError}
use Rattle.sql_audit.specs.declared.error.AuditError.TheVariants.{NotInGrammar, UnknownTable, NotInScope, Ambiguous, NoMemory}
use Rattle.sql_audit.specs.declared.report.AuditReport.{AuditReport}
use Rattle.sql_audit.specs.inside.Settled.{known, columns_among}
use Rattle.sql_audit.proofs.Present.{all_known, all_columns}

-- ## Reports

none-holds : (a b c : Bool)
    → (if a then Some UnknownTable else if b then Some NotInScope else if c then Some Ambiguous else None) ≡ None
    → (a ≡ false) × (b ≡ false) × (c ≡ false)
none-holds true b c e = cc
none-holds false true c e = cc
none-holds false false true e = cc
none-holds false false false e = (refl, refl, refl)

pub settled-lists : (tables : List (Option Name)) (meanings : List Meaning) (ns : List Name) (us : List ColumnUse)
    → settled_refusal tables meanings ≡ None → ns ≡ known tables → us ≡ columns_among meanings
    → (tables ≡ map Some ns) × (meanings ≡ map Column us)
settled-lists tables meanings ns us none p q =
    let n = none-holds (list_any is_none tables) (list_any is_nothing meanings) (list_any is_several meanings) none in
    (all_known tables n.0 ∙ ap (map Some) (sym p), all_columns meanings n.1 n.2 ∙ ap (map Column) (sym q))

pub reported : (d : Dialect) (ts : List TableDecl) (text : List ℕ) (q : Query) (r : Result AuditReport AuditError)
    → OnlyReading d text q → IfOk r (IsReport ts q) → IfOk r (λ _. least_refusal ts q ≡ None)
    → IfOk r (IsReported d ts text)
reported d ts text q (Ok r) only is none = (q, only, none, is)
reported d ts text q (Err e) only is none = tt

-- ## Refusals

not-told : (a b c : Bool) (e : AuditError)
    → (if a then Some UnknownTable else if b then Some NotInScope else if c then Some Ambiguous else None) ≡ Some e
    → e ≡ NotInGrammar → ⊥
not-told true b c e h is = cc
not-told false true c e h is = cc
not-told false false true e h is = cc
not-told false false false e h is = cc

is-refused : (d : Dialect) (ts : List TableDecl) (text : List ℕ) (q : Query) (e : AuditError) → OnlyReading d text q
    → (e ≡ NoMemory) ⊎ (least_refusal ts q ≡ Some e) → IsRefused d ts text e
is-refused d ts text q NotInGrammar only (inl h) = cc
is-refused d ts text q NotInGrammar only (inr h) =
    absurd (not-told (list_any is_none (tables_of ts q)) (list_any is_nothing (meanings_of ts q))
    (list_any is_several (meanings_of ts q)) NotInGrammar h refl)
is-refused d ts text q UnknownTable only (inl h) = cc
is-refused d ts text q UnknownTable only (inr h) = (q, only, h)
is-refused d ts text q NotInScope only (inl h) = cc
is-refused d ts text q NotInScope only (inr h) = (q, only, h)
is-refused d ts text q Ambiguous only (inl h) = cc
is-refused d ts text q Ambiguous only (inr h) = (q, only, h)
is-refused d ts text q NoMemory only h = tt

pub refused : (d : Dialect) (ts : List TableDecl) (text : List ℕ) (q : Query) (r : Result AuditReport AuditError)
    → OnlyReading d text q → IfErr r (λ e. (e ≡ NoMemory) ⊎ (least_refusal ts q ≡ Some e))
    → IfErr r (IsRefused d ts text)
refused d ts text q (Ok r) only h = tt
refused d ts text q (Err e) only h = is-refused d ts text q e only h
