-- The answer of the audit of a text: its report, or the first refusal that holds of it.
use Rattle.std.specs.Prelude.{◌≡◌, ℕ, List, [], map, Bool, true, false, Option, Some, None, is_none, if◌then◌else◌}
use Rattle.std.specs.List.{list_any}
use Rattle.sql_dialect.specs.declared.backend.Dialect.{Dialect}
use Rattle.sql_grammar.specs.MarkTree.{Name, Query}
use Rattle.sql_grammar.specs.Reading.{IsReading, OnlyReading}
use Rattle.sql_read.specs.Seen.{HasNoReading}
use Rattle.sql_audit_resolution.specs.Leaves.{tables_query}
use Rattle.sql_audit_resolution.specs.Meant.{name_at, meaning}
use Rattle.sql_audit_resolution.specs.Uses.{uses_query}
use Rattle.sql_audit_resolution.specs.declared.column_use.Meaning.{Meaning}
use Rattle.sql_audit_resolution.specs.declared.column_use.Meaning.TheVariants.{Nothing, Several, Column}
use Rattle.sql_schema.specs.declared.declaration.TableDecl.{TableDecl}
use Rattle.sql_audit.specs.declared.error.AuditError.{AuditError}
use Rattle.sql_audit.specs.declared.error.AuditError.TheVariants.{NotInGrammar, UnknownTable, NotInScope, Ambiguous, NoMemory}
use Rattle.sql_audit.specs.declared.report.AuditReport.{AuditReport}

-- ## By the reading and the tables of a schema

-- the table that each leaf's name stands for, if it does
abbrev pub tables_of : List TableDecl → Query → List (Option Name)
tables_of ts q = map (name_at ts) (tables_query q)

-- The meaning of each column path. No clause encloses the whole statement.
abbrev pub meanings_of : List TableDecl → Query → List Meaning
meanings_of ts q = map (meaning ts) (uses_query [] 0 q)

abbrev pub is_nothing : Meaning → Bool
is_nothing Nothing = true
is_nothing Several = false
is_nothing (Column c) = false

abbrev pub is_several : Meaning → Bool
is_several Nothing = false
is_several Several = true
is_several (Column c) = false

-- A refusal holds where it holds anywhere in the text; the first of them is told. A name in a FROM is no table's path; a path names
-- no leaf at any level; a path names two leaves at the first level where it names one.
abbrev pub settled_refusal : List (Option Name) → List Meaning → Option AuditError
settled_refusal tables meanings =
    if list_any is_none tables then Some UnknownTable
    else if list_any is_nothing meanings then Some NotInScope
    else if list_any is_several meanings then Some Ambiguous
    else None

abbrev pub least_refusal : List TableDecl → Query → Option AuditError
least_refusal ts q = settled_refusal (tables_of ts q) (meanings_of ts q)

-- The report has the table of each leaf and the column of each path, one each, in the order of the text.
abbrev pub AreSettled : List (Option Name) → List Meaning → AuditReport → Type 0
AreSettled tables meanings r = (tables ≡ map Some r.tables) × (meanings ≡ map Column r.uses)

abbrev pub IsReport : List TableDecl → Query → AuditReport → Type 0
IsReport ts q r = AreSettled (tables_of ts q) (meanings_of ts q) r

-- ## By the text

-- the text has one reading, no refusal holds of it, and this is its report
abbrev pub IsReported : Dialect → List TableDecl → List ℕ → AuditReport → Type 0
IsReported d ts text r =
    (q : Query) × OnlyReading d text q × (least_refusal ts q ≡ None) × IsReport ts q r

-- the text has one reading, and this is the first refusal that holds of it
abbrev pub IsFirstRefusal : Dialect → List TableDecl → List ℕ → AuditError → Type 0
IsFirstRefusal d ts text e = (q : Query) × OnlyReading d text q × (least_refusal ts q ≡ Some e)

-- NoMemory alone needs no cause
abbrev pub IsRefused : Dialect → List TableDecl → List ℕ → AuditError → Type 0
IsRefused d ts text NotInGrammar = HasNoReading d text
IsRefused d ts text UnknownTable = IsFirstRefusal d ts text UnknownTable
IsRefused d ts text NotInScope = IsFirstRefusal d ts text NotInScope
IsRefused d ts text Ambiguous = IsFirstRefusal d ts text Ambiguous
IsRefused d ts text NoMemory = Unit {0}
