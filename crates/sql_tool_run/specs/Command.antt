-- The commands of the program. Each command has a line in each definition here that takes one.
use Rattle.std.specs.Prelude.{◌≡◌, ◌≤◌, ℕ, List, [], ◌∷◌, ◌++◌, codes, Bool, true, false, ◌&&◌, Option, Some, None, option_map, nat_le, if◌then◌else◌}
use Rattle.std.specs.Fmt.{decimal}
use Rattle.std.specs.Str.{bytes_eq}
use Rattle.std.specs.Str.Parse.{digits_value}
use Rattle.sql_tool_document.specs.Documents.{Document, document}
use Rattle.sql_tool_document.specs.Names.{dialect_of, dialect_text}
use Rattle.sql_tool_document.specs.Texts.{Texts, texts_in}
use Rattle.sql_tool_generate.specs.Summary.{IsSummary}
use Rattle.sql_tool_guard.specs.Output.{IsGuardedOutput, IsGuardedOutputPrefix}
use Rattle.sql_tool_guard.specs.Tenants.{TenantDocument, policed_document, tenant_document}
use Rattle.sql_tool_audit.specs.Output.{IsAuditOutput, IsAuditOutputPrefix}
use Rattle.sql_tool_build.specs.Output.{IsOutput, IsOutputPrefix}
use Rattle.sql_tool_read.specs.Input.{input_text}
use Rattle.sql_tool_read.specs.Line.{IsReadingLine}
use Rattle.sql_tool_run.specs.Limits.{most_requests}
use Rattle.sql_tool_run.specs.declared.command.Command.{Command}
use Rattle.sql_tool_run.specs.declared.command.Command.TheVariants.{Build, Generate, Read, Audit, Guard, Tenant}

-- ---- words

-- the number that the word writes as `decimal` does, without a sign or a leading zero, where it is at most 100000
unfoldable pub count_of : List ℕ → Option ℕ
count_of word =
    if bytes_eq word (decimal (digits_value 10 word)) && nat_le (digits_value 10 word) most_requests
    then Some (digits_value 10 word) else None

-- the command that the words are, if they are one
abbrev pub command_of : List (List ℕ) → Option Command
command_of [] = None
command_of (w ∷ []) =
    if bytes_eq w (codes "build") then Some Build
    else if bytes_eq w (codes "guard") then Some Guard
    else if bytes_eq w (codes "tenant") then Some Tenant
    else None
command_of (w ∷ v ∷ []) =
    if bytes_eq w (codes "generate") then option_map Generate (count_of v)
    else if bytes_eq w (codes "read") then option_map Read (dialect_of v)
    else if bytes_eq w (codes "audit") then option_map Audit (dialect_of v)
    else None
command_of (w ∷ v ∷ u ∷ words) = None

-- the words of a command
abbrev pub AreWordsOf : Command → List (List ℕ) → Type 0
AreWordsOf Build words = words ≡ codes "build" ∷ []
AreWordsOf (Generate n) words = (words ≡ codes "generate" ∷ decimal n ∷ []) × (n ≤ most_requests)
AreWordsOf (Read d) words = words ≡ codes "read" ∷ dialect_text d ∷ []
AreWordsOf (Audit d) words = words ≡ codes "audit" ∷ dialect_text d ∷ []
AreWordsOf Guard words = words ≡ codes "guard" ∷ []
AreWordsOf Tenant words = words ≡ codes "tenant" ∷ []

-- ---- input

-- whether the command reads its source
abbrev pub reads_source : Command → Bool
reads_source Build = true
reads_source (Generate n) = false
reads_source (Read d) = true
reads_source (Audit d) = true
reads_source Guard = true
reads_source Tenant = true

-- the bytes aren't what the command reads
abbrev pub IsBadInput : Command → List ℕ → Type 0
IsBadInput Build given = document given ≡ None
IsBadInput (Generate n) given = ⊥
IsBadInput (Read d) given = input_text given ≡ None
IsBadInput (Audit d) given = texts_in given ≡ None
IsBadInput Guard given = tenant_document given ≡ None
IsBadInput Tenant given = policed_document given ≡ None

-- ---- output

-- these are what the command writes for the bytes
abbrev pub IsOutputOf : Command → List ℕ → List ℕ → Type 0
IsOutputOf Build given written = (d : Document) × (document given ≡ Some d) × IsOutput d written
IsOutputOf (Generate n) given written = IsSummary n written
IsOutputOf (Read d) given written = (t : List ℕ) × (input_text given ≡ Some t) × IsReadingLine d t written
IsOutputOf (Audit d) given written = (x : Texts) × (texts_in given ≡ Some x) × IsAuditOutput d x written
IsOutputOf Guard given written =
    (x : TenantDocument) × (tenant_document given ≡ Some x) × IsGuardedOutput x.document x.tenant written
IsOutputOf Tenant given written =
    (x : TenantDocument) × (policed_document given ≡ Some x) × IsGuardedOutput x.document x.tenant written

-- the first bytes of a text
abbrev pub IsPrefixOf : List ℕ → List ℕ → Type 0
IsPrefixOf whole start = (rest : List ℕ) × (whole ≡ start ++ rest)

-- these are a prefix of what the command writes for the bytes
abbrev pub IsOutputPrefixOf : Command → List ℕ → List ℕ → Type 0
IsOutputPrefixOf Build given written = (d : Document) × (document given ≡ Some d) × IsOutputPrefix d written
IsOutputPrefixOf (Generate n) given written = (whole : List ℕ) × IsSummary n whole × IsPrefixOf whole written
IsOutputPrefixOf (Read d) given written =
    (t : List ℕ) × (input_text given ≡ Some t) × ((whole : List ℕ) × IsReadingLine d t whole × IsPrefixOf whole written)
IsOutputPrefixOf (Audit d) given written = (x : Texts) × (texts_in given ≡ Some x) × IsAuditOutputPrefix d x written
IsOutputPrefixOf Guard given written =
    (x : TenantDocument) × (tenant_document given ≡ Some x) × IsGuardedOutputPrefix x.document x.tenant written
IsOutputPrefixOf Tenant given written =
    (x : TenantDocument) × (policed_document given ≡ Some x) × IsGuardedOutputPrefix x.document x.tenant written

-- The bytes that a command that is done has read and written, where its source had these bytes, AtEnd says that it is at the end now, and
-- Written which bytes the sink has taken.
abbrev pub IsDone : Command → List ℕ → Type 0 → (List ℕ → Type 0) → Type 0
IsDone c input AtEnd Written =
    (reads_source c ≡ true → AtEnd) × ((text : List ℕ) × IsOutputOf c input text × Written text)
