-- The effects of a run of the program.
use Rattle.std.specs.Prelude.{◌≡◌, ◌≤◌, ◌<◌, ◌⊎◌, ℕ, List, [], length, Bool, true, false, ◌&&◌, Option, Some, None, nat_lt, if◌then◌else◌}
use Rattle.std.specs.Io.KnownBytes.{Consumes}
use Rattle.sql_tool_stream.specs.Reading.{Gives}
use Rattle.sql_tool_document.specs.Documents.{document}
use Rattle.sql_tool_document.specs.Texts.{texts_in}
use Rattle.sql_tool_guard.specs.Tenants.{policed_document, tenant_document}
use Rattle.sql_tool_read.specs.Input.{input_text}
use Rattle.sql_tool_run.specs.Command.{IsBadInput, IsOutputOf, IsOutputPrefixOf, reads_source}
use Rattle.sql_tool_run.specs.Limits.{greatest_input}
use Rattle.sql_tool_run.specs.declared.command.Command.{Command}
use Rattle.sql_tool_run.specs.declared.command.Command.TheVariants.{Build, Generate, Read, Audit, Guard, Tenant}
use Rattle.sql_tool_run.specs.declared.status.Status.{Status}
use Rattle.sql_tool_run.specs.declared.status.Status.TheVariants.{Done, Usage, BadDocument, ReadFault, WriteFault, NoMemory, TooLarge}

-- The source gave these bytes, and has those after them left. Only a read that failed may have lost some.
abbrev pub Took : Status → Option (List ℕ) → Option (List ℕ) → List ℕ → Type 0
Took status old new given = Gives old new given × ((status ≡ ReadFault → ⊥) → Consumes old new given)

-- The bytes that were read by a command that reads its source, or doesn't, where AtEnd says that the source is at the end: all of an input
-- within the limit, or nothing.
abbrev pub HasRead : Bool → List ℕ → Type 0 → Type 0
HasRead true given AtEnd = AtEnd × (length given ≤ greatest_input)
HasRead false given AtEnd = given ≡ []

-- the same where the reading may have ended early
abbrev pub HasReadSome : Bool → List ℕ → Type 0
HasReadSome true given = length given ≤ greatest_input
HasReadSome false given = given ≡ []

-- The bytes that a command that ends so has read and written, where AtEnd says that its source is at the end.
abbrev pub Ends : Status → Command → List ℕ → List ℕ → Type 0 → Type 0
Ends Done c given written AtEnd = HasRead (reads_source c) given AtEnd × IsOutputOf c given written
Ends Usage c given written AtEnd = ⊥
Ends BadDocument c given written AtEnd =
    HasRead (reads_source c) given AtEnd × IsBadInput c given × (written ≡ [])
Ends ReadFault c given written AtEnd = (reads_source c ≡ true) × (length given ≤ greatest_input) × (written ≡ [])
Ends WriteFault c given written AtEnd = HasRead (reads_source c) given AtEnd × IsOutputPrefixOf c given written
Ends NoMemory c given written AtEnd =
    HasReadSome (reads_source c) given
    × ((written ≡ []) ⊎ (HasRead (reads_source c) given AtEnd × IsOutputPrefixOf c given written))
Ends TooLarge c given written AtEnd = (reads_source c ≡ true) × (greatest_input < length given) × (written ≡ [])

-- The same of all words: without a command nothing is read or written.
abbrev pub Outcome : Status → Option Command → List ℕ → List ℕ → Type 0 → Type 0
Outcome status None given written AtEnd = (status ≡ Usage) × (given ≡ []) × (written ≡ [])
Outcome status (Some c) given written AtEnd = Ends status c given written AtEnd

-- whether a run with these words reads its source
abbrev pub run_reads : Option Command → Bool
run_reads None = false
run_reads (Some c) = reads_source c

-- the status where the input is what the command reads, or isn't
abbrev pub status_from : {X : Type 0} → Option X → Status
status_from None = BadDocument
status_from (Some x) = Done

-- the status of a command for the whole of its input
abbrev pub status_on : Command → List ℕ → Status
status_on Build input = status_from (document input)
status_on (Generate n) input = Done
status_on (Read d) input = status_from (input_text input)
status_on (Audit d) input = status_from (texts_in input)
status_on Guard input = status_from (tenant_document input)
status_on Tenant input = status_from (policed_document input)

-- the status of a run with no fault and enough memory
abbrev pub status_of : Option Command → List ℕ → Status
status_of None input = Usage
status_of (Some c) input =
    if reads_source c && nat_lt greatest_input (length input) then TooLarge else status_on c input

-- a run that ends so may have written
abbrev pub may_write : Status → Bool
may_write Done = true
may_write Usage = false
may_write BadDocument = false
may_write ReadFault = false
may_write WriteFault = true
may_write NoMemory = true
may_write TooLarge = false
