-- What the functions inside `run` promise.
use Rattle.std.specs.Prelude.{◌≡◌, ◌⊎◌, ℕ, List, [], ◌++◌}
use Rattle.sql_tool_guard.specs.Output.{IsGuardedOutput, IsGuardedOutputPrefix}
use Rattle.sql_tool_guard.specs.Tenants.{TenantDocument}
use Rattle.sql_tool_run.specs.Command.{IsBadInput, IsOutputOf, IsOutputPrefixOf, IsPrefixOf}
use Rattle.sql_tool_run.specs.declared.command.Command.{Command}
use Rattle.sql_tool_run.specs.declared.status.Status.{Status}
use Rattle.sql_tool_run.specs.declared.status.Status.TheVariants.{Done, Usage, BadDocument, ReadFault, WriteFault, NoMemory, TooLarge}

-- What the command has written for these bytes, where it ends so after the reading.
abbrev pub Response : Status → Command → List ℕ → List ℕ → Type 0
Response Done c given written = IsOutputOf c given written
Response Usage c given written = ⊥
Response BadDocument c given written = IsBadInput c given × (written ≡ [])
Response ReadFault c given written = ⊥
Response WriteFault c given written = IsOutputPrefixOf c given written
Response NoMemory c given written = (written ≡ []) ⊎ IsOutputPrefixOf c given written
Response TooLarge c given written = ⊥

-- What is written of a line, where the writing ends so.
abbrev pub WroteLine : Status → List ℕ → List ℕ → Type 0
WroteLine Done line written = line ≡ written
WroteLine Usage line written = ⊥
WroteLine BadDocument line written = ⊥
WroteLine ReadFault line written = ⊥
WroteLine WriteFault line written = IsPrefixOf line written
WroteLine NoMemory line written = ⊥
WroteLine TooLarge line written = ⊥

-- These bytes are a prefix of the lines of the first items, of which Has says in some state that they are theirs.
abbrev pub WroteSome : {S T : Type 0} → (S → List T → List ℕ → Type 0) → List T → List ℕ → Type 0
WroteSome {S} {T} Has items written =
    (state : S) × (some later : List T) × (items ≡ some ++ later)
    × ((text : List ℕ) × Has state some text × IsPrefixOf text written)

-- What is written of the lines of items, where the writing ends so.
abbrev pub WroteLines : {S T : Type 0} → Status → (S → List T → List ℕ → Type 0) → List T → List ℕ → Type 0
WroteLines {S} Done Has items written = (state : S) × Has state items written
WroteLines Usage Has items written = ⊥
WroteLines BadDocument Has items written = ⊥
WroteLines ReadFault Has items written = ⊥
WroteLines WriteFault Has items written = WroteSome Has items written
WroteLines NoMemory Has items written = WroteSome Has items written
WroteLines TooLarge Has items written = ⊥

-- What is written of a document with a tenant, where the writing ends so.
abbrev pub WroteTenant : Status → TenantDocument → List ℕ → Type 0
WroteTenant Done x written = IsGuardedOutput x.document x.tenant written
WroteTenant Usage x written = ⊥
WroteTenant BadDocument x written = ⊥
WroteTenant ReadFault x written = ⊥
WroteTenant WriteFault x written = IsGuardedOutputPrefix x.document x.tenant written
WroteTenant NoMemory x written = (written ≡ []) ⊎ IsGuardedOutputPrefix x.document x.tenant written
WroteTenant TooLarge x written = ⊥
