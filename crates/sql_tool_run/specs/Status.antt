-- The exit statuses and the words that say how a run ended.
use Rattle.std.specs.Prelude.{ℕ, List, codes}
use Rattle.sql_tool_run.specs.declared.status.Status.{Status}
use Rattle.sql_tool_run.specs.declared.status.Status.TheVariants.{Done, Usage, BadDocument, ReadFault, WriteFault, NoMemory, TooLarge}

abbrev pub code_of : Status → ℕ
code_of Done = 0
code_of Usage = 2
code_of BadDocument = 3
code_of ReadFault = 4
code_of WriteFault = 5
code_of NoMemory = 6
code_of TooLarge = 7

abbrev pub status_text : Status → List ℕ
status_text Done = codes "Done"
status_text Usage = codes "Usage"
status_text BadDocument = codes "BadDocument"
status_text ReadFault = codes "ReadFault"
status_text WriteFault = codes "WriteFault"
status_text NoMemory = codes "NoMemory"
status_text TooLarge = codes "TooLarge"
