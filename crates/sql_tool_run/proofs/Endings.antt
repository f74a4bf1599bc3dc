-- How a command ends, by what it has read and what it answered.
use Rattle.std.proofs.Common.{◌≡◌, ◌≤◌, ◌⊎◌, inl, inr, ℕ, List, [], length, true, false, Option, Some, refl, subst, sym}
use Rattle.sql_dialect.specs.declared.backend.Dialect.{Dialect}
use Rattle.sql_tool_generate.specs.Summary.{IsSummary}
use Rattle.sql_tool_read.specs.Input.{input_text}
use Rattle.sql_tool_read.specs.Line.{IsReadingLine}
use Rattle.sql_tool_run.specs.Command.{IsPrefixOf, IsOutputOf, IsOutputPrefixOf, reads_source}
use Rattle.sql_tool_run.specs.Limits.{greatest_input}
use Rattle.sql_tool_run.specs.Run.{Ends, HasRead, HasReadSome}
use Rattle.sql_tool_run.specs.inside.Responses.{Response, WroteLine}
use Rattle.sql_tool_run.specs.declared.command.Command.{Command}
use Rattle.sql_tool_run.specs.declared.command.Command.TheVariants.{Generate, Read}
use Rattle.sql_tool_run.specs.declared.status.Status.{Status}
use Rattle.sql_tool_run.specs.declared.status.Status.TheVariants.{Done, Usage, BadDocument, ReadFault, WriteFault, NoMemory, TooLarge}

-- after what was read
module _ (c : Command) (given written : List ℕ) (AtEnd : Type 0) where
  ended : (status : Status) → HasRead (reads_source c) given AtEnd → HasReadSome (reads_source c) given
      → Response status c given written → Ends status c given written AtEnd
  ended Done has some r = (has, r)
  ended Usage has some r = absurd r
  ended BadDocument has some r = (has, r.0, r.1)
  ended ReadFault has some r = absurd r
  ended WriteFault has some r = (has, r)
  ended NoMemory has some (inl empty) = (some, inl empty)
  ended NoMemory has some (inr start) = (some, inr (has, start))
  ended TooLarge has some r = absurd r

-- a command that reads no source
pub ends-unread : (status : Status) (c : Command) (written : List ℕ) (AtEnd : Type 0) → reads_source c ≡ false
    → Response status c [] written → Ends status c [] written AtEnd
ends-unread status c written AtEnd silent =
    ended c [] written AtEnd status (subst (λ b. HasRead b [] AtEnd) (sym silent) refl)
    (subst (λ b. HasReadSome b []) (sym silent) refl)

-- a command that has read its source to the end
pub ends-read : (status : Status) (c : Command) (given written : List ℕ) (AtEnd : Type 0) → reads_source c ≡ true
    → AtEnd → length given ≤ greatest_input → Response status c given written → Ends status c given written AtEnd
ends-read status c given written AtEnd reads end within =
    ended c given written AtEnd status (subst (λ b. HasRead b given AtEnd) (sym reads) (end, within))
    (subst (λ b. HasReadSome b given) (sym reads) within)

-- a command whose source failed, or gave too much, or for which memory ran out as it read
pub ends-short : (c : Command) (given : List ℕ) (AtEnd : Type 0) → reads_source c ≡ true → length given ≤ greatest_input
    → Ends NoMemory c given [] AtEnd
ends-short c given AtEnd reads within = (subst (λ b. HasReadSome b given) (sym reads) within, inl refl)

-- ---- one line

wrote : (status : Status) (c : Command) (given line written : List ℕ) → IsOutputOf c given line
    → ((start : List ℕ) → IsPrefixOf line start → IsOutputPrefixOf c given start) → WroteLine status line written
    → Response status c given written
wrote Done c given line written output prefix is = subst (IsOutputOf c given) is output
wrote Usage c given line written output prefix is = absurd is
wrote BadDocument c given line written output prefix is = absurd is
wrote ReadFault c given line written output prefix is = absurd is
wrote WriteFault c given line written output prefix start = prefix written start
wrote NoMemory c given line written output prefix is = absurd is
wrote TooLarge c given line written output prefix is = absurd is

pub wrote-summary : (status : Status) (n : ℕ) (given line written : List ℕ) → IsSummary n line
    → WroteLine status line written → Response status (Generate n) given written
wrote-summary status n given line written is =
    wrote status (Generate n) given line written is (λ start cut. (line, is, cut))

pub wrote-reading : (status : Status) (d : Dialect) (given text line written : List ℕ) → input_text given ≡ Some text
    → IsReadingLine d text line → WroteLine status line written → Response status (Read d) given written
wrote-reading status d given text line written read is =
    wrote status (Read d) given line written (text, read, is) (λ start cut. (text, read, (line, is, cut)))
