-- What a line that has not ended is, as the code keeps it, and what the functions inside `converse` promise.
use Rattle.std.specs.Prelude.{◌≡◌, ◌≢◌, ◌<◌, ◌≤◌, ℕ, Bool, true, false, List, [], ◌++◌, length}
use Rattle.sql_tool_lines.specs.Conversation.{IsPrompt, Moves}
use Rattle.sql_tool_lines.specs.Lines.{ended, unended}
use Rattle.sql_tool_lines.specs.Turns.{Event, read_in, written_in}
use Rattle.sql_tool_lines.specs.declared.listener.Stop.{Stop}
use Rattle.sql_tool_lines.specs.declared.listener.Stop.TheVariants.{ReadFault, WriteFault}
use Rattle.sql_tool_lines.specs.declared.part.Part.{Part}

abbrev pub HoldsBytes : Bool → ℕ → List ℕ → List ℕ → Type 0
HoldsBytes true limit held line = limit < length line
HoldsBytes false limit held line = (held ≡ line) × (length line ≤ limit)

-- the part is this line, or knows that it is longer than it may be
abbrev pub Holds : ℕ → Part → List ℕ → Type 0
Holds limit part line = HoldsBytes part.is_long limit part.bytes.items line

-- Some of the lines were answered, by this text and what is missing of it, where that is nothing unless a write failed.
pub record MovesSome {S : Type 0} (Answers : S → S → List (List ℕ) → List ℕ → Type 0) (old : S) (lines : List (List ℕ)) (text : List ℕ) (stop : Stop) : Type 0 where
  pub state : S
  pub some : List (List ℕ)
  pub later : List (List ℕ)
  pub rest : List ℕ
  pub split : lines ≡ some ++ later
  pub moved : Moves Answers old state some (text ++ rest)
  pub whole : stop ≢ WriteFault → rest ≡ []
  pub written : stop ≢ ReadFault

-- What was read and written before a read: each line that has ended is answered, and the part is what comes after them.
pub record Goes {S : Type 0} (Answers : S → S → List (List ℕ) → List ℕ → Type 0) (limit : ℕ) (first now : S) (kept : Part) (es : List Event) : Type 0 where
  pub prompt : IsPrompt (λ lines text. (state : S) × Answers first state lines text) [] [] es
  pub part : Holds limit kept (unended (read_in es))
  pub answers : Answers first now (ended (read_in es)) (written_in es)
