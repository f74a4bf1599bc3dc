-- What a conversation is, where Answers says between two states of the one who listens which text answers which lines.
use Rattle.std.specs.Prelude.{◌≡◌, ◌≢◌, ℕ, List, [], ◌∷◌, ◌++◌, Result, MatchResult, Contains}
use Rattle.sql_tool_lines.specs.Lines.{all_lines, ended}
use Rattle.sql_tool_lines.specs.Turns.{Event, Read, Wrote, read_in, written_in}
use Rattle.sql_tool_lines.specs.declared.listener.Stop.{Stop}
use Rattle.sql_tool_lines.specs.declared.listener.Stop.TheVariants.{ReadFault, WriteFault}

-- From one state to the next these lines are answered by this text, whatever was answered before.
abbrev pub Moves : {S : Type 0} → (S → S → List (List ℕ) → List ℕ → Type 0) → S → S → List (List ℕ) → List ℕ → Type 0
Moves {S} Answers old new lines text =
    (first : S) (earlier : List (List ℕ)) (before : List ℕ) → Answers first old earlier before
    → Answers first new (earlier ++ lines) (before ++ text)

-- At each read, each line that has ended is answered: by what was written until then, and no more. So it is where these bytes were read
-- and written before.
abbrev pub IsPrompt : (List (List ℕ) → List ℕ → Type 0) → List ℕ → List ℕ → List Event → Type 0
IsPrompt Answered given taken [] = Unit {0}
IsPrompt Answered given taken (Read piece ∷ es) =
    Answered (ended given) taken × IsPrompt Answered (given ++ piece) taken es
IsPrompt Answered given taken (Wrote piece ∷ es) = IsPrompt Answered given (taken ++ piece) es

-- A conversation that has stopped has written the answers to some of the lines, in order, the last one in part only where a write
-- failed. Where a read failed, each line that had ended is answered.
pub record HasStopped (Answered : List (List ℕ) → List ℕ → Type 0) (es : List Event) (stop : Stop) : Type 0 where
  pub some : List (List ℕ)
  pub later : List (List ℕ)
  pub rest : List ℕ
  pub lines : all_lines (read_in es) ≡ some ++ later
  pub answered : Answered some (written_in es ++ rest)
  pub whole : stop ≢ WriteFault → rest ≡ []
  pub read : stop ≡ ReadFault → some ≡ ended (read_in es)

-- What was read and written in a conversation that ends so. Done says of the lines and of the text that they are answered, where it has
-- come to its end.
pub record Conversed {T : Type 0} (Answered Done : List (List ℕ) → List ℕ → Type 0) (es : List Event) (result : Result T Stop) : Type 0 where
  pub prompt : IsPrompt Answered [] [] es
  pub ends : MatchResult result (λ _. Contains es (Read []) × Done (all_lines (read_in es)) (written_in es))
      (λ stop. HasStopped Answered es stop)
