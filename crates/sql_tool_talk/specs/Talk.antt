-- What the lines of a conversation are answered by.
use Rattle.std.specs.Prelude.{◌≡◌, ℕ, List, [], ◌∷◌, ◌++◌, length, codes, Bool, false, nat_eq, nat_lt, Option, None, Some, option_map, Result, Ok, Err, if◌then◌else◌}
use Rattle.std.specs.Str.{bytes_eq}
use Rattle.serde_json.specs.Data.{Data}
use Rattle.sql_schema.specs.Declarations.{Declarations}
use Rattle.sql_tool_document.specs.Documents.{Request}
use Rattle.sql_tool_document.specs.Scalar.{◌>>=◌}
use Rattle.sql_tool_document.specs.Sessions.{call_in}
use Rattle.sql_tool_build.specs.Output.{Line, lines_text}
use Rattle.sql_tool_run.specs.Limits.{greatest_input}
use Rattle.sql_tool_run.specs.declared.status.Status.{Status}
use Rattle.sql_tool_run.specs.declared.status.Status.TheVariants as status
use Rattle.sql_tool_session.specs.Session.{AreLinesOf, Asked, Asking, asked_for, asking_in, opened_by, template_by}
use Rattle.sql_tool_session.specs.Within.{before_too_deep}
use Rattle.sql_tool_ids.specs.declared.seen.TheConstants.{MAX_SHAPES}
use Rattle.sql_tool_lines.specs.declared.listener.Stop.{Stop}
use Rattle.sql_tool_lines.specs.declared.listener.Stop.TheVariants.{ReadFault, WriteFault, NoMemory}
use Rattle.sql_tool_talk.specs.Resets.{is_reset}
use Rattle.sql_tool_talk.specs.declared.remark.Remark.{Remark}
use Rattle.sql_tool_talk.specs.declared.remark.Remark.TheVariants.{BadDocument, TooLarge, TooDeep}

-- ---- words and statuses

-- the words are the command's
abbrev pub is_session : List (List ℕ) → Bool
is_session [] = false
is_session (w ∷ []) = bytes_eq w (codes "session")
is_session (w ∷ v ∷ words) = false

-- the status after a conversation that ends so
abbrev pub ending_of : {T : Type 0} → Result T Stop → Status
ending_of (Ok x) = status.Done
ending_of (Err ReadFault) = status.ReadFault
ending_of (Err WriteFault) = status.WriteFault
ending_of (Err NoMemory) = status.NoMemory

-- ---- the session, which there is not until a line opens it

-- over a schema, with these policies with places, none in a session without policies, requests were answered since it was opened, or began
-- anew
pub record Opened : Type 0 where
  pub schema : Declarations
  pub template : Option (Option Data)
  pub asked : List Asked

-- what a line asks for, where it is a document
abbrev pub asking_of : Option Opened → List ℕ → Option Asking
asking_of None line = opened_by line
asking_of (Some o) line = call_in o.template line >>= asking_in o.schema

-- the session that a document opens, which answers its requests before one that nests too deep
abbrev pub opened_as : Option (Option Data) → Asking → Opened
opened_as template a =
    record { schema = a.document.schema; template = template; asked = asked_for a.tenant (before_too_deep a.document.requests) }

-- the requests of a document that declares no table which are answered
abbrev pub requests_of : Option Asking → List Asked
requests_of None = []
requests_of (Some a) =
    if nat_eq (length a.document.schema.tables) 0 then asked_for a.tenant (before_too_deep a.document.requests) else []

abbrev pub followed_by : Opened → List Asked → Opened
followed_by o more = record { schema = o.schema; template = o.template; asked = o.asked ++ more }

-- the session anew: the schema and the policies stay, and nothing was answered
abbrev pub anew : Opened → Opened
anew o = record { schema = o.schema; template = o.template; asked = [] }

-- the session after this line, which is no longer than it may be
abbrev pub after : Option Opened → List ℕ → Option Opened
after None line = option_map (opened_as (template_by line)) (opened_by line)
after (Some o) line =
    Some (if is_reset line then anew o else followed_by o (requests_of (asking_of (Some o) line)))

-- What of the lines of requests so far is one list with those of this line: all of them, but none after a reset, where a list of its own begins.
abbrev pub kept_after : Option Opened → List ℕ → List ℕ → List ℕ
kept_after None line output = output
kept_after (Some o) line output = if is_reset line then [] else output

-- after this line: a longer one changes nothing
abbrev pub heard : Option Opened → List ℕ → Option Opened
heard o line = if nat_lt greatest_input (length line) then o else after o line

abbrev pub kept : Option Opened → List ℕ → List ℕ → List ℕ
kept o line output = if nat_lt greatest_input (length line) then output else kept_after o line output

-- after these lines
abbrev pub session_after : Option Opened → List (List ℕ) → Option Opened
session_after o [] = o
session_after o (line ∷ lines) = session_after (heard o line) lines

-- ---- what is wrong with a line

-- one of the requests nests too deep
abbrev pub depth_error : List Request → Option Remark
depth_error rs = if nat_lt (length (before_too_deep rs)) (length rs) then Some TooDeep else None

abbrev pub asking_error : Option Opened → Option Asking → Option Remark
asking_error o None = Some BadDocument
asking_error None (Some a) = depth_error a.document.requests
asking_error (Some o) (Some a) =
    if nat_eq (length a.document.schema.tables) 0 then depth_error a.document.requests else Some BadDocument

abbrev pub error_in : Option Opened → List ℕ → Option Remark
error_in None line = asking_error None (opened_by line)
error_in (Some o) line = if is_reset line then None else asking_error (Some o) (asking_of (Some o) line)

abbrev pub error : Option Opened → List ℕ → Option Remark
error o line = if nat_lt greatest_input (length line) then Some TooLarge else error_in o line

-- ---- the text

abbrev pub remark_text : Remark → List ℕ
remark_text BadDocument = codes "{\"error\":\"BadDocument\"}\n"
remark_text TooLarge = codes "{\"error\":\"TooLarge\"}\n"
remark_text TooDeep = codes "{\"error\":\"TooDeep\"}\n"

abbrev pub remark_line : Option Remark → List ℕ
remark_line None = []
remark_line (Some r) = remark_text r

-- the lines of requests, what is wrong, and an empty line
abbrev pub answer_text : List ℕ → Option Remark → List ℕ
answer_text lines o = lines ++ remark_line o ++ 10 ∷ []

-- the lines of what is made of requests, with ids counted over all
abbrev pub AreAnsweredBy : Declarations → List Asked → List ℕ → Type 0
AreAnsweredBy schema asked output = (ls : List Line) × AreLinesOf MAX_SHAPES schema asked ls × (output ≡ lines_text ls)

-- the lines of all requests of a session since it was opened or began anew, none where there is no session
abbrev pub IsOutputSo : Option Opened → List ℕ → Type 0
IsOutputSo None output = output ≡ []
IsOutputSo (Some o) output = AreAnsweredBy o.schema o.asked output

-- The lines are answered by the text, where the session was this, and its output so much, and is that in the end: each
-- line by the part of the output that is its own, and by what is wrong with it. A reset cuts the conversation: from there on the output
-- is that of a conversation of its own (`cut`, of `talk`).
abbrev pub Talk : Option Opened → List ℕ → List (List ℕ) → List ℕ → List ℕ → Type 0
Talk o output [] text whole = (text ≡ []) × (whole ≡ output)
Talk o output (line ∷ lines) text whole =
    (own rest : List ℕ) × IsOutputSo (heard o line) (kept o line output ++ own)
    × (text ≡ answer_text own (error o line) ++ rest) × Talk (heard o line) (kept o line output ++ own) lines rest whole

-- The lines of a conversation, from its first, are answered by this text.
abbrev pub AreAnswered : List (List ℕ) → List ℕ → Type 0
AreAnswered lines text = (output : List ℕ) × Talk None [] lines text output
