-- What one who answers lines knows.
use Rattle.std.specs.Prelude.{◌≡◌, ◌⊎◌, ℕ, List, [], Bool, true, false, Option, None, Some}
use Rattle.sql_schema.specs.Declarations.{Declarations}
use Rattle.sql_tool_run.specs.declared.status.Status.{Status}
use Rattle.sql_tool_run.specs.declared.status.Status.TheVariants.{Done, Usage, BadDocument, ReadFault, WriteFault, NoMemory, TooLarge}
use Rattle.sql_tool_ids.specs.declared.seen.TheConstants.{MAX_SHAPES}
use Rattle.sql_tool_session.specs.Session.{Asked, HasAnswered, capacity_of, template_of}
use Rattle.sql_tool_session.specs.declared.responder.Responder.{Responder}
use Rattle.sql_tool_session.specs.declared.session.Session.{Session}
use Rattle.sql_tool_talk.specs.Resets.{is_reset}
use Rattle.sql_tool_talk.specs.Talk.{Opened, Talk, session_after}
use Rattle.sql_tool_talk.specs.declared.remark.Remark.{Remark}
use Rattle.sql_tool_talk.specs.declared.remark.Remark.TheVariants as remark

-- its session is this, and has answered its requests by this output
abbrev pub Knows : Responder → Option Opened → List ℕ → Type 0
Knows r None output = (r.session ≡ None) × (output ≡ [])
Knows r (Some o) output =
    (s : Session) × (r.session ≡ Some s) × ((template_of s ≡ o.template) × (capacity_of s ≡ MAX_SHAPES))
    × HasAnswered o.schema o.asked output s

-- what it has said of lines, from the first on
abbrev pub Told : Responder → List (List ℕ) → List ℕ → Type 0
Told r lines text = (output : List ℕ) × Talk None [] lines text output × Knows r (session_after None lines) output

-- the remark on a call that ended so, and left this session
abbrev pub IsRemark : Status → Option Session → Option Remark → Type 0
IsRemark Done session said = said ≡ None
IsRemark Usage session said = ⊥
IsRemark BadDocument session said = said ≡ Some remark.BadDocument
IsRemark ReadFault session said = ⊥
IsRemark WriteFault session said = ⊥
IsRemark NoMemory session said = (said ≡ Some remark.TooDeep) × ((s : Session) × (session ≡ Some s))
IsRemark TooLarge session said = ⊥

-- What is done with a line that is no document: where it is a reset, the session begins anew, and else nothing.
abbrev pub IsAnew : List ℕ → Responder → Responder → Option Remark → Type 0
IsAnew line old new said =
    ((is_reset line ≡ true) × (said ≡ None) × (new.answer.items ≡ [])
    × ((before : Session) → old.session ≡ Some before → (after : Session) × (new.session ≡ Some after)
    × (after.terms ≡ before.terms)
    × ((schema : Declarations) (asked : List Asked) (text : List ℕ) → HasAnswered schema asked text before
    → HasAnswered schema [] [] after)))
    ⊎ ((is_reset line ≡ false) × (said ≡ Some remark.BadDocument) × (new ≡ old))
