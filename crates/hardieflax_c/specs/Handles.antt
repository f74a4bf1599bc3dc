-- The meaning of a handle that C holds.
use Rattle.std.specs.Prelude.{◌≡◌, ◌<◌, ◌⊎◌, ◌↔◌, ◌++◌, ℕ, List, [], Option, Some, None, is_some, length, option_and_then}
use Rattle.std.specs.Vec.{vec_ptr}
use Rattle.sql_tool_run.specs.Command.{IsOutputOf, IsOutputPrefixOf}
use Rattle.sql_tool_run.specs.Limits.{greatest_input}
use Rattle.sql_tool_run.specs.Run.{status_of}
use Rattle.sql_tool_run.specs.declared.command.Command.{Command}
use Rattle.sql_tool_run.specs.declared.status.Status.{Status}
use Rattle.sql_tool_run.specs.declared.status.Status.TheVariants.{Done, Usage, BadDocument, NoMemory, TooLarge}
use Rattle.sql_schema.specs.Declarations.{Declarations}
use Rattle.sql_tool_session.specs.Session.{Asked, Asking, HasAnswered, IsOpenedBy, asked_by, asked_for, opened_by, opening_status}
use Rattle.sql_dialect.specs.declared.backend.Dialect.{Dialect}
use Rattle.sql_tool_session.specs.Audited.{IsAuditedOver, IsAuditedPartly, auditing_status}
use Rattle.sql_tool_session.specs.Within.{HasTooDeep, before_too_deep}
use Rattle.sql_tool_session.specs.declared.responder.Responder.{Responder}
use Rattle.sql_tool_session.specs.declared.session.Session.{Session}
use Rattle.hardieflax_c.specs.declared.handle.Handle.{Handle}

-- the responder that the handle has
abbrev pub kept_by : Handle → Option Responder
kept_by h = h.owner.kept

-- its session
abbrev pub session_of : Handle → Option Session
session_of h = option_and_then (λ r. r.session) (kept_by h)

-- It says that it is in use exactly where it has one. This is what C upholds of a handle that it passes.
abbrev pub IsSound : Handle → Type 0
IsSound h = h.in_use ≡ is_some (kept_by h)

-- It has this responder, and points to its answer.
pub record Shows (h : Handle) (r : Responder) : Type 0 where
  pub kept : kept_by h ≡ Some r
  pub points : h.bytes ≡ vec_ptr r.answer
  pub counts : h.length ≡ length r.answer.items

-- A call carries out a command over these bytes, and ends so: on Done the handle shows the command's output, out of memory nothing or a
-- prefix of it, else nothing. Bytes and command determine the status, unless memory runs out. The session is as it was.
pub record IsAnswered (c : Command) (input : List ℕ) (old new : Handle) (status : Status) : Type 0 where
  pub done : status ≡ Done → (r : Responder) × Shows new r × IsOutputOf c input r.answer.items
  pub partial : status ≡ NoMemory
      → (new.length ≡ 0) ⊎ ((r : Responder) × Shows new r × IsOutputPrefixOf c input r.answer.items)
  pub nothing : (status ≡ Done → ⊥) → (status ≡ NoMemory → ⊥) → new.length ≡ 0
  pub decided : (status ≡ NoMemory) ⊎ (status ≡ status_of (Some c) input)
  pub session : session_of new ≡ session_of old
  pub sound : IsSound new

-- A call opens a session with this capacity: on Done it has answered what the document asks, by what the handle shows. After NoMemory there is a session only
-- where a request nests too deep, and it has answered those before it. Done comes only where none does. The session has the policies that
-- the document has: without any it is answered for nobody in particular, and the status is that of `build`; with some it is answered for a
-- tenant (the laws of `sql_tool_session`).
pub record IsOpened (most : ℕ) (input : List ℕ) (new : Handle) (status : Status) : Type 0 where
  pub done : status ≡ Done → (r : Responder) × (s : Session) × (a : Asking) × Shows new r
      × (session_of new ≡ Some s) × (opened_by input ≡ Some a) × IsOpenedBy s most input
      × HasAnswered a.document.schema (asked_for a.tenant a.document.requests) r.answer.items s
  pub deep : (s : Session) → status ≡ NoMemory → session_of new ≡ Some s → (r : Responder) × (a : Asking) × Shows new r
      × (opened_by input ≡ Some a) × HasTooDeep a.document.requests × IsOpenedBy s most input
      × HasAnswered a.document.schema (asked_for a.tenant (before_too_deep a.document.requests)) r.answer.items s
  pub shallow : (a : Asking) → status ≡ Done → opened_by input ≡ Some a → HasTooDeep a.document.requests → ⊥
  pub nothing : (status ≡ Done → ⊥) → (status ≡ NoMemory → session_of new ≡ None)
      → (new.length ≡ 0) × (session_of new ≡ None)
  pub decided : (status ≡ NoMemory) ⊎ (status ≡ opening_status input)
  pub sound : IsSound new

-- A call goes on with the session: on Done it has answered what the document asks too, by what the handle shows. After NoMemory there is
-- a session only where a request nests too deep, and it has answered those before it. Done comes only where none does. A session keeps its
-- policies and its capacity: without policies all is answered for nobody in particular, and with some for a tenant.
pub record IsContinued (input : List ℕ) (old new : Handle) (status : Status) : Type 0 where
  pub done : status ≡ Done → (r : Responder) × (before after : Session) × (a : Asking) × Shows new r
      × (session_of old ≡ Some before) × (session_of new ≡ Some after)
      × (asked_by before input ≡ Some a) × (length a.document.schema.tables ≡ 0) × (after.terms ≡ before.terms)
      × ((schema : Declarations) (asked : List Asked) (text : List ℕ) → HasAnswered schema asked text before
      → HasAnswered schema (asked ++ asked_for a.tenant a.document.requests) (text ++ r.answer.items) after)
  pub deep : (after : Session) → status ≡ NoMemory → session_of new ≡ Some after
      → (r : Responder) × (before : Session) × (a : Asking) × Shows new r × (session_of old ≡ Some before)
      × (asked_by before input ≡ Some a) × (length a.document.schema.tables ≡ 0) × HasTooDeep a.document.requests
      × (after.terms ≡ before.terms)
      × ((schema : Declarations) (asked : List Asked) (text : List ℕ) → HasAnswered schema asked text before
      → HasAnswered schema (asked ++ asked_for a.tenant (before_too_deep a.document.requests)) (text ++ r.answer.items) after)
  pub shallow : (before : Session) (a : Asking) → status ≡ Done → session_of old ≡ Some before
      → asked_by before input ≡ Some a → HasTooDeep a.document.requests → ⊥
  pub nothing : (status ≡ Done → ⊥) → (status ≡ NoMemory → session_of new ≡ None) → new.length ≡ 0
  pub usage : (status ≡ Usage) ↔ (session_of old ≡ None)
  pub bad : status ≡ BadDocument → (session_of new ≡ session_of old)
      × ((before : Session) (a : Asking) → session_of old ≡ Some before → asked_by before input ≡ Some a
      → 0 < length a.document.schema.tables)
  pub large : status ≡ TooLarge → (session_of new ≡ session_of old) × (greatest_input < length input)
  pub too_large : ¬ (session_of old ≡ None) → greatest_input < length input → status ≡ TooLarge
  pub ends : (status ≡ Done) ⊎ ((status ≡ Usage) ⊎ ((status ≡ BadDocument) ⊎ ((status ≡ TooLarge) ⊎ (status ≡ NoMemory))))
  pub sound : IsSound new

-- A call has the session begin anew: on Done it has answered nothing, and schema, policies and capacity are as they were.
pub record IsAnew (old new : Handle) (status : Status) : Type 0 where
  pub done : status ≡ Done → (before after : Session) × (session_of old ≡ Some before) × (session_of new ≡ Some after)
      × (after.terms ≡ before.terms)
      × ((schema : Declarations) (asked : List Asked) (text : List ℕ) → HasAnswered schema asked text before
      → HasAnswered schema [] [] after)
  pub usage : (status ≡ Usage) ↔ (session_of old ≡ None)
  pub none : session_of old ≡ None → session_of new ≡ None
  pub nothing : new.length ≡ 0
  pub ends : (status ≡ Done) ⊎ (status ≡ Usage)
  pub sound : IsSound new

-- A call audits texts over the session's schema: on Done the handle shows their lines, out of memory nothing or those of the first texts, else
-- nothing. The session is as it was.
pub record IsAuditedBySession (d : Dialect) (input : List ℕ) (old new : Handle) (status : Status) : Type 0 where
  pub done : (s : Session) → session_of old ≡ Some s → status ≡ Done
      → (r : Responder) × Shows new r × IsAuditedOver s.cache.schema d input r.answer.items
  pub partial : (s : Session) → session_of old ≡ Some s → status ≡ NoMemory
      → (new.length ≡ 0) ⊎ ((r : Responder) × Shows new r × IsAuditedPartly s.cache.schema d input r.answer.items)
  pub nothing : (status ≡ Done → ⊥) → (status ≡ NoMemory → ⊥) → new.length ≡ 0
  pub usage : (status ≡ Usage) ↔ (session_of old ≡ None)
  pub decided : (s : Session) → session_of old ≡ Some s
      → (status ≡ NoMemory) ⊎ (status ≡ auditing_status s.cache.schema input)
  pub session : session_of new ≡ session_of old
  pub sound : IsSound new
