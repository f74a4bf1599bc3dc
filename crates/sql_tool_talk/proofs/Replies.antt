-- What the calls of a responder have said of a line.
use Rattle.std.proofs.Common.{◌≡◌, ◌∙◌, ◌<◌, ◌≤◌, ◌⊎◌, ℕ, Bool, true, false, cond, List, [], ◌++◌, length, Option, None, Some, ap, inl, inr, refl, subst, sym, append-nil}
use Rattle.std.specs.Prelude.{option_map}
use Rattle.sql_schema.specs.Declarations.{Declarations}
use Rattle.sql_tool_document.specs.Scalar.{◌>>=◌}
use Rattle.sql_tool_document.specs.Sessions.{call_in}
use Rattle.sql_tool_document.specs.Trees.{template_tree}
use Rattle.sql_tool_ids.specs.declared.seen.TheConstants.{MAX_SHAPES}
use Rattle.sql_tool_run.specs.Limits.{greatest_input}
use Rattle.sql_tool_run.specs.Run.{status_from}
use Rattle.sql_tool_run.specs.declared.status.Status.{Status}
use Rattle.sql_tool_run.specs.declared.status.Status.TheVariants.{Done, Usage, BadDocument, ReadFault, WriteFault, NoMemory, TooLarge}
use Rattle.sql_tool_session.specs.Session.{Asked, Asking, HasAnswered, IsOpenedBy, asked_by, asked_for, asking_in, capacity_of, opened_by, opening_status, template_by, template_of}
use Rattle.sql_tool_session.specs.Within.{HasTooDeep, before_too_deep}
use Rattle.sql_tool_session.specs.declared.responder.Responder.{Responder}
use Rattle.sql_tool_session.specs.declared.session.Session.{Session}
use Rattle.sql_tool_session.specs.declared.session.Terms.{Terms}
use Rattle.sql_tool_talk.proofs.Talks.{goes-on, goes-on-bad, goes-on-some, if-false, opens, opens-some, short}
use Rattle.sql_tool_talk.specs.Talk.{Opened, after, anew, asking_error, asking_of, error_in, followed_by, kept_after, opened_as, requests_of}
use Rattle.sql_tool_talk.proofs.Resets.{no-reset}
use Rattle.sql_tool_talk.specs.Resets.{is_reset}
use Rattle.sql_tool_talk.specs.declared.remark.Remark.{Remark}
use Rattle.sql_tool_talk.specs.inside.Talkers.{IsAnew, IsRemark, Knows}

none-bad : {X : Type 0} (o : Option X) → status_from o ≡ BadDocument → o ≡ None
none-bad None h = refl
none-bad (Some x) h = absurd (let wrong : Done ≡ BadDocument = h in cc)

short-status : (line : List ℕ) → length line ≤ greatest_input → opening_status line ≡ status_from (opened_by line)
short-status line few = if-false _ TooLarge (status_from (opened_by line)) (short line few)

bad-opening : (line : List ℕ) → length line ≤ greatest_input → (BadDocument ≡ NoMemory) ⊎ (BadDocument ≡ opening_status line)
    → opened_by line ≡ None
bad-opening line few (inl e) = absurd (let wrong : BadDocument ≡ NoMemory = e in cc)
bad-opening line few (inr e) = none-bad (opened_by line) (sym (e ∙ short-status line few))

-- the first line
module _ (line : List ℕ) (most : ℕ) (usual : most ≡ MAX_SHAPES) (r : Responder) (said : Option Remark) (few : length line ≤ greatest_input) where
  pub told-opened : (status : Status)
      → (status ≡ Done → (a : Asking) × (s : Session) × (opened_by line ≡ Some a) × (r.session ≡ Some s)
      × IsOpenedBy s most line
      × HasAnswered a.document.schema (asked_for a.tenant a.document.requests) r.answer.items s)
      → ((s : Session) → status ≡ NoMemory → r.session ≡ Some s → (a : Asking) × (opened_by line ≡ Some a)
      × HasTooDeep a.document.requests × IsOpenedBy s most line
      × HasAnswered a.document.schema (asked_for a.tenant (before_too_deep a.document.requests)) r.answer.items s)
      → ((a : Asking) → status ≡ Done → opened_by line ≡ Some a → HasTooDeep a.document.requests → ⊥)
      → ((status ≡ Done → ⊥) → (status ≡ NoMemory → r.session ≡ None) → (r.session ≡ None) × (r.answer.items ≡ []))
      → (status ≡ NoMemory) ⊎ (status ≡ opening_status line) → IsRemark status r.session said
      → (said ≡ error_in None line) × Knows r (after None line) r.answer.items
  told-opened Done opened deep shallow refused ends is =
      let (a, s, read, has, terms, answered) = opened refl in
      let (now, none) = opens (template_by line) (opened_by line) a read (shallow a refl read) in
      (is ∙ sym none, subst (λ o. Knows r o r.answer.items) (sym now) (s, has, (terms.0, terms.1 ∙ usual), answered))
  told-opened Usage opened deep shallow refused ends is = absurd is
  told-opened BadDocument opened deep shallow refused ends is =
      let none = bad-opening line few ends in
      let (gone, empty) =
      refused (λ e. (let wrong : BadDocument ≡ Done = e in cc)) (λ e. absurd (let wrong : BadDocument ≡ NoMemory = e in cc)) in (
        is ∙ sym (ap (asking_error None) none),
        subst (λ o. Knows r o r.answer.items) (sym (ap (option_map (opened_as (template_by line))) none)) (gone, empty),
      )
  told-opened ReadFault opened deep shallow refused ends is = absurd is
  told-opened WriteFault opened deep shallow refused ends is = absurd is
  told-opened NoMemory opened deep shallow refused ends is =
      let s = is.1.0 in
      let (a, read, over, terms, answered) = deep s refl is.1.1 in
      let (now, some) = opens-some (template_by line) (opened_by line) a read over in
      (is.0 ∙ sym some, subst (λ o. Knows r o r.answer.items) (sym now) (s, is.1.1, (terms.0, terms.1 ∙ usual), answered))
  told-opened TooLarge opened deep shallow refused ends is = absurd is

asks : (o : Opened) (s : Session) (output line : List ℕ) → template_of s ≡ o.template → HasAnswered o.schema o.asked output s
    → asked_by s line ≡ asking_of (Some o) line
unfolding asked_by
asks o s output line template has = λ i. call_in (template i) line >>= asking_in (has.schema i)

-- its policies and its capacity are these
abbrev Stands : Session → Opened → Type 0
Stands s o = (template_of s ≡ o.template) × (capacity_of s ≡ MAX_SHAPES)

-- they stay
still : (o : Opened) (before now : Session) → now.terms ≡ before.terms → Stands before o → Stands now o
still o before now same stands = (
  ap (λ (x : Terms). option_map template_tree x.template) same ∙ stands.0,
  ap (λ (x : Terms). x.capacity.shapes) same ∙ stands.1,
)

-- what is said of a line over the session, where it is a reset and where it is none
abbrev IsSaid : Bool → List ℕ → Responder → Option Remark → Opened → List ℕ → Type 0
IsSaid b line new said o output =
    (said ≡ cond b None (asking_error (Some o) (asking_of (Some o) line)))
    × Knows new (Some (cond b (anew o) (followed_by o (requests_of (asking_of (Some o) line)))))
    (cond b [] output ++ new.answer.items)

same-said : (b c : Bool) (line : List ℕ) (new : Responder) (said : Option Remark) (o : Opened) (output : List ℕ) → c ≡ b
    → IsSaid b line new said o output → IsSaid c line new said o output
same-said b c line new said o output same is = subst (λ x. IsSaid x line new said o output) (sym same) is

-- a further line
module _ (line : List ℕ) (old new : Responder) (said : Option Remark) where
  abbrev Grows : Session → Session → List Asked → Type 0
  Grows before after more =
      (schema : Declarations) (asked : List Asked) (text : List ℕ) → HasAnswered schema asked text before
      → HasAnswered schema (asked ++ more) (text ++ new.answer.items) after

  same-session : (s before : Session) → old.session ≡ Some s → old.session ≡ Some before → before ≡ s
  same-session s before had was = let both : Some before ≡ Some s = sym was ∙ had in cc

  -- what is asked of the session
  asked-so : (o : Opened) (output : List ℕ) (s before : Session) (a : Asking) → old.session ≡ Some s → old.session ≡ Some before
      → template_of s ≡ o.template → HasAnswered o.schema o.asked output s → asked_by before line ≡ Some a
      → asking_of (Some o) line ≡ Some a
  asked-so o output s before a had was template answered read =
      sym (asks o s output line template answered) ∙ ap (λ x. asked_by x line) (sym (same-session s before had was)) ∙ read

  -- it has answered these requests too
  grown : (o : Opened) (output : List ℕ) (s before now : Session) (more : List Asked) → old.session ≡ Some s
      → old.session ≡ Some before → new.session ≡ Some now → now.terms ≡ before.terms → Stands s o
      → HasAnswered o.schema o.asked output s → Grows before now more
      → requests_of (asking_of (Some o) line) ≡ more
      → Knows new (Some (followed_by o (requests_of (asking_of (Some o) line)))) (output ++ new.answer.items)
  grown o output s before now more had was has kept stands answered grows these =
      let same = same-session s before had was in (
        now,
        has,
        still o before now kept (subst (λ x. Stands x o) (sym same) stands),
        subst (λ x. HasAnswered o.schema (o.asked ++ x) (output ++ new.answer.items) now) (sym these)
            (grows o.schema o.asked output (subst (λ x. HasAnswered o.schema o.asked output x) (sym same) answered)),
      )

  pub told-next : (status : Status) → (status ≡ Usage → ⊥) → (status ≡ BadDocument → ⊥) → (old.session ≡ None → status ≡ Usage)
      → (status ≡ Done → (before now : Session) × (a : Asking) × (old.session ≡ Some before)
      × (new.session ≡ Some now) × (asked_by before line ≡ Some a)
      × (length a.document.schema.tables ≡ 0) × (now.terms ≡ before.terms)
      × Grows before now (asked_for a.tenant a.document.requests))
      → ((now : Session) → status ≡ NoMemory → new.session ≡ Some now → (before : Session) × (a : Asking)
      × (old.session ≡ Some before) × (asked_by before line ≡ Some a) × (length a.document.schema.tables ≡ 0)
      × HasTooDeep a.document.requests × (now.terms ≡ before.terms)
      × Grows before now (asked_for a.tenant (before_too_deep a.document.requests)))
      → ((before : Session) (a : Asking) → status ≡ Done → old.session ≡ Some before → asked_by before line ≡ Some a
      → HasTooDeep a.document.requests → ⊥)
      → IsRemark status new.session said → (o : Option Opened) (output : List ℕ) → Knows old o output
      → (said ≡ error_in o line) × Knows new (after o line) (kept_after o line output ++ new.answer.items)
  told-next status other good usage done deep shallow is None output knows = absurd (other (usage knows.0))
  told-next Done other good usage done deep shallow is (Some o) output (s, had, stands, answered) =
      let (before, now, a, was, has, read, none, kept, grows) = done refl in
      let asked = asked-so o output s before a had was stands.0 answered read in
      let (these, quiet) = goes-on o a (asking_of (Some o) line) asked none (shallow before a refl was read) in
      same-said false (is_reset line) line new said o output (no-reset o line a asked) (
        is ∙ sym quiet,
        grown o output s before now (asked_for a.tenant a.document.requests) had was has kept stands answered grows these,
      )
  told-next Usage other good usage done deep shallow is (Some o) output knows = absurd is
  told-next BadDocument other good usage done deep shallow is (Some o) output knows = absurd (good refl)
  told-next ReadFault other good usage done deep shallow is (Some o) output knows = absurd is
  told-next WriteFault other good usage done deep shallow is (Some o) output knows = absurd is
  told-next NoMemory other good usage done deep shallow is (Some o) output (s, had, stands, answered) =
      let now = is.1.0 in
      let (before, a, was, read, none, over, kept, grows) = deep now refl is.1.1 in
      let asked = asked-so o output s before a had was stands.0 answered read in
      let (these, some) = goes-on-some o a (asking_of (Some o) line) asked none over in
      same-said false (is_reset line) line new said o output (no-reset o line a asked) (
        is.0 ∙ sym some,
        grown o output s before now (asked_for a.tenant (before_too_deep a.document.requests)) had was is.1.1 kept stands
            answered grows these,
      )
  told-next TooLarge other good usage done deep shallow is (Some o) output knows = absurd is

-- the session has begun anew
pub begun : (status : Status) (old new : Responder) → (status ≡ Usage → old.session ≡ None)
    → (status ≡ Done → (before after : Session) × (old.session ≡ Some before) × (new.session ≡ Some after)
    × (after.terms ≡ before.terms)
    × ((schema : Declarations) (asked : List Asked) (text : List ℕ) → HasAnswered schema asked text before
    → HasAnswered schema [] [] after))
    → (status ≡ Done) ⊎ (status ≡ Usage) → (before : Session) → old.session ≡ Some before
    → (after : Session) × (new.session ≡ Some after) × (after.terms ≡ before.terms)
    × ((schema : Declarations) (asked : List Asked) (text : List ℕ) → HasAnswered schema asked text before
    → HasAnswered schema [] [] after)
begun status old new usage done (inl ended) before was =
    let (first, after, had, has, terms, grows) = done ended in
    let same : first ≡ before = (let both : Some first ≡ Some before = sym had ∙ was in cc) in (
      after,
      has,
      terms ∙ ap (λ (x : Session). x.terms) same,
      λ schema asked text answered.
          grows schema asked text (subst (λ x. HasAnswered schema asked text x) (sym same) answered),
    )
begun status old new usage done (inr ended) before was =
    absurd (let wrong : Prim.Path (Option Session) None (Some before) = sym (usage ended) ∙ was in cc)

-- a line that is no such document: it has the session begin anew, or is told so
pub told-anew : (line : List ℕ) (old mid new : Responder) (said : Option Remark) → (old.session ≡ None → ⊥)
    → mid.session ≡ old.session → mid.answer.items ≡ []
    → ((before : Session) (a : Asking) → old.session ≡ Some before → asked_by before line ≡ Some a
    → 0 < length a.document.schema.tables)
    → IsAnew line mid new said → (o : Option Opened) (output : List ℕ) → Knows old o output
    → (said ≡ error_in o line) × Knows new (after o line) (kept_after o line output ++ new.answer.items)
told-anew line old mid new said there same empty declares is None output knows = absurd (there knows.0)
told-anew line old mid new said there same empty declares (inl (reset, quiet, nothing, begins)) (Some o) output (s, had, stands, answered) =
    let (now, has, kept, anew) = begins s (same ∙ had) in
    same-said true (is_reset line) line new said o output reset (
      quiet,
      (
        now,
        has,
        still o s now kept stands,
        subst (λ u. HasAnswered o.schema [] u now) (sym nothing) (anew o.schema o.asked output answered),
      ),
    )
told-anew line old mid new said there same empty declares (inr (reset, bad, is)) (Some o) output (s, had, stands, answered) =
    let (none, told) =
    goes-on-bad o (asking_of (Some o) line) (λ a read. declares s a had (asks o s output line stands.0 answered ∙ read)) in
    let requests : o.asked ≡ o.asked ++ requests_of (asking_of (Some o) line) =
    sym (ap (λ x. o.asked ++ x) none ∙ append-nil o.asked) in
    let text : output ≡ output ++ new.answer.items =
    sym (ap (λ x. output ++ x) (ap (λ (r : Responder). r.answer.items) is ∙ empty) ∙ append-nil output) in
    same-said false (is_reset line) line new said o output reset (
      bad ∙ sym told,
      (
        s,
        ap (λ (r : Responder). r.session) is ∙ same ∙ had,
        stands,
        subst (λ x. HasAnswered o.schema x (output ++ new.answer.items) s) requests
            (subst (λ u. HasAnswered o.schema o.asked u s) text answered),
      ),
    )

-- a line that opens a session, where there is none
pub told-first : (line : List ℕ) (old new : Responder) (said : Option Remark) → old.session ≡ None
    → (said ≡ error_in None line) × Knows new (after None line) new.answer.items → (o : Option Opened) (output : List ℕ)
    → Knows old o output → (said ≡ error_in o line) × Knows new (after o line) (kept_after o line output ++ new.answer.items)
told-first line old new said none told None output knows =
    (told.0, subst (λ u. Knows new (after None line) (u ++ new.answer.items)) (sym knows.1) told.1)
told-first line old new said none told (Some o) output (s, had, stands, answered) =
    absurd (let wrong : Prim.Path (Option Session) None (Some s) = sym none ∙ had in cc)
