-- Who asks, in sessions with policies and without.
use Rattle.std.proofs.Common.{◌≡◌, ◌∙◌, ◌⊎◌, ◌<◌, ◌≤◌, ℕ, List, length, codes, Option, None, Some, option_map, ap, refl, sym, inl, inr}
use Rattle.std.specs.Prelude.{nat_lt, if◌then◌else◌}
use Rattle.std.proofs.lemmas.Bool.{le-ltb}
use Rattle.serde_json.specs.Data.{Data}
use Rattle.serde_json.specs.Find.{get}
use Rattle.sql_schema.specs.Declarations.{Declarations}
use Rattle.sql_guard_law.specs.Policies.{Policy}
use Rattle.sql_tool_document.specs.Documents.{Document, document, document_of, value_in}
use Rattle.sql_tool_document.specs.Policies.{Policed}
use Rattle.sql_tool_document.specs.Scalar.{◌>>=◌}
use Rattle.sql_tool_document.specs.Sessions.{Call, Opening, call_in, call_of, opening, opening_of, policed_by}
use Rattle.sql_tool_document.specs.Trees.{template_tree}
use Rattle.sql_tool_document.specs.declared.session.Template.{Template}
use Rattle.sql_tool_guard.specs.Tenants.{Tenant, by_policies, policies_named}
use Rattle.sql_tool_run.specs.Limits.{greatest_input}
use Rattle.sql_tool_run.specs.Run.{status_from}
use Rattle.sql_tool_run.specs.declared.status.Status.{Status}
use Rattle.sql_tool_run.specs.declared.status.Status.TheVariants.{BadDocument, Done, NoMemory, TooLarge}
use Rattle.sql_tool_session.specs.Session.{Asking, IsGuardedCall, IsGuardedOpening, IsPlainCall, IsPlainOpening, asked_by, asking_in, for_nobody, opened_by, opening_status, template_of, tenant_in}
use Rattle.sql_tool_session.specs.declared.session.Session.{Session}

none_some : {X : Type 0} {Y : Type 0} (x : X) → Prim.Path (Option X) None (Some x) → Y
none_some x is = cc

-- a call that opens a session, with these policies, and what it asks
abbrev opening_by : Option (Option Data) → Call → Opening
opening_by t c = record { call = c; template = t }

abbrev asked_at : Opening → Option Asking
asked_at x = asking_in x.call.document.schema x.call

abbrev kept_at : Opening → Option (Option Data)
kept_at x = x.template

-- ---- without policies

plain_document : (o : Option Document) (schema : Call → Declarations)
    → (option_map (λ x. record { document = x; policies = None }) o >>= λ c. asking_in (schema c) c)
    ≡ option_map for_nobody o
plain_document None schema = refl
plain_document (Some x) schema = refl

status_mapped : {X Y : Type 0} (f : X → Y) (o : Option X) → status_from (option_map f o) ≡ status_from o
status_mapped f None = refl
status_mapped f (Some x) = refl

opened_call : (o : Option Call) (t : Option (Option Data))
    → (option_map (opening_by t) o >>= asked_at) ≡ (o >>= λ c. asking_in c.document.schema c)
opened_call None t = refl
opened_call (Some c) t = refl

plain_at : (d : Data) → get (codes "tenant") d ≡ None
    → (opening_of d >>= asked_at) ≡ option_map for_nobody (document_of d)
unfolding opening_of
plain_at d none =
    rw none
    (opened_call (call_of None d) None ∙ plain_document (document_of d) (λ c. c.document.schema))

plain_from : (o : Option Data) → (o >>= get (codes "tenant")) ≡ None
    → ((o >>= opening_of) >>= asked_at)
    ≡ option_map for_nobody (o >>= document_of)
plain_from None none = refl
plain_from (Some d) none = plain_at d none

no_template : (o : Option Call) → (option_map (opening_by None) o >>= kept_at) ≡ None
no_template None = refl
no_template (Some c) = refl

template_at : (d : Data) → get (codes "tenant") d ≡ None → (opening_of d >>= kept_at) ≡ None
unfolding opening_of
template_at d none = rw none (no_template (call_of None d))

template_from : (o : Option Data) → (o >>= get (codes "tenant")) ≡ None
    → ((o >>= opening_of) >>= kept_at) ≡ None
template_from None none = refl
template_from (Some d) none = template_at d none

pub plain_opening : (bytes : List ℕ) → IsPlainOpening bytes
unfolding opened_by opening document
plain_opening bytes none =
    let opened : opened_by bytes ≡ option_map for_nobody (document bytes) = plain_from (value_in bytes) none in (
      opened,
      template_from (value_in bytes) none,
      ap (λ (s : Status). if nat_lt greatest_input (length bytes) then TooLarge else s)
          (ap status_from opened ∙ status_mapped for_nobody (document bytes)),
    )

plain_called : (o : Option Data) (schema : Declarations)
    → ((o >>= call_of None) >>= asking_in schema) ≡ option_map for_nobody (o >>= document_of)
plain_called None schema = refl
plain_called (Some d) schema = plain_document (document_of d) (λ c. schema)

pub plain_call : (s : Session) (bytes : List ℕ) → IsPlainCall s bytes
unfolding asked_by call_in document
plain_call s bytes none = rw none (plain_called (value_in bytes) s.cache.schema)

-- ---- with policies

tenant_there : (d : Document) (o : Option (List Policy)) (a : Asking)
    → option_map (λ t. record { document = d; tenant = t }) (option_map (λ ps. Some (by_policies ps)) o) ≡ Some a
    → a.tenant ≡ None → ⊥
tenant_there d None a is none = none_some a is
tenant_there d (Some ps) a is none =
    let same : record { document = d; tenant = Some (by_policies ps) } ≡ a = cc in
    none_some (by_policies ps) (sym (ap (λ (x : Asking). x.tenant) same ∙ none))

policed_there : (o : Option Policed) (schema : Call → Declarations) (a : Asking)
    → (option_map (λ x. record { document = x.document; policies = Some x.policies }) o >>= λ c. asking_in (schema c) c)
    ≡ Some a
    → a.tenant ≡ None → ⊥
policed_there None schema a is none = none_some a is
policed_there (Some x) schema a is none = tenant_there x.document (policies_named _ x.policies) a is none

kept_there : (o : Option Call) (t : Option Data) (a : Asking) → (o >>= λ c. asking_in c.document.schema c) ≡ Some a
    → (option_map (opening_by (Some t)) o >>= kept_at) ≡ Some t
kept_there None t a is = none_some a is
kept_there (Some c) t a is = refl

guarded_at : (d : Data) (p : Data) (a : Asking) → get (codes "tenant") d ≡ Some p
    → (opening_of d >>= asked_at) ≡ Some a
    → ((opening_of d >>= kept_at) ≡ Some (Some p)) × (a.tenant ≡ None → ⊥)
unfolding opening_of
guarded_at d p a some is = called (get (codes "tenant") d) some is
  where
    called : (o : Option Data) → o ≡ Some p
        → (option_map (opening_by (option_map Some o)) (call_of o d) >>= asked_at)
        ≡ Some a
        → ((option_map (opening_by (option_map Some o)) (call_of o d) >>= kept_at)
        ≡ Some (Some p))
        × (a.tenant ≡ None → ⊥)
    called None there asks = none_some p there
    called (Some q) there asks =
        let same : q ≡ p = cc in
        let asked = sym (opened_call (call_of (Some q) d) (Some (Some q))) ∙ asks in (
          kept_there (call_of (Some q) d) (Some q) a asked ∙ ap (λ x. Some (Some x)) same,
          policed_there (policed_by q d) (λ c. c.document.schema) a asked,
        )

guarded_from : (o : Option Data) (p : Data) (a : Asking) → (o >>= get (codes "tenant")) ≡ Some p
    → ((o >>= opening_of) >>= asked_at) ≡ Some a
    → (((o >>= opening_of) >>= kept_at) ≡ Some (Some p)) × (a.tenant ≡ None → ⊥)
guarded_from None p a some is = none_some p some
guarded_from (Some d) p a some is = guarded_at d p a some is

pub guarded_opening : (bytes : List ℕ) → IsGuardedOpening bytes
unfolding opened_by opening
guarded_opening bytes p a some is = guarded_from (value_in bytes) p a some is

with_value : (o : Option Data) (t : Data) (schema : Declarations) (a : Asking)
    → ((o >>= call_of (Some t)) >>= asking_in schema) ≡ Some a → a.tenant ≡ None → ⊥
with_value None t schema a is none = none_some a is
with_value (Some d) t schema a is none = policed_there (policed_by t d) (λ c. schema) a is none

with_template : (t : Option Data) (o : Option Data) (schema : Declarations) (a : Asking)
    → ((t >>= λ u. o >>= call_of (Some u)) >>= asking_in schema) ≡ Some a → a.tenant ≡ None → ⊥
with_template None o schema a is none = none_some a is
with_template (Some t) o schema a is none = with_value o t schema a is none

in_session : (k : Option Template) (bytes : List ℕ) (schema : Declarations) (a : Asking) → (k ≡ None → ⊥)
    → (call_in (option_map template_tree k) bytes >>= asking_in schema) ≡ Some a → a.tenant ≡ None → ⊥
unfolding call_in
in_session None bytes schema a has is none = has refl
in_session (Some t) bytes schema a has is none = with_template (template_tree t) (value_in bytes) schema a is none

pub guarded_call : (s : Session) (bytes : List ℕ) → IsGuardedCall s bytes
unfolding asked_by
guarded_call s bytes a has is none = in_session s.terms.template bytes s.cache.schema a has is none

-- ---- what is asked, step by step

pub opened_is : (bytes : List ℕ) (o : Opening) (t : Option Tenant) → opening bytes ≡ Some o
    → tenant_in o.call.document.schema o.call.policies ≡ Some t
    → opened_by bytes ≡ Some (record { document = o.call.document; tenant = t })
unfolding opened_by
opened_is bytes o t is found =
    ap (λ x. x >>= asked_at) is
    ∙ ap (option_map (λ u. record { document = o.call.document; tenant = u })) found

pub opened_lost : (bytes : List ℕ) (o : Opening) → opening bytes ≡ Some o
    → tenant_in o.call.document.schema o.call.policies ≡ None → opened_by bytes ≡ None
unfolding opened_by
opened_lost bytes o is lost =
    ap (λ x. x >>= asked_at) is
    ∙ ap (option_map (λ u. record { document = o.call.document; tenant = u })) lost

pub opened_none : (bytes : List ℕ) → opening bytes ≡ None → opened_by bytes ≡ None
unfolding opened_by
opened_none bytes is = ap (λ x. x >>= asked_at) is

pub asked_is : (s : Session) (bytes : List ℕ) (k : Call) (t : Option Tenant) → call_in (template_of s) bytes ≡ Some k
    → tenant_in s.cache.schema k.policies ≡ Some t
    → asked_by s bytes ≡ Some (record { document = k.document; tenant = t })
unfolding asked_by
asked_is s bytes k t is found =
    ap (λ x. x >>= asking_in s.cache.schema) is ∙ ap (option_map (λ u. record { document = k.document; tenant = u })) found

pub asked_lost : (s : Session) (bytes : List ℕ) (k : Call) → call_in (template_of s) bytes ≡ Some k
    → tenant_in s.cache.schema k.policies ≡ None → asked_by s bytes ≡ None
unfolding asked_by
asked_lost s bytes k is lost =
    ap (λ x. x >>= asking_in s.cache.schema) is ∙ ap (option_map (λ u. record { document = k.document; tenant = u })) lost

pub asked_none : (s : Session) (bytes : List ℕ) → call_in (template_of s) bytes ≡ None → asked_by s bytes ≡ None
unfolding asked_by
asked_none s bytes is = ap (λ x. x >>= asking_in s.cache.schema) is

same_document : (d : Document) (o : Option (Option Tenant)) (a : Asking)
    → option_map (λ u. record { document = d; tenant = u }) o ≡ Some a → a.document ≡ d
same_document d None a is = none_some a is
same_document d (Some t) a is =
    let same : record { document = d; tenant = t } ≡ a = cc in sym (ap (λ (x : Asking). x.document) same)

-- what is asked has the document of the call
pub asked_document : (s : Session) (bytes : List ℕ) (k : Call) (a : Asking) → call_in (template_of s) bytes ≡ Some k
    → asked_by s bytes ≡ Some a → a.document ≡ k.document
unfolding asked_by
asked_document s bytes k a is asked =
    same_document k.document (tenant_in s.cache.schema k.policies) a
    (sym (ap (λ x. x >>= asking_in s.cache.schema) is) ∙ asked)

-- ---- what a call ends with where its tenant is looked up

at_opening : (bytes : List ℕ) → length bytes ≤ greatest_input
    → opening_status bytes ≡ status_from (opened_by bytes)
at_opening bytes small =
    ap (λ b. if b then TooLarge else status_from (opened_by bytes)) (le-ltb greatest_input (length bytes) small)

pub opened_done : (bytes : List ℕ) (o : Opening) (t : Option Tenant) → opening bytes ≡ Some o
    → tenant_in o.call.document.schema o.call.policies ≡ Some t → length bytes ≤ greatest_input
    → opening_status bytes ≡ Done
opened_done bytes o t is found small = at_opening bytes small ∙ ap status_from (opened_is bytes o t is found)

-- why the tenant is not found
abbrev pub IsLost : Declarations → Call → Status → Type 0
IsLost schema k status = (status ≡ NoMemory) ⊎ ((status ≡ BadDocument) × (tenant_in schema k.policies ≡ None))

pub opened_refused : (bytes : List ℕ) (o : Opening) (status : Status) → opening bytes ≡ Some o
    → length bytes ≤ greatest_input → IsLost o.call.document.schema o.call status
    → (status ≡ Done → ⊥) × ((status ≡ NoMemory) ⊎ (status ≡ opening_status bytes))
opened_refused bytes o status is small (inl none) =
    (λ done. let no : NoMemory ≡ Done = sym none ∙ done in cc, inl none)
opened_refused bytes o status is small (inr (bad, lost)) = (
  λ done. let no : BadDocument ≡ Done = sym bad ∙ done in cc,
  inr (bad ∙ sym (at_opening bytes small ∙ ap status_from (opened_lost bytes o is lost))),
)

pub asked_refused : (s : Session) (bytes : List ℕ) (k : Call) (status : Status) → call_in (template_of s) bytes ≡ Some k
    → length bytes ≤ greatest_input → IsLost s.cache.schema k status
    → (status ≡ NoMemory)
    ⊎ (((status ≡ TooLarge) × (greatest_input < length bytes))
    ⊎ ((status ≡ BadDocument) × (length bytes ≤ greatest_input)
    × ((a : Asking) → asked_by s bytes ≡ Some a → 0 < length a.document.schema.tables)))
asked_refused s bytes k status is small (inl none) = inl none
asked_refused s bytes k status is small (inr (bad, lost)) =
    inr
    (inr
    (bad, small, λ a asked. none_some a (sym (asked_lost s bytes k is lost) ∙ asked)))
