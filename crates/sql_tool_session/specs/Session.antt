-- What a session has answered: requests, each for a tenant or, in a session without policies, for nobody in particular.
use Rattle.std.specs.Prelude.{◌≡◌, ℕ, List, [], ◌∷◌, codes, length, map, Option, None, Some, option_map, nat_eq, nat_lt, if◌then◌else◌}
use Rattle.serde_json.specs.Data.{Data}
use Rattle.serde_json.specs.Find.{get}
use Rattle.sql_schema.specs.Declarations.{Declarations}
use Rattle.sql_tool_document.specs.Documents.{Document, Request, document, value_in}
use Rattle.sql_tool_document.specs.Policies.{NamedPolicy}
use Rattle.sql_tool_document.specs.Scalar.{◌>>=◌}
use Rattle.sql_tool_document.specs.Sessions.{Call, call_in, opening}
use Rattle.sql_tool_document.specs.Trees.{template_tree}
use Rattle.sql_tool_build.specs.Output.{Line, StatementRequest, statement_request}
use Rattle.sql_tool_guard.specs.Output.{IsGuarded}
use Rattle.sql_tool_guard.specs.Tenants.{Tenant, by_policies, policies_named}
use Rattle.sql_tool_ids.specs.Memory.{AreLinesAfter, no_memory}
use Rattle.sql_tool_ids.specs.inside.Remembering.{AreWrittenAfter}
use Rattle.sql_tool_ids.specs.declared.seen.TheConstants.{MAX_SHAPES}
use Rattle.sql_tool_run.specs.Limits.{greatest_input}
use Rattle.sql_tool_run.specs.Run.{status_from, status_of}
use Rattle.sql_tool_run.specs.declared.command.Command.TheVariants.{Build}
use Rattle.sql_tool_run.specs.declared.status.Status.{Status}
use Rattle.sql_tool_run.specs.declared.status.Status.TheVariants.{TooLarge}
use Rattle.sql_tool_session.specs.declared.session.Session.{Session}

-- ---- calls

-- a document, and the tenant of its requests; none in a session without policies
pub record Asking : Type 0 where
  pub document : Document
  pub tenant : Option Tenant

abbrev pub for_nobody : Document → Asking
for_nobody d = record { document = d; tenant = None }

-- the tenant by its policies, their names looked up in the schema; none where the schema lacks one of them
abbrev pub tenant_in : Declarations → Option (List NamedPolicy) → Option (Option Tenant)
tenant_in schema None = Some None
tenant_in schema (Some qs) = option_map (λ ps. Some (by_policies ps)) (policies_named schema qs)

abbrev pub asking_in : Declarations → Call → Option Asking
asking_in schema c = option_map (λ t. record { document = c.document; tenant = t }) (tenant_in schema c.policies)

-- what is asked by the document that opens a session, which the bytes are
unfoldable pub opened_by : List ℕ → Option Asking
opened_by bytes = opening bytes >>= λ o. asking_in o.call.document.schema o.call

-- the policies that the bytes open a session with, with their places
abbrev pub template_by : List ℕ → Option (Option Data)
template_by bytes = opening bytes >>= λ o. o.template

-- those of a session
abbrev pub template_of : Session → Option (Option Data)
template_of s = option_map template_tree s.terms.template

-- how many shapes have an id before all are forgotten, where so many are asked for: for 0 the usual number
abbrev pub shapes_for : ℕ → ℕ
shapes_for n = if nat_eq n 0 then MAX_SHAPES else n

-- how many it is in a session
abbrev pub capacity_of : Session → ℕ
capacity_of s = s.terms.capacity.shapes

-- The session has the policies of the bytes, and this capacity.
abbrev pub IsOpenedBy : Session → ℕ → List ℕ → Type 0
IsOpenedBy s most bytes = (template_of s ≡ template_by bytes) × (capacity_of s ≡ most)

-- what is asked by the document that the bytes are, in this session
unfoldable pub asked_by : Session → List ℕ → Option Asking
asked_by s bytes = call_in (template_of s) bytes >>= asking_in s.cache.schema

-- the status with which a session is opened by these bytes, unless memory runs out
abbrev pub opening_status : List ℕ → Status
opening_status bytes = if nat_lt greatest_input (length bytes) then TooLarge else status_from (opened_by bytes)

-- ---- with policies and without

-- the member of the bytes that has policies
abbrev pub policies_at : List ℕ → Option Data
policies_at bytes = value_in bytes >>= get (codes "tenant")

-- Bytes without policies ask for what their document does, for nobody in particular, and open a session with the status of `build`.
abbrev pub IsPlainOpening : List ℕ → Type 0
IsPlainOpening bytes =
    policies_at bytes ≡ None
    → (opened_by bytes ≡ option_map for_nobody (document bytes)) × (template_by bytes ≡ None)
    × (opening_status bytes ≡ status_of (Some Build) bytes)

-- Bytes with policies ask for a tenant.
abbrev pub IsGuardedOpening : List ℕ → Type 0
IsGuardedOpening bytes =
    (p : Data) (a : Asking) → policies_at bytes ≡ Some p → opened_by bytes ≡ Some a
    → (template_by bytes ≡ Some (Some p)) × (a.tenant ≡ None → ⊥)

-- In a session without policies bytes ask for what their document does.
abbrev pub IsPlainCall : Session → List ℕ → Type 0
IsPlainCall s bytes = s.terms.template ≡ None → asked_by s bytes ≡ option_map for_nobody (document bytes)

-- In a session with policies bytes ask for a tenant.
abbrev pub IsGuardedCall : Session → List ℕ → Type 0
IsGuardedCall s bytes = (a : Asking) → (s.terms.template ≡ None → ⊥) → asked_by s bytes ≡ Some a → a.tenant ≡ None → ⊥

-- ---- answers

-- a request, and the tenant that it was answered for
pub record Asked : Type 0 where
  pub tenant : Option Tenant
  pub request : Request

abbrev pub asked_for : Option Tenant → List Request → List Asked
asked_for tenant qs = map (λ q. record { tenant = tenant; request = q }) qs

-- what is made of a request over the schema: for nobody in particular as `build` makes it, for a tenant as `tenant` does
abbrev pub IsMade : Declarations → Option Tenant → Request → StatementRequest → Type 0
IsMade schema None q r = r ≡ statement_request schema q
IsMade schema (Some t) q r = IsGuarded schema t q r

-- what is made of each request, in order
abbrev pub AreMade : Declarations → List Asked → List StatementRequest → Type 0
AreMade schema [] [] = Unit {0}
AreMade schema [] (r ∷ rs) = ⊥
AreMade schema (a ∷ more) [] = ⊥
AreMade schema (a ∷ more) (r ∷ rs) = IsMade schema a.tenant a.request r × AreMade schema more rs

-- The lines of what is made of these requests. An id is the number of a request over all of them, of the first that has the shape since all shapes
-- were forgotten, which they are once so many have an id.
abbrev pub AreLinesOf : ℕ → Declarations → List Asked → List Line → Type 0
AreLinesOf most schema asked ls =
    (rs : List StatementRequest) × AreMade schema asked rs × AreLinesAfter most schema no_memory rs ls

-- Over the schema the session has answered these requests since it was opened or began anew, by this text, and knows how many they are. The text
-- is their lines (`answers_are_outputs`); `AreWrittenAfter` also says that the session finds their ids.
pub record HasAnswered (declared : Declarations) (asked : List Asked) (text : List ℕ) (s : Session) : Type 0 where
  pub schema : s.cache.schema ≡ declared
  pub count : s.count ≡ length asked
  pub written : (rs : List StatementRequest) × AreMade declared asked rs
      × AreWrittenAfter (capacity_of s) declared s.seen rs text
