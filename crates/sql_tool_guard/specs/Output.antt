-- The output for requests of a tenant: a line for each, in order, of its statement restricted to the tenant's rows.
use Rattle.std.specs.Prelude.{◌≡◌, ◌≢◌, ◌⊎◌, ℕ, List, [], ◌∷◌, ◌++◌, codes, Option, None, Some}
use Rattle.sql_schema.specs.Declarations.{Declarations}
use Rattle.sql_dialect.specs.declared.backend.Dialect.{Dialect}
use Rattle.sql_node.specs.Tree.{Statement}
use Rattle.sql_build.specs.Built.{statement_in}
use Rattle.sql_tool_document.specs.Documents.{Document, Request}
use Rattle.sql_guard_law.specs.Restricted.{restricted}
use Rattle.sql_guard_law.specs.Policies.{guarded_all}
use Rattle.sql_guard.specs.Closed.{IsGuardRefusal, MayGuard}
use Rattle.sql_guard.specs.Refused.{IsRefusal, MayRestrict}
use Rattle.sql_guard.specs.declared.error.RestrictError.{RestrictError}
use Rattle.sql_guard.specs.declared.error.RestrictError.TheVariants.{BadPredicate, OutOfKind, NoRelation, LacksPolicy, NoMemory}
use Rattle.sql_tool_build.specs.Judgement.{Made, made, made_of, unmade}
use Rattle.sql_tool_build.specs.Output.{AreLines, Line, StatementRequest, lines_text}
use Rattle.sql_tool_guard.specs.Tenants.{Tenant, of_table, by_policies}

abbrev pub refusal_text : RestrictError → List ℕ
refusal_text BadPredicate = codes "BadPredicate"
refusal_text OutOfKind = codes "OutOfKind"
refusal_text NoRelation = codes "NoRelation"
refusal_text LacksPolicy = codes "LacksPolicy"
refusal_text NoMemory = codes "NoMemory"

-- the statement with the predicates of the tenant's one table, or of all its policies
abbrev pub limited_to : Tenant → Statement → Statement
limited_to (of_table t p) s = restricted t p s
limited_to (by_policies qs) s = guarded_all qs s

-- the refusal is the first that holds
abbrev pub IsFirstRefusal : RestrictError → Tenant → Statement → Type 0
IsFirstRefusal e (of_table t p) s = IsRefusal e t p s
IsFirstRefusal e (by_policies qs) s = IsGuardRefusal e qs s

-- no refusal holds
abbrev pub MayLimit : Tenant → Statement → Type 0
MayLimit (of_table t p) s = MayRestrict t p s
MayLimit (by_policies qs) s = MayGuard qs s

-- The result for a statement that may be there: without one UnknownName; else the first refusal that holds; else the restricted
-- statement, which is judged by the rules.
abbrev pub IsRestricted : Tenant → Option Statement → Made → Type 0
IsRestricted t None m = m ≡ made_of None
IsRestricted t (Some s) m =
    ((e : RestrictError) × (e ≢ NoMemory) × IsFirstRefusal e t s × (m ≡ unmade (refusal_text e)))
    ⊎ (MayLimit t s × (m ≡ made (limited_to t s)))

-- what is made of a request over the schema
pub record IsGuarded (schema : Declarations) (t : Tenant) (q : Request) (r : StatementRequest) : Type 0 where
  pub dialect : r.dialect ≡ q.dialect
  pub statement : IsRestricted t (statement_in schema q.dialect q.query) r.statement

-- what is made of each request, in order
abbrev pub AreGuarded : Declarations → Tenant → List Request → List StatementRequest → Type 0
AreGuarded schema t [] [] = Unit {0}
AreGuarded schema t [] (r ∷ rs) = ⊥
AreGuarded schema t (q ∷ qs) [] = ⊥
AreGuarded schema t (q ∷ qs) (r ∷ rs) = IsGuarded schema t q r × AreGuarded schema t qs rs

-- The text is a line for each request of the document, in order. Ids are those of the restricted statements, at the requests' places.
abbrev pub IsGuardedOutput : Document → Tenant → List ℕ → Type 0
IsGuardedOutput d t text =
    (rs : List StatementRequest) × AreGuarded d.schema t d.requests rs
    × ((ls : List Line) × AreLines d.schema [] rs ls × (text ≡ lines_text ls))

-- The text is a prefix of the lines of the document's first requests.
abbrev pub IsGuardedOutputPrefix : Document → Tenant → List ℕ → Type 0
IsGuardedOutputPrefix d t text =
    (qs later : List Request) × (d.requests ≡ qs ++ later)
    × ((rs : List StatementRequest) × AreGuarded d.schema t qs rs
    × ((ls : List Line) × AreLines d.schema [] rs ls × ((rest : List ℕ) × (lines_text ls ≡ text ++ rest))))
