-- The documents of a session: the one that opens it, which may have policies with places for values, and those that follow.
use Rattle.std.specs.Prelude.{ℕ, List, codes, Option, Some, None, option_map}
use Rattle.serde_json.specs.Data.{Data}
use Rattle.serde_json.specs.Find.{get, as_array}
use Rattle.sql_tool_document.specs.Documents.{Document, document_of, value_in}
use Rattle.sql_tool_document.specs.Members.{each}
use Rattle.sql_tool_document.specs.Places.{filled}
use Rattle.sql_tool_document.specs.Policies.{NamedPolicy, Policed, policy_of}
use Rattle.sql_tool_document.specs.Scalar.{◌>>=◌}

-- a document and the policies that hold for it, none in a session without policies
pub record Call : Type 0 where
  pub document : Document
  pub policies : Option (List NamedPolicy)

-- the document that opens a session, and the policies with their places, as JSON
pub record Opening : Type 0 where
  pub call : Call
  pub template : Option (Option Data)

-- a DOCUMENT with one member more, `"values":{NAME:VALUE..}`, and the policies with these values at their places
unfoldable pub policed_by : Data → Data → Option Policed
policed_by template d = do
  items ← as_array (filled (get (codes "values") d) template)
  policies ← each policy_of items
  document ← document_of d
  Some (record { document = document; policies = policies })

-- the document, and by the session's template the policies that hold for it
abbrev pub call_of : Option Data → Data → Option Call
call_of None d = option_map (λ x. record { document = x; policies = None }) (document_of d)
call_of (Some t) d = option_map (λ x. record { document = x.document; policies = Some x.policies }) (policed_by t d)

-- OPENING: a DOCUMENT, or one with two members more, `"tenant":[POLICY..]`, which may have places, and their `"values":{NAME:VALUE..}`
unfoldable pub opening_of : Data → Option Opening
opening_of d =
    option_map (λ c. record { call = c; template = option_map Some (get (codes "tenant") d) })
    (call_of (get (codes "tenant") d) d)

-- the document that opens a session, which the bytes are
unfoldable pub opening : List ℕ → Option Opening
opening bytes = value_in bytes >>= opening_of

-- The document that the bytes are, of a session with this template, none in one without policies. The template is the JSON that its text
-- is.
unfoldable pub call_in : Option (Option Data) → List ℕ → Option Call
call_in None bytes = value_in bytes >>= call_of None
call_in (Some template) bytes = template >>= λ t. value_in bytes >>= call_of (Some t)
