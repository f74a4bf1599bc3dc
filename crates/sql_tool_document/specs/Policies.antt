-- A document with policies: which rows of each table the tenant of its requests sees.
use Rattle.std.specs.Prelude.{ℕ, List, codes, Option, Some}
use Rattle.serde_json.specs.Data.{Data}
use Rattle.serde_json.specs.Find.{get}
use Rattle.sql_build_syntax.specs.Tree.{Expr}
use Rattle.sql_tool_document.specs.Documents.{Document, document_of, value_in}
use Rattle.sql_tool_document.specs.Members.{each, if_any, items_at, text_at}
use Rattle.sql_tool_document.specs.Queries.{expr_of, nesting_bound}
use Rattle.sql_tool_document.specs.Scalar.{◌>>=◌}

-- a table, and the condition on its rows that lets them be seen; where there is none all are
pub record NamedPolicy : Type 0 where
  pub table : List ℕ
  pub predicate : Option Expr

pub record Policed : Type 0 where
  pub document : Document
  pub policies : List NamedPolicy

-- POLICY: `{"table":name,["predicate":EXPR]}`
unfoldable pub policy_of : Data → Option NamedPolicy
policy_of d = do
  table ← text_at (codes "table") d
  predicate ← if_any (expr_of nesting_bound) (get (codes "predicate") d)
  Some (record { table = table; predicate = predicate })

-- POLICED: a DOCUMENT with one member more, `"tenant":[POLICY..]`
unfoldable pub policed_of : Data → Option Policed
policed_of d = do
  items ← items_at (codes "tenant") d
  policies ← each policy_of items
  document ← document_of d
  Some (record { document = document; policies = policies })

-- the document with policies that the bytes are
unfoldable pub policed : List ℕ → Option Policed
policed bytes = value_in bytes >>= policed_of
