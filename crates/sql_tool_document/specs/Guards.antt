-- A document with a guard: which rows of a table the tenant of its requests owns.
use Rattle.std.specs.Prelude.{ℕ, List, codes, Option, Some}
use Rattle.serde_json.specs.Data.{Data}
use Rattle.serde_json.specs.Find.{get}
use Rattle.sql_build_syntax.specs.Tree.{Expr}
use Rattle.sql_tool_document.specs.Documents.{Document, document_of, value_in}
use Rattle.sql_tool_document.specs.Members.{text_at}
use Rattle.sql_tool_document.specs.Queries.{expr_of, nesting_bound}
use Rattle.sql_tool_document.specs.Scalar.{◌>>=◌}

-- a condition on a table's rows
pub record Guard : Type 0 where
  pub table : List ℕ
  pub predicate : Expr

pub record Guarded : Type 0 where
  pub document : Document
  pub guard : Guard

-- GUARD: `{"table":name,"predicate":EXPR}`
unfoldable pub guard_of : Data → Option Guard
guard_of d = do
  table ← text_at (codes "table") d
  predicate ← get (codes "predicate") d >>= expr_of nesting_bound
  Some (record { table = table; predicate = predicate })

-- GUARDED: a DOCUMENT with one member more, `"guard":GUARD`
unfoldable pub guarded_of : Data → Option Guarded
guarded_of d = do
  guard ← get (codes "guard") d >>= guard_of
  document ← document_of d
  Some (record { document = document; guard = guard })

-- the guarded document that the bytes are
unfoldable pub guarded : List ℕ → Option Guarded
guarded bytes = value_in bytes >>= guarded_of
