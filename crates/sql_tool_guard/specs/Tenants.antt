-- The tenant that a document's guard names, or its policies.
use Rattle.std.specs.Prelude.{ℕ, List, [], ◌∷◌, Option, Some, None, option_map}
use Rattle.sql_schema.specs.Columns.{table_named}
use Rattle.sql_schema.specs.Declarations.{Declarations}
use Rattle.sql_schema.specs.declared.declaration.TableDecl.{TableDecl}
use Rattle.sql_dialect.specs.declared.backend.Dialect.TheVariants.{Pg}
use Rattle.sql_node.specs.Tree.{Expr, MaybeExpr, no_expr, an_expr}
use Rattle.sql_build_syntax.specs.Tree as written
use Rattle.sql_guard_law.specs.Policies.{Policy}
use Rattle.sql_build.specs.Built.{expr_in}
use Rattle.sql_build.specs.Named.{◌>>=◌, both}
use Rattle.sql_tool_document.specs.Documents.{Document}
use Rattle.sql_tool_document.specs.Guards.{Guard, Guarded, guarded}
use Rattle.sql_tool_document.specs.Policies.{NamedPolicy, Policed, policed}

-- Which rows are the tenant's: those of one table for which a condition is true, or of each table those for which its conditions are.
pub data Tenant : Type 0 where
  of_table : TableDecl → Expr → Tenant
  by_policies : List Policy → Tenant

-- The guard's names looked up in the schema; none where the schema lacks one of them. The dialect tells only which box a call without
-- one in a subselect gets, and a predicate with a subselect is refused.
unfoldable pub tenant_of : Declarations → Guard → Option Tenant
tenant_of s g = both of_table (table_named s.tables g.table) (expr_in s Pg g.predicate)

pub record TenantDocument : Type 0 where
  pub document : Document
  pub tenant : Tenant

unfoldable pub tenant_in : Guarded → Option TenantDocument
tenant_in g =
    option_map (λ t. record { document = g.document; tenant = t }) (tenant_of g.document.schema g.guard)

-- the document with a tenant that the bytes are
unfoldable pub tenant_document : List ℕ → Option TenantDocument
tenant_document bytes = guarded bytes >>= tenant_in

-- ---- policies

abbrev pub predicate_named : Declarations → Option written.Expr → Option MaybeExpr
predicate_named s None = Some no_expr
predicate_named s (Some e) = option_map an_expr (expr_in s Pg e)

abbrev pub policy_with : TableDecl → MaybeExpr → Policy
policy_with t p = record { table = t; predicate = p }

-- its names looked up in the schema; none where the schema lacks one of them
unfoldable pub policy_named : Declarations → NamedPolicy → Option Policy
policy_named s q = both policy_with (table_named s.tables q.table) (predicate_named s q.predicate)

abbrev pub policies_named : Declarations → List NamedPolicy → Option (List Policy)
policies_named s [] = Some []
policies_named s (q ∷ qs) = both (λ first others. first ∷ others) (policy_named s q) (policies_named s qs)

unfoldable pub policed_in : Policed → Option TenantDocument
policed_in d =
    option_map (λ qs. record { document = d.document; tenant = by_policies qs })
    (policies_named d.document.schema d.policies)

-- the document with policies that the bytes are
unfoldable pub policed_document : List ℕ → Option TenantDocument
policed_document bytes = policed bytes >>= policed_in
