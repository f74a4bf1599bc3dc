-- Tenants as plain trees.
use Rattle.std.specs.Prelude.{map}
use Rattle.sql_node.specs.View.{expr_tree}
use Rattle.sql_guard.specs.Trees.{policy_tree}
use Rattle.sql_tool_document.specs.Trees.{document_tree}
use Rattle.sql_tool_guard.specs.Tenants as t
use Rattle.sql_tool_guard.specs.declared.tenant.Tenant.{Tenant}
use Rattle.sql_tool_guard.specs.declared.tenant.Tenant.TheVariants.{Guard, Policies}
use Rattle.sql_tool_guard.specs.declared.tenant.TenantDocument.{TenantDocument}

abbrev pub tenant_tree : Tenant → t.Tenant
tenant_tree (Guard u p) = t.of_table u (expr_tree p)
tenant_tree (Policies qs) = t.by_policies (map policy_tree qs)

abbrev pub tenant_document_tree : TenantDocument → t.TenantDocument
tenant_document_tree d = record { document = document_tree d.document; tenant = tenant_tree d.tenant }
