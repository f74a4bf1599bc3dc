use Rattle.std.proofs.Common.{◌≡◌, Some, length, option_map, refl, subst, arith}
use Rattle.std.proofs.lemmas.Result.{err_from_is_err_and}
use Rattle.sql_tool_document.specs.Trees.{call_tree}
use Rattle.sql_tool_guard.specs.Trees.{tenant_tree}
use Rattle.sql_tool_session.proofs.Asking.{IsLost, asked_is, asked_refused}
use Rattle.sql_tool_session.specs.Session.{tenant_in}
use Rattle.sql_tool_session.proofs.session.Session.asking.Goals as goal

pub returns-in_err-tenant-clause-refused : goal.returns-in_err-tenant-clause-refused
returns-in_err-tenant-clause-refused c =
    let p = err_from_is_err_and c.from_residual.result c.from_residual.ensures.1 in
    let k = call_tree c.in-Ok.call in
    let lost =
    subst (λ schema. IsLost schema k c.in_err-tenant.field-0.0) c.schema-2.ensures c.in_err-tenant.ensures.refused in
    rw (p.1, p.2)
    (asked_refused c.args.self.now c.args.bytes.now k c.in_err-tenant.field-0.0 c.in-Ok.ensures c.if-bytes-gt-LIMIT.false lost)

pub returns-clause-read : goal.returns-clause-read
returns-clause-read c =
    let k = call_tree c.in-Ok.call in
    let t = option_map tenant_tree c.in_ok-tenant.tenant in
    let none : length c.tables.result.now ≡ 0 = omega (arith, c.if-tables-gt0.false) in
    let found =
    subst (λ schema. tenant_in schema k.policies ≡ Some t) c.schema-2.ensures c.in_ok-tenant.ensures.found in (
      record { document = k.document; tenant = t },
      asked_is c.args.self.now c.args.bytes.now k t c.in-Ok.ensures found,
      subst (λ xs. length xs ≡ 0) c.tables.ensures.tables none,
      refl,
      refl,
    )
