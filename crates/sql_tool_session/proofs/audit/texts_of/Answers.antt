use Rattle.std.proofs.Common.{◌≡◌, ◌<◌, inr, length, subst, sym, arith}
use Rattle.sql_tool_document.specs.Trees.{texts_tree}
use Rattle.sql_tool_run.specs.declared.status.Status.TheVariants.{BadDocument, Done}
use Rattle.sql_tool_session.proofs.Auditing.{declares_some, is_bad, is_done, is_over}
use Rattle.sql_tool_session.proofs.audit.texts_of.Goals as goal

pub returns-then-tables-gt0-clause-refused : goal.returns-then-tables-gt0-clause-refused
returns-then-tables-gt0-clause-refused c =
    let schema = c.args.schema.now in
    let bytes = c.args.bytes.now in
    let x = texts_tree c.in-Ok.texts in
    let some : 0 < length c.tables.result.now = omega (arith, c.if-tables-gt0.true) in
    let none =
    declares_some schema bytes x c.in-Ok.ensures (subst (λ ts. 0 < length ts) c.tables.ensures.tables some) in
    inr (
      sym (is_bad schema bytes c.if-bytes-gt-LIMIT.false none),
      λ done. let no : BadDocument ≡ Done = done in cc,
    )

pub returns-clause-read : goal.returns-clause-read
returns-clause-read c =
    let none : length c.tables.result.now ≡ 0 = omega (arith, c.if-tables-gt0.false) in
    is_over c.args.schema.now c.args.bytes.now (texts_tree c.in-Ok.texts) c.in-Ok.ensures
    (subst (λ ts. length ts ≡ 0) c.tables.ensures.tables none)

pub returns-clause-done : goal.returns-clause-done
returns-clause-done c =
    let schema = c.args.schema.now in
    let bytes = c.args.bytes.now in
    let x = texts_tree c.in-Ok.texts in
    let none : length c.tables.result.now ≡ 0 = omega (arith, c.if-tables-gt0.false) in
    is_done schema bytes (record { schema = schema; texts = x.texts }) c.if-bytes-gt-LIMIT.false
    (is_over schema bytes x c.in-Ok.ensures (subst (λ ts. length ts ≡ 0) c.tables.ensures.tables none))
