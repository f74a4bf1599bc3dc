use Rattle.std.proofs.Common.{◌≡◌, ◌∙◌, ◌+◌, ◌++◌, ◌∷◌, [], take, drop, ap, subst, sym}
use Rattle.std.specs.Prelude.{string_bytes}
use Rattle.std.proofs.lemmas.List.{take_all, take_more, take-append-drop}
use Rattle.std.proofs.lemmas.Result.{err_from_is_err_and}
use Rattle.sql_tool_audit.specs.Line.{IsAuditLine}
use Rattle.sql_tool_audit.specs.Output.{IsAuditOutput}
use Rattle.sql_tool_session.proofs.Auditing.{audited_more, audited_none}
use Rattle.sql_tool_session.proofs.audit.add_lines.Goals as goal

pub loop-text-init : goal.loop-text-init
loop-text-init c =
    let schema = c.args.schema.now in
    subst (λ w. IsAuditOutput c.args.dialect (record { schema = schema; texts = [] }) w) (sym c.requires)
    (audited_none c.args.dialect schema)

pub loop-text-preserved : goal.loop-text-preserved
loop-text-preserved c =
    let l = c.loop-text in
    let all = c.args.texts.now in
    let i = l.text-index in
    let item = c.text-item.result in
    let line = string_bytes c.in_ok-line.line in
    let d = c.args.dialect in
    let schema = c.args.schema.now in
    let next : take i all ++ item ∷ [] ≡ take (i + 1) all =
    ap (λ x. take i all ++ x ∷ []) c.text-item.is ∙ sym (take_more all i item c.loop-text-test.true) in
    let told = subst (λ u. IsAuditLine d schema.tables u line) c.as_str.ensures c.in_ok-line.ensures in
    let one = audited_more d schema (take i all) item l.lines.items line l.invariant told in
    let added = ap (λ u. l.lines.items ++ u) c.as_bytes.ensures.value in
    subst (λ w. IsAuditOutput d (record { schema = schema; texts = take (i + 1) all }) w)
    (sym added ∙ sym c.in_ok-extend_from_slice.ensures.items)
    (subst (λ xs. IsAuditOutput d (record { schema = schema; texts = xs }) (l.lines.items ++ line)) next one)

pub returns-in_err-line-clause-some : goal.returns-in_err-line-clause-some
returns-in_err-line-clause-some c =
    let l = c.loop-text in
    let all = c.args.texts.now in
    let i = l.text-index in
    let p = err_from_is_err_and c.from_residual.result c.from_residual.ensures.1 in
    rw p.1 (take i all, drop i all, sym (take-append-drop i all), l.invariant)

pub returns-in_err-extend_from_slice-clause-some : goal.returns-in_err-extend_from_slice-clause-some
returns-in_err-extend_from_slice-clause-some c =
    let l = c.loop-text in
    let all = c.args.texts.now in
    let i = l.text-index in
    let d = c.args.dialect in
    let schema = c.args.schema.now in
    let p =
    err_from_is_err_and c.from_residual-in_err-extend_from_slice.result
    c.from_residual-in_err-extend_from_slice.ensures.1 in
    rw p.1 (
      take i all,
      drop i all,
      sym (take-append-drop i all),
      subst (λ w. IsAuditOutput d (record { schema = schema; texts = take i all }) w)
          (sym c.in_err-extend_from_slice.ensures.items) l.invariant,
    )

pub returns-clause-all : goal.returns-clause-all
returns-clause-all c =
    let l = c.loop-text in
    subst (λ xs. IsAuditOutput c.args.dialect (record { schema = c.args.schema.now; texts = xs }) l.lines.items)
    (take_all l.text-index c.args.texts.now c.loop-text-test.false) l.invariant
