use Rattle.std.proofs.Common.{◌≡◌, ◌∙◌, ◌+◌, ◌++◌, ◌∷◌, List, [], map, take, option_map, ap, refl, subst, sym, append-nil, append_assoc}
use Rattle.std.proofs.lemmas.List.{map-append, take_all, take_more}
use Rattle.std.specs.Prelude.{string_bytes}
use Rattle.sql_tool_document.specs.Trees.{request_tree}
use Rattle.sql_tool_guard.specs.Trees.{tenant_tree}
use Rattle.sql_tool_session.proofs.Answered.{asked_more}
use Rattle.sql_tool_session.specs.Session.{Asked, HasAnswered, asked_for}
use Rattle.sql_tool_session.proofs.session.Session.lines.Goals as goal

pub loop-request-init : goal.loop-request-init
loop-request-init c = (
  refl,
  λ schema asked text has.
      let empty : text ++ c.new-lines.result.items ≡ text = ap (λ v. text ++ v) c.new-lines.ensures.items ∙ append-nil text in
      subst (λ (x : List Asked). HasAnswered schema x (text ++ c.new-lines.result.items) c.args.self.now) (sym (append-nil asked))
      (subst (λ u. HasAnswered schema asked u c.args.self.now) (sym empty) has),
)

pub loop-request-preserved : goal.loop-request-preserved
loop-request-preserved c =
    let l = c.loop-request in
    let all = c.args.requests.now in
    let i = l.request-index in
    let item = c.request-item.result in
    let tenant = option_map tenant_tree c.args.tenant.now in
    let some = map request_tree (take i all) in
    let line = string_bytes c.in_ok-line.line in
    let next : some ++ request_tree item ∷ [] ≡ map request_tree (take (i + 1) all) =
    sym (map-append request_tree (take i all) (item ∷ []))
    ∙ ap (λ x. map request_tree (take i all ++ x ∷ [])) c.request-item.is
    ∙ ap (map request_tree) (sym (take_more all i item c.loop-request-test.true)) in
    let added = ap (λ u. l.lines.items ++ u) c.as_bytes.ensures.value in (
      c.line.ensures.terms ∙ l.invariant.0,
      λ schema asked text has.
          let one = c.in_ok-line.ensures.line schema (asked ++ asked_for tenant some) (text ++ l.lines.items) (l.invariant.1 schema asked text has) in
          let longer =
          subst (λ (x : List Asked). HasAnswered schema x ((text ++ l.lines.items) ++ line) c.line.new.self)
          (asked_more tenant asked some (request_tree item ∷ []) ∙ ap (λ rs. asked ++ asked_for tenant rs) next) one in
          subst (λ u. HasAnswered schema (asked ++ asked_for tenant (map request_tree (take (i + 1) all))) u c.line.new.self)
          (append_assoc text l.lines.items line ∙ ap (λ u. text ++ u) (sym added ∙ sym c.in_ok-extend_from_slice.ensures.items))
          longer,
    )

pub returns-clause-lines : goal.returns-clause-lines
returns-clause-lines c = λ schema asked text has.
    let l = c.loop-request in
    subst
    (λ rs. HasAnswered schema (asked ++ asked_for (option_map tenant_tree c.args.tenant.now) (map request_tree rs))
    (text ++ l.lines.items) l.self)
    (take_all l.request-index c.args.requests.now c.loop-request-test.false) (l.invariant.1 schema asked text has)
