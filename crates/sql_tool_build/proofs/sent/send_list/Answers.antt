use Rattle.std.proofs.Common.{◌≡◌, ◌∙◌, ◌+◌, ◌++◌, ◌∷◌, [], Some, map, take, ap, subst, sym}
use Rattle.std.proofs.lemmas.List.{map-append, take_all, take_more}
use Rattle.std.proofs.lemmas.Result.{on_ok_weaker}
use Rattle.serde.specs.Event.{Logs, seq_begins}
use Rattle.sql_tool_build.proofs.Sending.{counted, each-ended, each-more}
use Rattle.sql_tool_build.specs.inside.Sending.{SendsEach}
use Rattle.sql_tool_build.proofs.sent.send_list.Goals as goal

pub loop-item-preserved : goal.loop-item-preserved
loop-item-preserved g c =
    let f = g.T.Sent.sent in
    let written = g.S.Serializer.written in
    let all = c.args.items.now in
    let i = c.loop-item.item-index in
    let item = c.item-item.result in
    let next : map f (take i all) ++ f item ∷ [] ≡ map f (take (i + 1) all) =
    sym (map-append f (take i all) (item ∷ []))
    ∙ ap (λ x. map f (take i all ++ x ∷ [])) c.item-item.is ∙ ap (map f) (sym (take_more all i item c.loop-item-test.true)) in
    subst (λ ds. SendsEach ds (written c.begin_seq.new.self) (written c.send.new.out)) next
    (each-more (map f (take i all)) (f item) (written c.begin_seq.new.self) (written c.loop-item.out)
    (written c.send.new.out) c.loop-item.invariant c.in_ok-send.ensures)

pub returns : goal.returns
returns g c =
    let f = g.T.Sent.sent in
    let written = g.S.Serializer.written in
    let all = c.args.items.now in
    let whole =
    subst (λ xs. SendsEach (map f xs) (written c.begin_seq.new.self) (written c.loop-item.out))
    (take_all c.loop-item.item-index all c.loop-item-test.false) c.loop-item.invariant in
    on_ok_weaker c.end_seq.result (λ ended. (
      written c.begin_seq.new.self,
      subst (λ n. Logs (written c.args.out.now) (written c.begin_seq.new.self) (seq_begins (Some n))) (counted f all)
          c.in_ok-begin_seq.ensures,
      each-ended (map f all) (written c.begin_seq.new.self) (written c.loop-item.out) (written c.end_seq.new.self) whole
          ended,
    )) c.end_seq.ensures
