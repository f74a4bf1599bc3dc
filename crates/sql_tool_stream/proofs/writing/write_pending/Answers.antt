use Rattle.std.proofs.Common.{◌++◌, sym, ap, ◌∙◌, append_assoc, append-nil}
use Rattle.std.proofs.lemmas.Result.{err_from_is_err_and, on_err_weaker, on_ok_weaker}
use Rattle.std.proofs.KnownBytes.{Appends-trans}
use Rattle.sql_tool_stream.proofs.writing.write_pending.Goals as goal

pub returns-in_err-write_all-clause-prefix : goal.returns-in_err-write_all-clause-prefix
returns-in_err-write_all-clause-prefix g c =
    let text = c.args.text.now in
    let (done, rest, split, held) = c.in_err-write_all.ensures.prefix in
    let p = err_from_is_err_and c.from_residual.result c.from_residual.ensures.1 in
    rw p.1 (
      done,
      rest ++ text,
      ap (λ u. u ++ text) (sym c.if-is_added.ensures ∙ sym c.as_slice.ensures.value ∙ split) ∙ append_assoc done rest text,
      held,
    )

pub returns-clause-all : goal.returns-clause-all
returns-clause-all g c =
    let text = c.args.text.now in
    let first = c.as_slice.result.now in
    on_ok_weaker c.write_all-2.result
    (λ more. (
      first ++ text,
      ap (λ u. u ++ text) (sym c.if-is_added.ensures ∙ sym c.as_slice.ensures.value) ∙ sym (append-nil (first ++ text))
          ∙ ap (λ u. (first ++ text) ++ u) (sym c.clear.ensures.items),
      Appends-trans _ _ _ _ _ c.in_ok-write_all.ensures.all more,
    ))
    c.write_all-2.ensures.all

pub returns-clause-prefix : goal.returns-clause-prefix
returns-clause-prefix g c =
    let text = c.args.text.now in
    let first = c.as_slice.result.now in
    on_err_weaker c.write_all-2.result
    (λ failed.
    let (done, rest, split, more) = failed in (
      first ++ done,
      rest,
      ap (λ u. u ++ text) (sym c.if-is_added.ensures ∙ sym c.as_slice.ensures.value) ∙ ap (λ u. first ++ u) split
          ∙ sym (append_assoc first done rest),
      Appends-trans _ _ _ _ _ c.in_ok-write_all.ensures.all more,
    ))
    c.write_all-2.ensures.prefix
