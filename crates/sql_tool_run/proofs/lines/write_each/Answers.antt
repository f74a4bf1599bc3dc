use Rattle.std.proofs.Common.{rules, ◌≡◌, ◌++◌, ◌∷◌, ◌+◌, ◌<◌, ◌≤◌, [], List, ℕ, length, get_or, take, drop, sym, ap, ◌∙◌, refl, subst, append-nil, append_assoc, arith}
use Rattle.std.proofs.lemmas.List.{take_more, take-append-drop, length-take-le}
use Rattle.std.proofs.lemmas.Result.{err_from_is_err_and}
use Rattle.std.specs.Prelude.{string_bytes}
use Rattle.std.specs.Io.KnownBytes.{Appends}
use Rattle.std.proofs.KnownBytes.{Appends-trans}
use Rattle.sql_tool_run.proofs.lines.write_each.Goals as goal

-- a line after what is written and what is pending, of which more is written
lengthened : (text done pending line told more after : List ℕ) → text ≡ done ++ pending → told ≡ line
    → pending ++ told ≡ more ++ after → text ++ line ≡ (done ++ more) ++ after
lengthened text done pending line told more after split is cut =
    ap (λ u. u ++ line) split ∙ append_assoc done pending line
    ∙ ap (λ u. done ++ u) (ap (λ u. pending ++ u) (sym is) ∙ cut) ∙ sym (append_assoc done more after)

-- of what is pending more is written
moved : (text done pending told more after : List ℕ) → text ≡ done ++ pending → told ≡ pending → told ≡ more ++ after
    → text ≡ (done ++ more) ++ after
moved text done pending told more after split is cut =
    split ∙ ap (λ u. done ++ u) (sym is ∙ cut) ∙ sym (append_assoc done more after)

one_more : {T : Type 0} (all : List T) (item : T) (i : ℕ) → i < length all → item ≡ get_or all i item
    → take i all ++ item ∷ [] ≡ take (i + 1) all
one_more all item i within is = ap (λ x. take i all ++ x ∷ []) is ∙ sym (take_more all i item within)

pub returns-in_err-write_pending-in-Ok-clause-prefix :
    goal.returns-in_err-write_pending-in-Ok-clause-prefix
returns-in_err-write_pending-in-Ok-clause-prefix g c =
    let l = c.loop-index in
    let all = c.args.items.now in
    let i = l.index in
    let item = c.index-items-index.result in
    let line = string_bytes c.in-Ok.line in
    let (text, done, has, split, appended) = l.invariant.lines in
    let (more, after, cut, held) = c.in_err-write_pending-in-Ok.ensures.prefix in
    let within : i < length all = c.loop-index-test.true in
    let taken = length-take-le i all (omega (arith, within)) in
    let counted : i + 1 ≡ 1 + length (take i all) = omega (arith, taken) in
    let one = c.in-Ok.ensures c.args.lines.now (take i all) text counted has in
    let p = err_from_is_err_and c.from_residual.result c.from_residual.ensures.1 in
    rw p.1 (
      done ++ more,
      (
        c.line.new.self,
        take i all ++ item ∷ [],
        drop (i + 1) all,
        sym (take-append-drop (i + 1) all)
            ∙ ap (λ u. u ++ drop (i + 1) all) (sym (one_more all item i within c.index-items-index.is)),
        (
          text ++ line,
          one,
          (after, lengthened text done l.pending.items line c.as_bytes.result.now more after split c.as_bytes.ensures.value cut),
        ),
      ),
      Appends-trans _ _ _ _ _ appended held,
    )

pub returns-in_err-write_all-in-Err-clause-prefix :
    goal.returns-in_err-write_all-in-Err-clause-prefix
returns-in_err-write_all-in-Err-clause-prefix g c =
    let l = c.loop-index in
    let all = c.args.items.now in
    let i = l.index in
    let (text, done, has, split, appended) = l.invariant.lines in
    let (more, after, cut, held) = c.in_err-write_all-in-Err.ensures.prefix in
    let p =
    err_from_is_err_and c.from_residual-in_err-write_all-in-Err.result
    c.from_residual-in_err-write_all-in-Err.ensures.1 in
    rw p.1 (
      done ++ more,
      (
        l.lines,
        take i all,
        drop i all,
        sym (take-append-drop i all),
        (
          text,
          has,
          (after, moved text done l.pending.items c.as_slice.result.now more after split c.as_slice.ensures.value cut),
        ),
      ),
      Appends-trans _ _ _ _ _ appended held,
    )

pub returns-in-Err-clause-prefix : goal.returns-in-Err-clause-prefix
returns-in-Err-clause-prefix g c =
    let l = c.loop-index in
    let all = c.args.items.now in
    let i = l.index in
    let (text, done, has, split, appended) = l.invariant.lines in (
      text,
      (l.lines, take i all, drop i all, sym (take-append-drop i all), (text, has, ([], sym (append-nil _)))),
      subst (Appends _ _) (ap (λ u. done ++ u) c.as_slice.ensures.value ∙ sym split)
          (Appends-trans _ _ _ _ _ appended c.in_ok-write_all-in-Err.ensures.all),
    )

pub loop-index-preserved : goal.loop-index-preserved
loop-index-preserved g c =
    let l = c.loop-index in
    let all = c.args.items.now in
    let i = l.index in
    let item = c.index-items-index.result in
    let line = string_bytes c.in-Ok.line in
    let (text, done, has, split, appended) = l.invariant.lines in
    let (more, cut, held) = c.in_ok-write_pending-in-Ok.ensures.all in
    let within : i < length all = c.loop-index-test.true in
    let taken = length-take-le i all (omega (arith, within)) in
    let counted : i + 1 ≡ 1 + length (take i all) = omega (arith, taken) in
    let one = c.in-Ok.ensures c.args.lines.now (take i all) text counted has in
    record {
      lines = (
        text ++ line,
        done ++ more,
        subst (λ x. g.L.Lines.HasLines c.args.lines.now c.line.new.self x (text ++ line))
            (one_more all item i within c.index-items-index.is) one,
        lengthened text done l.pending.items line c.as_bytes.result.now more c.write_pending.new.pending.items split
            c.as_bytes.ensures.value cut,
        Appends-trans _ _ _ _ _ appended held,
      );
      faults = c.in_ok-write_pending-in-Ok.ensures.cause.kept ∙ l.invariant.faults;
    }

pub returns-in_err-write_all-clause-prefix : goal.returns-in_err-write_all-clause-prefix
returns-in_err-write_all-clause-prefix g c =
    let l = c.loop-index in
    let all = c.args.items.now in
    let i = l.index in
    let (text, done, has, split, appended) = l.invariant.lines in
    let (more, after, cut, held) = c.in_err-write_all.ensures.prefix in
    let p = err_from_is_err_and c.from_residual-in_err-write_all.result c.from_residual-in_err-write_all.ensures.1 in
    rw p.1 (
      done ++ more,
      (
        l.lines,
        take i all,
        drop i all,
        sym (take-append-drop i all),
        (
          text,
          has,
          (after, moved text done l.pending.items c.as_slice-2.result.now more after split c.as_slice-2.ensures.value cut),
        ),
      ),
      Appends-trans _ _ _ _ _ appended held,
    )
