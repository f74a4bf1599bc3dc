use Rattle.std.proofs.Common.{◌≡◌, ◌∙◌, ◌-◌, ℕ, List, [], ◌∷◌, ◌++◌, length, take, drop, refl, sym, ap, append_assoc, append-nil, take-append-drop}
use Rattle.std.proofs.lemmas.List.{take_rest}
use Rattle.sql_tool_lines.specs.Turns.{Wrote}
use Rattle.sql_tool_lines.proofs.Turns.{Adds-trans, writes-append}
use Rattle.sql_tool_lines.proofs.writing.write_all.Goals as goal

moves_front : (all done rest : List ℕ) (n : ℕ) → all ≡ done ++ rest
    → all ≡ (done ++ take n rest) ++ take (length rest - n) (drop n rest)
moves_front all done rest n e =
    e ∙ ap (λ l. done ++ l) (sym (take-append-drop n rest)) ∙ sym (append_assoc done (take n rest) (drop n rest))
    ∙ ap (λ l. (done ++ take n rest) ++ l) (sym (take_rest rest n))

pub loop-rest-preserved : goal.loop-rest-preserved
loop-rest-preserved g c =
    let (es, done, split, adds, writes, same, other) = c.loop-rest.invariant in
    let rest = c.loop-rest.rest.now in
    let n = c.in_ok-count.count in
    let piece = take n rest in (
      es ++ Wrote piece ∷ [],
      done ++ piece,
      moves_front _ done rest n split,
      Adds-trans _ _ _ es (Wrote piece ∷ []) adds c.in_ok-count.ensures.history,
      writes-append es (Wrote piece ∷ []) done piece writes ([], sym (append-nil piece), refl),
      c.in_ok-count.ensures.cause.kept ∙ same,
      c.in_ok-count.ensures.other ∙ other,
    )
