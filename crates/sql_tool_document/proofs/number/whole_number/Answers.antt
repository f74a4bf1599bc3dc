use Rattle.std.proofs.Common.{◌≡◌, drop, true, sym, ap, ◌∙◌, arith, take_all, length-drop}
use Rattle.fast_float.specs.Text.{scan}
use Rattle.sql_tool_document.specs.inside.Seen.{num_from, num_of, if_whole}
use Rattle.sql_tool_document.proofs.Numbers.{num_of-minus, num_of-plain}
use Rattle.sql_tool_document.proofs.number.whole_number.Goals as goal

pub returns-then-has_minus : goal.returns-then-has_minus
returns-then-has_minus c =
    let s = c.as_bytes-bytes.result.now in
    let after : c.scan.result ≡ scan (drop 1 s) = c.scan.ensures.parts ∙ ap scan (take_all _ (drop 1 s) (omega (arith, length-drop 1 s))) in
    let is = sym (num_of-minus s (sym c.if-has_minus.ensures.value)) in
    c.negative.ensures ∙ ap if_whole (ap (num_from true) after ∙ is ∙ ap num_of c.as_bytes-bytes.ensures.value)

pub returns-else-has_minus : goal.returns-else-has_minus
returns-else-has_minus c =
    let s = c.as_bytes-bytes.result.now in
    c.natural.ensures ∙ ap if_whole (cc (num_of-plain s (sym c.if-has_minus.ensures.value)))
