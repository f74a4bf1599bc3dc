-- The number that a text is, by whether it begins with a minus sign.
use Rattle.std.proofs.Common.{◌≡◌, ℕ, ◌==◌, true, false, List, drop, get_or}
use Rattle.fast_float.specs.Text.{scan}
use Rattle.sql_tool_document.specs.inside.Seen.{num_from, num_of}

pub num_of-minus : (s : List ℕ) → (get_or s 0 0 == 45) ≡ true → num_of s ≡ num_from true (scan (drop 1 s))
unfolding num_of
num_of-minus s e = rw e

pub num_of-plain : (s : List ℕ) → (get_or s 0 0 == 45) ≡ false → num_of s ≡ num_from false (scan s)
unfolding num_of
num_of-plain s e = rw e
