-- The lines of bytes: byte 10 ends a line, and is no part of it.
use Rattle.std.specs.Prelude.{ℕ, List, [], ◌∷◌, ◌++◌, ◌==◌, if◌then◌else◌}

-- the lines that end in these bytes, where the first of them has begun with others
abbrev pub ended_after : List ℕ → List ℕ → List (List ℕ)
ended_after begun [] = []
ended_after begun (b ∷ bs) = if b == 10 then begun ∷ ended_after [] bs else ended_after (begun ++ b ∷ []) bs

-- what of them is a line that has not ended
abbrev pub unended_after : List ℕ → List ℕ → List ℕ
unended_after begun [] = begun
unended_after begun (b ∷ bs) = if b == 10 then unended_after [] bs else unended_after (begun ++ b ∷ []) bs

abbrev pub ended : List ℕ → List (List ℕ)
ended bs = ended_after [] bs

abbrev pub unended : List ℕ → List ℕ
unended bs = unended_after [] bs

-- the last line, which may lack its end, is one where it has a byte
abbrev pub last_line : List ℕ → List (List ℕ)
last_line [] = []
last_line (b ∷ bs) = (b ∷ bs) ∷ []

-- all lines of bytes that are all
abbrev pub all_lines : List ℕ → List (List ℕ)
all_lines bs = ended bs ++ last_line (unended bs)
