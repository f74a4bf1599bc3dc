-- Parts one after the other, with `, ` between them.
use Rattle.std.specs.Prelude.{Bool, true, false, List, [], ◌∷◌, ◌++◌, codes}
use Rattle.sql_pass.specs.Pieces.{Piece, one, Text}

-- a part, after a comma unless it is the first
abbrev pub next_of : Bool → List Piece → List Piece
next_of true x = x
next_of false x = one (Text (codes ", ")) ++ x

abbrev pub commas : Bool → List (List Piece) → List Piece
commas first [] = []
commas first (x ∷ xs) = next_of first x ++ commas false xs
