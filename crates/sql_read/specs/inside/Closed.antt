-- Whether tokens close each bracket, where so many are open before them, and have no word that the grammar lacks.
use Rattle.std.specs.Prelude.{ℕ, zero, suc, List, [], ◌∷◌, Bool, true, false, Option, Some, None}
use Rattle.sql_grammar.specs.Token.{Token, Quoted, Word, Unknown, Number, Mark, Sign, Open, Close, Comma, Dot, Star, Minus}

abbrev pub closed : List Token → ℕ → Bool
closed [] zero = true
closed [] (suc n) = false
closed (Open ∷ ts) n = closed ts (suc n)
closed (Close ∷ ts) zero = false
closed (Close ∷ ts) (suc n) = closed ts n
closed (Unknown w ∷ ts) n = false
closed (Quoted a ∷ ts) n = closed ts n
closed (Word k ∷ ts) n = closed ts n
closed (Number ds ∷ ts) n = closed ts n
closed (Mark m ∷ ts) n = closed ts n
closed (Sign by ∷ ts) n = closed ts n
closed (Comma ∷ ts) n = closed ts n
closed (Dot ∷ ts) n = closed ts n
closed (Star ∷ ts) n = closed ts n
closed (Minus ∷ ts) n = closed ts n

-- the same where so many are open, or a token before was no token of a tree
abbrev pub closed_from : Option ℕ → List Token → Bool
closed_from None ts = false
closed_from (Some n) ts = closed ts n
