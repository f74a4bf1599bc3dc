-- The meaning of a part of a statement: a list of pieces, and functions of that list (diesel, `AstPass`).
use Rattle.std.specs.Prelude.{ℕ, ◌+◌, Bool, true, false, ◌&&◌, List, [], ◌∷◌, ◌++◌}
use Rattle.sql_dialect.specs.declared.backend.Dialect.{Dialect}
use Rattle.sql_dialect.specs.Written.{quoted, placeholder, raised}
use Rattle.sql_pass.specs.declared.value.Bound.{Bound}

-- SQL as it is, a name, a value with its placeholder, a value whose placeholder stands in some text already, and
-- that the text depends on a value
pub data Piece : Type 0 where
  Text : List ℕ → Piece
  Ident : List ℕ → Piece
  Bind : Bound → Piece
  ValueOnly : Bound → Piece
  Unsafe : Piece

-- that piece alone; it does not unfold, so that a sequence stays a chain of `++` in a proof
unfoldable pub one : Piece → List Piece
one p = p ∷ []

-- what one piece writes where n values are numbered
abbrev pub text_at : Dialect → ℕ → Piece → List ℕ
text_at d n (Text t) = t
text_at d n (Ident t) = quoted d t
text_at d n (Bind b) = placeholder d (n + 1)
text_at d n (ValueOnly b) = []
text_at d n Unsafe = []

-- how many are numbered after it
abbrev pub count_at : Dialect → ℕ → Piece → ℕ
count_at d n (Text t) = n
count_at d n (Ident t) = n
count_at d n (Bind b) = raised d n
count_at d n (ValueOnly b) = raised d n
count_at d n Unsafe = n

abbrev pub value_at : Piece → List Bound
value_at (Text t) = []
value_at (Ident t) = []
value_at (Bind b) = b ∷ []
value_at (ValueOnly b) = b ∷ []
value_at Unsafe = []

abbrev pub safe_at : Piece → Bool
safe_at (Text t) = true
safe_at (Ident t) = true
safe_at (Bind b) = true
safe_at (ValueOnly b) = true
safe_at Unsafe = false

abbrev pub noop_at : Piece → Bool
noop_at (Text t) = false
noop_at (Ident t) = false
noop_at (Bind b) = false
noop_at (ValueOnly b) = true
noop_at Unsafe = true

-- the text, from where n values are numbered
abbrev pub text_of : Dialect → ℕ → List Piece → List ℕ
text_of d n [] = []
text_of d n (p ∷ ps) = text_at d n p ++ text_of d (count_at d n p) ps

abbrev pub count_of : Dialect → ℕ → List Piece → ℕ
count_of d n [] = n
count_of d n (p ∷ ps) = count_of d (count_at d n p) ps

-- the values, in order
abbrev pub values_of : List Piece → List Bound
values_of [] = []
values_of (p ∷ ps) = value_at p ++ values_of ps

-- no piece is unsafe
abbrev pub is_safe : List Piece → Bool
is_safe [] = true
is_safe (p ∷ ps) = safe_at p && is_safe ps

-- nothing is written
abbrev pub is_noop : List Piece → Bool
is_noop [] = true
is_noop (p ∷ ps) = noop_at p && is_noop ps
