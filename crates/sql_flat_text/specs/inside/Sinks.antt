-- What is written so far, and what pieces add to it.
use Rattle.std.specs.Prelude.{◌≡◌, ◌≤◌, ◌<◌, ℕ, Bool, true, ◌&&◌, List, [], ◌++◌, Result, Ok, Err, IsTrue}
use Rattle.sql_dialect.specs.Written.{numbers, MAX_BINDS}
use Rattle.sql_dialect.specs.declared.backend.Dialect.{Dialect}
use Rattle.sql_dialect.specs.declared.builder.BindError.{BindError}
use Rattle.sql_dialect.specs.declared.builder.BindError.TheVariants.{TooManyBinds}
use Rattle.sql_pass.specs.Pieces.{Piece, text_of, count_of, values_of, is_safe}
use Rattle.sql_pass.specs.declared.value.Bound.{Bound}
use Rattle.sql_flat_text.specs.declared.sink.Sink.{Sink}

-- the text with the count of its placeholders, the values, and whether no piece was unsafe
pub record Sunk : Type 0 where
  pub text : List ℕ
  pub count : ℕ
  pub values : List Bound
  pub safe : Bool

abbrev pub nothing : Sunk
nothing = record { text = []; count = 0; values = []; safe = true }

-- the same after the pieces
unfoldable pub poured : Dialect → Sunk → List Piece → Sunk
poured d s ps =
    record {
      text = s.text ++ text_of d s.count ps;
      count = count_of d s.count ps;
      values = s.values ++ values_of ps;
      safe = s.safe && is_safe ps;
    }

-- where n placeholders have numbers, the pieces need more than there are
unfoldable pub Overflows : Dialect → ℕ → List Piece → Type 0
Overflows d n ps = IsTrue (numbers d) × (MAX_BINDS < count_of d n ps)

-- there were numbers for all placeholders
unfoldable pub Fits : Dialect → ℕ → Type 0
Fits d n = IsTrue (numbers d) → n ≤ MAX_BINDS

unfoldable pub Poured : Dialect → Sunk → List Piece → Result (Unit {0}) BindError → Sunk → Type 0
Poured d s ps (Ok u) t = (t ≡ poured d s ps) × (Fits d s.count → Fits d t.count)
Poured d s ps (Err e) t = e ≡ TooManyBinds → Overflows d s.count ps

-- from s to t the pieces were written, or they were refused
pub data Pours (d : Dialect) (s : Sunk) (ps : List Piece) (r : Result (Unit {0}) BindError) (t : Sunk) : Type 0 where
  pours : Poured d s ps r t → Pours d s ps r t

abbrev pub poured_by : {d : Dialect} {s : Sunk} {ps : List Piece} {r : Result (Unit {0}) BindError} {t : Sunk}
    → Pours d s ps r t
    → Poured d s ps r t
poured_by (pours p) = p

-- with the text and the count of the pieces alone
unfoldable pub texted : Dialect → Sunk → List Piece → Sunk
texted d s ps = record s { text = s.text ++ text_of d s.count ps; count = count_of d s.count ps }

unfoldable pub Texted : Dialect → Sunk → List Piece → Result (Unit {0}) BindError → Sunk → Type 0
Texted d s ps (Ok u) t = (t ≡ texted d s ps) × (Fits d s.count → Fits d t.count)
Texted d s ps (Err e) t = e ≡ TooManyBinds → Overflows d s.count ps

-- from s to t the text of the pieces was written, or it was refused
pub data Writes (d : Dialect) (s : Sunk) (ps : List Piece) (r : Result (Unit {0}) BindError) (t : Sunk) : Type 0 where
  writes : Texted d s ps r t → Writes d s ps r t

abbrev pub texted_by : {d : Dialect} {s : Sunk} {ps : List Piece} {r : Result (Unit {0}) BindError} {t : Sunk}
    → Writes d s ps r t
    → Texted d s ps r t
texted_by (writes p) = p

-- with those values too
unfoldable pub keeping : Sunk → List Bound → Sunk
keeping s vs = record s { values = s.values ++ vs }

-- what a sink holds, where its builder's text and count are known
abbrev pub sunk : {D B : Type 0} → (B → List ℕ) → (B → ℕ) → Sink D B → Sunk
sunk written counted s =
    record {
      text = written s.builder;
      count = counted s.builder;
      values = s.binds.items;
      safe = s.safe;
    }
