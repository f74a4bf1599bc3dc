-- A walk that pushes a list of pieces, up to the first refusal.
use Rattle.std.specs.Prelude.{◌≡◌, true, false, List, [], ◌∷◌, ◌⊎◌, Result, Ok, Err}
use Rattle.sql_dialect.specs.declared.backend.Dialect.{Dialect}
use Rattle.sql_pass.specs.Pieces.{Piece}
use Rattle.sql_pass.specs.Held.{Held, after, refuses, is_refused}
use Rattle.sql_pass.specs.declared.pass.PassError.{PassError}

-- some piece is refused with e, and the pass then holds what those before it give
unfoldable pub Stops : {D : Type 0} → Dialect → Held D → List Piece → PassError → Held D → Type 0
Stops d h [] e g = ⊥
Stops d h (p ∷ ps) e g = ((refuses d h p e ≡ true) × (g ≡ h)) ⊎ Stops d (after d h (p ∷ [])) ps e g

-- none of the pieces is one that is refused whatever memory there is
unfoldable pub Passes : {D : Type 0} → Dialect → Held D → List Piece → Type 0
Passes d h [] = Unit {0}
Passes d h (p ∷ ps) = (is_refused d h p ≡ false) × Passes d (after d h (p ∷ [])) ps

unfoldable pub Walked : {D : Type 0} → Dialect → Held D → List Piece → Result (Unit {0}) PassError → Held D → Type 0
Walked d h ps (Ok u) g = (g ≡ after d h ps) × Passes d h ps
Walked d h ps (Err e) g = Stops d h ps e g

-- from h to g the pieces ps were pushed, all of them or up to a refusal; the backend stays either way
pub data Walks {D : Type 0} (d : Dialect) (h : Held D) (ps : List Piece) (r : Result (Unit {0}) PassError) (g : Held D) : Type 0 where
  walks : Walked d h ps r g → Walks d h ps r g

-- what it says
abbrev pub walked : {D : Type 0} {d : Dialect} {h : Held D} {ps : List Piece} {r : Result (Unit {0}) PassError} {g : Held D}
    → Walks d h ps r g → Walked d h ps r g
walked (walks w) = w
