-- Whether a text begins with another.
use Rattle.std.specs.Prelude.{ℕ, List, ◌≡◌, length, take}

abbrev pub Begins : List ℕ → List ℕ → Type 0
Begins front text = take (length front) text ≡ front
