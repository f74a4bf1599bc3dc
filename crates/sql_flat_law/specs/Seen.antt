-- A function over each tree or node on a stack.
use Rattle.std.specs.Prelude.{ℕ, List, map}

abbrev pub seen : {A B : Type 0} → (A → B) → List (ℕ × A) → List (ℕ × B)
seen f σ = map (λ p. (p.0, f p.1)) σ
