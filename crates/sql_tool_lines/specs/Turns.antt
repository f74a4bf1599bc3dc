-- What was read of a peer and written to it, in order.
use Rattle.std.specs.Prelude.{◌≡◌, ℕ, List, [], ◌∷◌, ◌++◌, take, Option, None, Some, Result, MatchResult}

-- a piece that was read, the empty one at the end alone, or one that was written
pub data Event : Type 0 where
  Read : List ℕ → Event
  Wrote : List ℕ → Event

-- all bytes that were read
abbrev pub read_in : List Event → List ℕ
read_in [] = []
read_in (Read piece ∷ es) = piece ++ read_in es
read_in (Wrote piece ∷ es) = read_in es

-- all bytes that were written
abbrev pub written_in : List Event → List ℕ
written_in [] = []
written_in (Read piece ∷ es) = written_in es
written_in (Wrote piece ∷ es) = piece ++ written_in es

-- a known history grows by these events
abbrev pub Adds : Option (List Event) → Option (List Event) → List Event → Type 0
Adds None new es = Unit {0}
Adds (Some xs) None es = ⊥
Adds (Some xs) (Some ys) es = ys ≡ xs ++ es

-- a read adds the piece that it gave, and one that fails adds nothing
abbrev pub Reads : {E : Type 0} → Option (List Event) → Option (List Event) → Result ℕ E → List ℕ → Type 0
Reads old new r buffer = MatchResult r (λ n. Adds old new (Read (take n buffer) ∷ [])) (λ _. Adds old new [])

-- and so a write
abbrev pub Writes : {E : Type 0} → Option (List Event) → Option (List Event) → Result ℕ E → List ℕ → Type 0
Writes old new r piece = MatchResult r (λ n. Adds old new (Wrote (take n piece) ∷ [])) (λ _. Adds old new [])

-- nothing is read, and this text is written
abbrev pub AreWrites : List Event → List ℕ → Type 0
AreWrites [] text = text ≡ []
AreWrites (Read piece ∷ es) text = ⊥
AreWrites (Wrote piece ∷ es) text = (rest : List ℕ) × (text ≡ piece ++ rest) × AreWrites es rest
