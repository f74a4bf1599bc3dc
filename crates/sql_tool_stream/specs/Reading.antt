-- The change that reading makes to the bytes that a source has left, where they are known.
use Rattle.std.specs.Prelude.{◌≡◌, ◌<◌, ℕ, List, ◌++◌, length, take, Option, None, Some, Result, MatchResult, ⊤}
use Rattle.std.specs.Io.KnownBytes.{Consumes, IsAtEnd, Keeps}

-- the bytes are as they were, or are no longer known: some may be lost
abbrev pub KeepsOrLoses : Option (List ℕ) → Option (List ℕ) → Type 0
KeepsOrLoses old None = ⊤
KeepsOrLoses old (Some ys) = Keeps old (Some ys)

-- One read. Ok(n) gives the next n bytes, no byte only at the end or to an empty buffer.
abbrev pub Reads : {E : Type 0} → Option (List ℕ) → Option (List ℕ) → Result ℕ E → List ℕ → Type 0
Reads old new r buffer =
    MatchResult r (λ n. Consumes old new (take n buffer) × (n ≡ 0 → 0 < length buffer → IsAtEnd new))
    (λ _. KeepsOrLoses old new)

-- The source gave bs, and has the bytes after them left, where what it has left is still known.
abbrev pub Gives : Option (List ℕ) → Option (List ℕ) → List ℕ → Type 0
Gives None new bs = ⊤
Gives (Some xs) None bs = (rest : List ℕ) × (xs ≡ bs ++ rest)
Gives (Some xs) (Some ys) bs = xs ≡ bs ++ ys
