-- The contents of a pass, and the change that a list of pieces makes to them.
use Rattle.std.specs.Prelude.{ℕ, Bool, true, false, ◌&&◌, ◌||◌, List, ◌++◌, nat_eq}
use Rattle.sql_dialect.specs.declared.backend.Dialect.{Dialect}
use Rattle.sql_dialect.specs.Written.{numbers, MAX_BINDS}
use Rattle.sql_pass.specs.Bytes.{is_too_long}
use Rattle.sql_pass.specs.Collected.{Collected, with_values}
use Rattle.sql_pass.specs.Pieces.{Piece, Text, Ident, Bind, ValueOnly, Unsafe, text_of, count_of, values_of, is_safe, is_noop}
use Rattle.sql_pass.specs.declared.value.Bound.{Bound}
use Rattle.sql_pass.specs.declared.pass.AstPass.{AstPass}
use Rattle.sql_pass.specs.declared.pass.AstPass.TheVariants as P
use Rattle.sql_pass.specs.declared.pass.PassError.{PassError}
use Rattle.sql_pass.specs.declared.pass.PassError.TheVariants.{NoMemory, TooManyBinds, TooLong}

-- The backend, and the text with the count of its placeholders, the bytes of the values with their types, whether no
-- piece was unsafe, the values, or whether nothing was written.
pub data Held (D : Type 0) : Type 0 where
  text_so_far : D → List ℕ → ℕ → Held D
  collected : D → Collected → Held D
  safe : D → Bool → Held D
  shown : D → List Bound → Held D
  noop : D → Bool → Held D

-- the same after the pieces; the backend stays
unfoldable pub after : {D : Type 0} → Dialect → Held D → List Piece → Held D
after d (text_so_far x t n) ps = text_so_far x (t ++ text_of d n ps) (count_of d n ps)
after d (collected x c) ps = collected x (with_values d c (values_of ps))
after d (safe x b) ps = safe x (b && is_safe ps)
after d (shown x vs) ps = shown x (vs ++ values_of ps)
after d (noop x b) ps = noop x (b && is_noop ps)

-- whether the last number of a placeholder is taken
abbrev pub is_full : {D : Type 0} → Dialect → Held D → Bool
is_full d (text_so_far x t n) = numbers d && nat_eq n MAX_BINDS
is_full d (collected x c) = false
is_full d (safe x b) = false
is_full d (shown x vs) = false
is_full d (noop x b) = false

-- whether bytes are gathered, for which a list may be too long
abbrev pub gathers_bytes : {D : Type 0} → Held D → Bool
gathers_bytes (text_so_far x t n) = false
gathers_bytes (collected x c) = true
gathers_bytes (safe x b) = false
gathers_bytes (shown x vs) = false
gathers_bytes (noop x b) = false

abbrev pub takes_memory : {D : Type 0} → Held D → Bool
takes_memory (text_so_far x t n) = true
takes_memory (collected x c) = true
takes_memory (safe x b) = false
takes_memory (shown x vs) = true
takes_memory (noop x b) = false

abbrev pub is_bind : Piece → Bool
is_bind (Text t) = false
is_bind (Ident t) = false
is_bind (Bind b) = true
is_bind (ValueOnly b) = true
is_bind Unsafe = false

-- whether it binds a list that is too long, or one that has an element which is
abbrev pub is_long_bind : Piece → Bool
is_long_bind (Text t) = false
is_long_bind (Ident t) = false
is_long_bind (Bind b) = is_too_long b
is_long_bind (ValueOnly b) = is_too_long b
is_long_bind Unsafe = false

-- whether a push of that piece may be refused with that error
unfoldable pub refuses : {D : Type 0} → Dialect → Held D → Piece → PassError → Bool
refuses d h p NoMemory = takes_memory h
refuses d h p TooManyBinds = is_full d h && is_bind p
refuses d h p TooLong = gathers_bytes h && is_long_bind p

-- whether it is refused, whatever memory there is
unfoldable pub is_refused : {D : Type 0} → Dialect → Held D → Piece → Bool
is_refused d h p = refuses d h p TooManyBinds || refuses d h p TooLong

-- what a pass holds, where its builder's text and count are known
abbrev pub held : {D B : Type 0} → (B → List ℕ) → (B → ℕ) → AstPass D B → Held D
held written counted (P.ToSql b d) = text_so_far d (written b) (counted b)
held written counted (P.CollectBinds c d) = collected d c
held written counted (P.IsSafe b d) = safe d b
held written counted (P.DebugBinds v d) = shown d v.items
held written counted (P.IsNoop b d) = noop d b

-- the backend of a pass
abbrev pub backend_of : {D B : Type 0} → AstPass D B → D
backend_of (P.ToSql b d) = d
backend_of (P.CollectBinds c d) = d
backend_of (P.IsSafe b d) = d
backend_of (P.DebugBinds v d) = d
backend_of (P.IsNoop b d) = d
