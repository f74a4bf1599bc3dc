-- What the functions inside `generate` promise: the program's own counters.
use Rattle.std.specs.Prelude.{◌≡◌, ℕ, zero, suc, ◌+◌, List, [], ◌∷◌, ◌++◌, length, Bool, Option, Some, None}
use Rattle.std.specs.BTreeMap.{get_by_text}
use Rattle.std.specs.Map.{update}
use Rattle.std.specs.Option.{unwrap_or}
use Rattle.std.specs.Str.{bytes_eq}
use Rattle.sql_tool_build.specs.Output.{Line}
use Rattle.sql_tool_generate.specs.Counts.{one_if, accepted, binds, bytes, ids, refused_as}
use Rattle.sql_tool_generate.specs.Summary.{cut}
use Rattle.sql_tool_generate.specs.declared.counts.Counts.{Counts}

-- ---- what a look-up by name has of lines

-- a count that a map holds: none for zero
abbrev pub kept : ℕ → Option ℕ
kept zero = None
kept (suc n) = Some (suc n)

-- it has how many lines each name refused
abbrev pub HasRefusals : (List ℕ → Option ℕ) → List Line → Type 0
HasRefusals f ls = (name : List ℕ) → f name ≡ kept (cut (refused_as name ls))

-- ---- what a request adds

abbrev pub raised : ℕ → ℕ → ℕ
raised a b = cut (a + b)

-- an accepted one, with so many values and bytes, whose id is its own number or not
abbrev pub with_accepted : ℕ → ℕ → Bool → Counts → Counts
with_accepted values text is_own c =
    record {
      accepted = raised c.accepted 1;
      binds = raised c.binds values;
      bytes = raised c.bytes text;
      ids = raised c.ids (one_if is_own);
      refused = c.refused;
      requests = raised c.requests 1;
    }

-- one more at that name
abbrev pub IsRaisedAt : List ℕ → (List ℕ → Option ℕ) → (List ℕ → Option ℕ) → Type 0
IsRaisedAt name f g = (q : List ℕ) → g q ≡ update bytes_eq f name (Some (raised (unwrap_or (f name) 0) 1)) q

-- a refused one, by the refusal's name
pub record IsWithRefused (name : List ℕ) (old new : Counts) : Type 0 where
  pub accepted : new.accepted ≡ old.accepted
  pub binds : new.binds ≡ old.binds
  pub bytes : new.bytes ≡ old.bytes
  pub ids : new.ids ≡ old.ids
  pub refused : IsRaisedAt name (get_by_text old.refused) (get_by_text new.refused)
  pub requests : new.requests ≡ raised old.requests 1

-- ---- what counters tell

-- the counters tell of these lines
pub record Tell (c : Counts) (ls : List Line) : Type 0 where
  pub accepted : c.accepted ≡ cut (accepted ls)
  pub binds : c.binds ≡ cut (binds ls)
  pub bytes : c.bytes ≡ cut (bytes ls)
  pub ids : c.ids ≡ cut (ids ls)
  pub refused : HasRefusals (get_by_text c.refused) ls
  pub requests : c.requests ≡ cut (length ls)

-- where the old counters tell of the lines before the one with number n, the new ones tell of that line too
abbrev pub TellMore : ℕ → Counts → Counts → Line → Type 0
TellMore n old new l = (ls : List Line) → n ≡ 1 + length ls → Tell old ls → Tell new (ls ++ l ∷ [])
